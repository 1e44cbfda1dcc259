-- The attempts counter, bits 96 to 111: what may be done there, what it does, and where the first try is.
use Prim.Native.Nat.{ℕ, zero, suc, ◌+◌, ◌-◌, ◌/◌, ◌%◌, ◌≤◌, ◌<◌, suc-le-suc}
use native.Mathlib.Omega.{arith}
use native.Mathlib.Decide.{dec_le, ℕ_discrete}
use mathlib.Core.Path.{◌≡◌, refl, sym, ap, ◌∙◌}
use mathlib.Core.Bool.{Bool, true, false, cond, ◌&&◌, ◌||◌, and-true, false≢true}
use mathlib.Core.List.{List, ◌++◌}
use lib.Dec.{eqb, leb, ltb}
use lib.ListN.{length, get_or}
use lib.Seq.{set-set}
use borrow.Author.Tests.{lt-leb, le-leb, lt-ltb, eq-eqb, ne_eqb}
use Rattle.memory.specs.Image.{bytes, digit, bit, written, erased_word}
use Rattle.memory.proofs.Laws.{bit_erased}
use Rattle.rules.specs.declared.Zone.TheVariants.{SCAC}
use Rattle.rules.specs.declared.Operation.{Operation}
use Rattle.rules.specs.declared.Operation.TheVariants.{Nothing, WriteBit, EraseWord}
use Rattle.rules.specs.Zones.{between, zone}
use Rattle.rules.specs.Rights.{Held, held, level1, granted}
use Rattle.rules.specs.Programming.{operation, asks, may_program, memory_after, fuses_after, turns, opens, key_opens}
use Rattle.rules.specs.Halves.{Card, EC_EN, unblown}
use Rattle.rules.specs.Lines.{CLK, mask}
use Rattle.rules.specs.Steps.{programmed}
use Rattle.rules.specs.Maker.{zeros_before, io, idle, program}
use Rattle.rules.specs.Computing.{the_card}
use Rattle.theorems.proofs.Between.{within, under}
use Rattle.theorems.proofs.Macros.{Leads, then, ready, on, programs}

zone_scac : (a : ℕ) → 96 ≤ a → a ≤ 111 → zone a ≡ SCAC
unfolding zone
zone_scac a low high =
    rw (lt-leb a 15 (omega arith), lt-leb a 79 (omega arith), lt-leb a 95 (omega arith), le-leb a 111 (omega arith))

-- SCAC: write "yes", erase "SV", at both levels.
granted_scac : (l1 ec_en d : Bool) (a : ℕ) (h : Held) → granted (asks l1 ec_en d a SCAC) h ≡ cond d h.sv true
unfolding the_card
granted_scac true ec_en true a h = and-true h.sv
granted_scac true ec_en false a h = refl
granted_scac false ec_en true a h = and-true h.sv
granted_scac false ec_en false a h = refl

-- What programming d does there: the write always, the erase with SV.
act : Bool → Bool → Operation
act d sv = cond (cond d sv true) (cond d EraseWord WriteBit) Nothing

act_blows_none : (d sv : Bool) (fuses : ℕ) → fuses_after (act d sv) fuses ≡ fuses
unfolding act fuses_after
act_blows_none true true fuses = refl
act_blows_none true false fuses = refl
act_blows_none false sv fuses = refl

operation_scac : (h : Held) (ec_en d : Bool) (a : ℕ) → 96 ≤ a → a ≤ 111 → operation h ec_en false d a ≡ act d h.sv
unfolding operation may_program act
operation_scac h ec_en d a low high = rw (zone_scac a low high, granted_scac (level1 h) ec_en d a h)

module _ (c : Card) where
  takes_effect_lem : (n levels : ℕ) (d : Bool) (m : List ℕ) (a : ℕ) (sv matched : Bool) → 96 ≤ a → a ≤ 103 →
      programmed (act d sv) n (on c levels d true m a sv false matched) ≡
      on c n false false (memory_after (act d sv) a m) a (opens (act d sv) m a matched || sv) false matched
  unfolding programmed key_opens
  takes_effect_lem n levels d m a sv matched low high = rw (under 1232 1359 a (omega arith), act_blows_none d sv c.fuses)

  -- "program d" at a try.
  programs_counter : (fus d : Bool) (m : List ℕ) (a : ℕ) (sv matched : Bool) → 96 ≤ a → a ≤ 103 →
      Leads (ready c fus true m a sv matched) (program fus d)
      (ready c fus true (memory_after (act d sv) a m) a (opens (act d sv) m a matched || sv) matched)
  unfolding idle io held
  programs_counter fus d m a sv matched low high =
      let levels = idle fus + mask CLK in
      let v = (on c levels d true m a sv false matched).volatile in
      rw (
        ← takes_effect_lem (idle fus) levels d m a sv matched low high,
        ← operation_scac (held c.fuses v) (unblown EC_EN c.fuses) d a low (omega arith),
      )
      (programs c m a sv matched fus d)

  -- "write, erase" at a try that is still there: with the match the card opens and its word is erased, without it the try is spent.
  pub uses_try : (fus : Bool) (m : List ℕ) (a : ℕ) (matched : Bool) → 96 ≤ a → a ≤ 103 → bit m a ≡ true →
      Leads (ready c fus true m a false matched) (program fus false ++ program fus true)
      (ready c fus true (cond matched (erased_word (written m a) a) (written m a)) a matched matched)
  unfolding act opens memory_after turns
  uses_try fus m a true low high there =
      then
      (rw (within 96 103 a low high, there) at (programs_counter fus false m a false true low high))
      (rw (within 96 103 a low high) at (programs_counter fus true (written m a) a true true low high))
  uses_try fus m a false low high there =
      then
      (rw (within 96 103 a low high) at (programs_counter fus false m a false false low high))
      (rw (within 96 103 a low high) at (programs_counter fus true (written m a) a false false low high))

-- "the number of zeros before the first one": there the digit is a one.
first_one : (width x : ℕ) → zeros_before width x < width → digit (width - 1 - zeros_before width x) x ≡ true
unfolding zeros_before
first_one zero x h = absurd (omega arith)
first_one (suc width) x h = go (digit width x) refl h (λ l. first_one width x l)
  where
    z : ℕ
    z = zeros_before width x

    go : (b : Bool) → digit width x ≡ b → cond b 0 (suc z) < suc width →
        (z < width → digit (width - 1 - z) x ≡ true) → digit (suc width - 1 - cond b 0 (suc z)) x ≡ true
    go true e l rest = let top : suc width - 1 - 0 ≡ width = omega arith in rw top e
    go false e l rest = let lower : suc width - 1 - suc z ≡ width - 1 - z = omega arith in rw lower (rest (omega arith))

-- "k is the number of zeros before the first one in that byte": bit 96 + k is a one.
pub first_try_lem : (m : List ℕ) → zeros_before 8 (get_or m 12 0) < 8 → bit m (96 + zeros_before 8 (get_or m 12 0)) ≡ true
unfolding bit
first_try_lem m h =
    let k = zeros_before 8 (get_or m 12 0) in
    let byte : (96 + k) / 8 ≡ 12 = omega arith in
    let place : 7 - (96 + k) % 8 ≡ 8 - 1 - k = omega arith in
    rw (byte, place) (first_one 8 (get_or m 12 0) h)

-- Where a digit is a one, some zeros, and not all, come before the first one.
one_found : (width x j : ℕ) → j < width → digit j x ≡ true → zeros_before width x < width
unfolding zeros_before
one_found zero x j h one = absurd (omega arith)
one_found (suc width) x j h one = go (digit width x) refl (λ l. one_found width x j l one)
  where
    go : (b : Bool) → digit width x ≡ b → (j < width → zeros_before width x < width) → cond b 0 (suc (zeros_before width x)) < suc width
    go true e rest = omega arith
    go false e rest = suc-le-suc (rest (below (ℕ_discrete j width)))
      where
        below : Dec (j ≡ width) → j < width
        below (yes q) = absurd (false≢true (sym e ∙ (rw q at one)))
        below (no q) = omega arith

-- "a try that is still there": a one in bits 96 to 103 is all that the first try asks for.
pub try_there : (m : List ℕ) (a : ℕ) → 96 ≤ a → a ≤ 103 → bit m a ≡ true → 96 + zeros_before 8 (get_or m 12 0) < 104
unfolding bit
try_there m a low high one =
    let byte : a / 8 ≡ 12 = omega arith in
    let found = one_found 8 (get_or m 12 0) (7 - a % 8) (omega arith) (rw byte at one) in
    omega arith

-- Erasing the word after a write in it: nothing of the write is left.
pub erased_after_write : (m : List ℕ) (k : ℕ) → k < 8 → erased_word (written m (96 + k)) (96 + k) ≡ erased_word m 96
unfolding erased_word written
erased_after_write m k h =
    let byte : (96 + k) / 8 ≡ 12 = omega arith in
    let word : (96 + k) / 16 ≡ 6 = omega arith in
    rw (byte, word) (rw (set-set m 12 _ 255))

-- The word erased at 96: all 16 bits are ones, and no other has changed.
pub word_restored : (m : List ℕ) (a : ℕ) → length m ≡ bytes → bit (erased_word m 96) a ≡ (between 96 111 a || bit m a)
unfolding between
word_restored m a sized = rw (bit_erased m 96 a, sized) (ap (λ (t : Bool). t || bit m a) (go (dec_le 96 a) (dec_le a 111)))
  where
    go : Dec (96 ≤ a) → Dec (a ≤ 111) → (eqb 6 (a / 16) && ltb (a / 8) 174) ≡ (leb 96 a && leb a 111)
    go (yes low) (yes high) =
        rw (le-leb 96 a low, le-leb a 111 high, eq-eqb 6 (a / 16) (omega arith), lt-ltb (a / 8) 174 (omega arith))
    go (no low) d = rw (lt-leb 96 a (omega arith), ne_eqb 6 (a / 16) (omega arith))
    go (yes low) (no high) = rw (le-leb 96 a low, lt-leb a 111 (omega arith), ne_eqb 6 (a / 16) (omega arith))
