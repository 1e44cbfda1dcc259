-- The masks that the code puts on the word, as what the edges do to the flags.
use Prim.Native.Nat.{ℕ, ◌<◌}
use native.Mathlib.Omega.{arith}
use native.Mathlib.Decide.{ℕ_discrete}
use mathlib.Core.Path.{◌≡◌, refl, sym, ap, ◌∙◌}
use mathlib.Core.Bool.{Bool, true, false, cond, not, ◌&&◌, ◌||◌, and-true, and-false, false≢true}
use mathlib.Core.List.{List}
use lib.Dec.{eqb}
use lib.Bits.{bit_and, bit_or}
use borrow.Author.Tests.{ne_eqb}
use Rattle.memory.specs.Image.{digit, bit}
use Rattle.memory.proofs.Below.{all}
use Rattle.rules.specs.Halves.{EC_EN, unblown}
use Rattle.rules.specs.Lines.{high, place}
use Rattle.rules.specs.Zones.{between}
use Rattle.theorems.proofs.Between.{under, bounds}
use Rattle.rules.specs.Match.{arrived, ends_match}
use Rattle.rules.specs.Steps.{follows, clk_rises, unlatched}
use Rattle.volatile.specs.declared.Volatile.{Volatile}
use Rattle.volatile.specs.Packed.{word, packed, unpacked, gone_on, programmed_half, arrival_flags, opening_flags}
use Rattle.volatile.proofs.Packing.{OfFlags, at_digits, masked_flags}

abbrev pub half : ℕ → ℕ → ℕ → Volatile
half lines address flags = record { lines = lines; address = address; flags = flags }

-- The half whose word is made of a mask of v's, by one test over all words of seven flags.
module _ (v : Volatile) (n a : ℕ) where
  masked_half :
      (f : ℕ → ℕ) (c : ℕ) (g : OfFlags) → c < 128 → all 128 (λ (x : ℕ). eqb (f (bit_and x c)) (at_digits g x)) ≡ true →
      half n a (f (bit_and v.flags c)) ≡ half n a (at_digits g v.flags)
  masked_half f c g h t = ap (half n a) (masked_flags f c g h t v.flags)

  -- Of the flags alone.
  kept_half :
      (c : ℕ) (g : OfFlags) → c < 128 → all 128 (λ (x : ℕ). eqb (bit_and x c) (at_digits g x)) ≡ true →
      half n a (bit_and v.flags c) ≡ half n a (at_digits g v.flags)
  kept_half = masked_half (λ (x : ℕ). x)

module _ (v : Volatile) (n : ℕ) where
  -- The lines only follow.
  pub follow_word : half n v.address (bit_and v.flags 127) ≡ packed (follows n (unpacked v))
  unfolding packed follows unpacked all digit word
  follow_word = kept_half v n v.address 127 word (omega arith) refl

  -- Address 0, by RST's fall or by CLK's: E1 and match end.
  pub reset_word : (m : List ℕ) (fuses : ℕ) → half n 0 (bit_and v.flags 31) ≡ packed (arrived m fuses 0 (follows n (unpacked v)))
  unfolding packed arrived ends_match follows unpacked all digit word
  reset_word m fuses =
      kept_half v n 0 31 (λ sv p1 r1 programming latch e1 matched. word sv p1 r1 programming latch false false) (omega arith) refl

  -- CLK falls without programming, and match is what the compare gives.
  pub unlatched_word :
      (t : Bool) →
      half n v.address (cond t (bit_or (bit_and v.flags 39) 64) (bit_and v.flags 39)) ≡ packed (unlatched n t (unpacked v))
  unfolding packed unlatched unpacked all digit word
  unlatched_word true =
      masked_half v n v.address (λ (x : ℕ). bit_or x 64) 39
      (λ sv p1 r1 programming latch e1 matched. word sv p1 r1 false false e1 true) (omega arith) refl
  unlatched_word false =
      kept_half v n v.address 39 (λ sv p1 r1 programming latch e1 matched. word sv p1 r1 false false e1 false) (omega arith) refl

  -- CLK falls where nothing is compared and nothing comes.
  pub gone_on_word : (a : ℕ) → half n a (bit_and v.flags 103) ≡ packed (gone_on n a (unpacked v))
  unfolding packed gone_on unpacked all digit word
  gone_on_word a = kept_half v n a 103 (λ sv p1 r1 programming latch. word sv p1 r1 false false) (omega arith) refl

  -- CLK's rise takes programming and the latch from the step.
  pub rise_word : half n v.address (bit_or (bit_and v.flags 103) (bit_and n 24)) ≡ packed (clk_rises n (unpacked v))
  unfolding packed clk_rises unpacked all digit word high place
  rise_word =
      ap (λ (x : ℕ). half n v.address (bit_or (bit_and v.flags 103) x))
      (masked_flags (λ (x : ℕ). x) 24 (λ sv p1 r1 programming latch e1 matched. word false false false programming latch false false)
      (omega arith) refl n) ∙
      takes (digit 3 n) (digit 4 n)
    where
      taken : Bool → Bool → OfFlags
      taken p l sv p1 r1 programming latch = word sv p1 r1 p l

      takes :
          (p l : Bool) →
          half n v.address (bit_or (bit_and v.flags 103) (word false false false p l false false)) ≡
          half n v.address (at_digits (taken p l) v.flags)
      takes true true = masked_half v n v.address (λ (x : ℕ). bit_or x 24) 103 (taken true true) (omega arith) refl
      takes true false = masked_half v n v.address (λ (x : ℕ). bit_or x 8) 103 (taken true false) (omega arith) refl
      takes false true = masked_half v n v.address (λ (x : ℕ). bit_or x 16) 103 (taken false true) (omega arith) refl
      takes false false = masked_half v n v.address (λ (x : ℕ). bit_or x 0) 103 (taken false false) (omega arith) refl

-- Arriving.
module _ (m : List ℕ) (fuses : ℕ) (v : Volatile) where
  pub arrive_at_0 : half v.lines 0 (bit_and v.flags 31) ≡ packed (arrived m fuses 0 (unpacked v))
  unfolding follows unpacked
  arrive_at_0 = reset_word v v.lines m fuses

  -- Match ends.
  abbrev unmatched : OfFlags
  unmatched sv p1 r1 programming latch e1 matched = word sv p1 r1 programming latch e1 false

  unmatched_word : (a : ℕ) → half v.lines a (bit_and v.flags 63) ≡ half v.lines a (at_digits unmatched v.flags)
  unfolding all digit word
  unmatched_word a = kept_half v v.lines a 63 unmatched (omega arith) refl

  pub arrive_at_104 : half v.lines 104 (bit_and v.flags 63) ≡ packed (arrived m fuses 104 (unpacked v))
  unfolding packed arrived ends_match unpacked
  arrive_at_104 = unmatched_word 104

  pub arrive_at_1360 : half v.lines 1360 (bit_and v.flags 63) ≡ packed (arrived m fuses 1360 (unpacked v))
  unfolding packed arrived ends_match unpacked
  arrive_at_1360 = unmatched_word 1360

  -- A flag that comes where t, by its place in the word.
  comes :
      (a k : ℕ) (g : Bool → OfFlags) → all 128 (λ (x : ℕ). eqb (bit_or (bit_and x 127) k) (at_digits (g true) x)) ≡ true →
      all 128 (λ (x : ℕ). eqb (bit_or (bit_and x 127) 0) (at_digits (g false) x)) ≡ true → (t : Bool) →
      half v.lines a (bit_or (bit_and v.flags 127) (cond t k 0)) ≡ half v.lines a (at_digits (g t) v.flags)
  comes a k g set kept true = masked_half v v.lines a (λ (x : ℕ). bit_or x k) 127 (g true) (omega arith) set
  comes a k g set kept false = masked_half v v.lines a (λ (x : ℕ). bit_or x 0) 127 (g false) (omega arith) kept

  -- At 176, 177 and 1232 a flag may come, elsewhere none.
  pub arrive_elsewhere :
      (a : ℕ) → (a ≡ 0 → ⊥) → (a ≡ 104 → ⊥) → (a ≡ 1360 → ⊥) →
      half v.lines a (bit_or (bit_and v.flags 127) (arrival_flags m fuses a (digit 6 v.flags))) ≡
      packed (arrived m fuses a (unpacked v))
  unfolding packed arrived ends_match unpacked arrival_flags all digit word
  arrive_elsewhere a h0 h104 h1360 = go (ℕ_discrete a 176) (ℕ_discrete a 177) (ℕ_discrete a 1232)
    where
      go :
          Dec (a ≡ 176) → Dec (a ≡ 177) → Dec (a ≡ 1232) →
          half v.lines a (bit_or (bit_and v.flags 127) (arrival_flags m fuses a (digit 6 v.flags))) ≡
          packed (arrived m fuses a (unpacked v))
      go (yes e) d f = rw e (comes 176 2 (λ t sv p1. word sv (t || p1)) refl refl (bit m 176))
      go (no e) (yes d) f = rw d (comes 177 4 (λ t sv p1 r1. word sv p1 (t || r1)) refl refl (bit m 177))
      go (no e) (no d) (yes f) =
          rw f
          (comes 1232 32 (λ t sv p1 r1 programming latch e1. word sv p1 r1 programming latch (t || e1)) refl refl
          (not (unblown EC_EN fuses) && digit 6 v.flags))
      go (no e) (no d) (no f) =
          rw (ne_eqb a 0 h0, ne_eqb a 104 h104, ne_eqb a 1360 h1360, ne_eqb a 176 e, ne_eqb a 177 d, ne_eqb a 1232 f)
          (comes a 0 (λ t. word) refl refl false)

pub ruleset arrive = (arrive_at_0, arrive_at_104, arrive_at_1360, arrive_elsewhere)

-- The two places where an operation sets a flag lie apart.
apart : (a : ℕ) → between 96 103 a ≡ true → between 1232 1359 a ≡ false
apart a e = under 1232 1359 a (omega (arith, bounds 96 103 a e))

-- Programming's end.
module _ (v : Volatile) (n : ℕ) (l1 ec_en turned : Bool) where
  -- SV comes where s, E1 where e.
  abbrev opened : Bool → Bool → OfFlags
  opened s e sv p1 r1 programming latch e1 = word (s || sv) p1 r1 false false (e || e1)

  ends :
      (s e : Bool) → (s ≡ true → e ≡ false) →
      half n v.address (bit_or (bit_and v.flags 103) (cond s 1 (cond e 32 0))) ≡
      half n v.address (at_digits (opened s e) v.flags)
  unfolding all digit word
  ends true e h =
      rw (h refl) (masked_half v n v.address (λ (x : ℕ). bit_or x 1) 103 (opened true false) (omega arith) refl)
  ends false true h = masked_half v n v.address (λ (x : ℕ). bit_or x 32) 103 (opened false true) (omega arith) refl
  ends false false h = masked_half v n v.address (λ (x : ℕ). bit_or x 0) 103 (opened false false) (omega arith) refl

  -- The tests in the code's order and in the definition's.
  in_scac : (p t u : Bool) → (p && (t && u)) ≡ (p && (u && t))
  in_scac true true u = sym (and-true u)
  in_scac true false u = sym (and-false u)
  in_scac false t u = refl

  in_ec : (q t u : Bool) → (q && (t && u && (not l1 && ec_en))) ≡ (q && (u && (not l1 && (ec_en && t))))
  in_ec true true u = rw (and-true ec_en)
  in_ec true false true = rw (and-false ec_en, and-false (not l1))
  in_ec true false false = refl
  in_ec false t u = refl

  first_only : (p q r s : Bool) → (p ≡ true → q ≡ false) → (p && r) ≡ true → (q && s) ≡ false
  first_only true q r s h e = rw (h refl)
  first_only false q r s h e = absurd (false≢true e)

  pub programmed_word :
      half n v.address (bit_or (bit_and v.flags 103) (opening_flags v.address l1 ec_en (turned && digit 6 v.flags))) ≡
      packed (programmed_half l1 ec_en turned n (unpacked v))
  unfolding packed programmed_half unpacked opening_flags
  programmed_word =
      let p = between 96 103 v.address in
      let q = between 1232 1359 v.address in
      let u = digit 6 v.flags in
      rw (in_scac p turned u, in_ec q turned u)
      (ends (p && (u && turned)) (q && (u && (not l1 && (ec_en && turned))))
      (first_only p q (u && turned) (u && (not l1 && (ec_en && turned))) (apart v.address)))
