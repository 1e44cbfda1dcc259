-- The mask of what is missing as the code sums it up, and the state check as the code puts it together.
use Prim.Native.Nat.{ℕ, zero, suc, ◌+◌, ◌*◌, ◌/◌, ◌%◌, ◌^◌, ◌<◌, min}
use native.Mathlib.Omega.{arith}
use native.Mathlib.Nat.{mod-lt, zero-min, pow-suc}
use mathlib.Core.Path.{◌≡◌, refl, sym, ap, ◌∙◌}
use mathlib.Core.Bool.{Bool, true, false, cond, not, ◌&&◌, ◌||◌, beq, and-true, false≢true}
use lib.Dec.{eqb, ltb}
use lib.Bits.{bit_and, and_step, and_zero_l}
use borrow.Author.Tests.{ltb-false, eq-eqb, ne_eqb}
use Rattle.memory.specs.Image.{digit}
use Rattle.memory.proofs.Below.{all}
use Rattle.rules.specs.Lines.{VCC, RST, PGM, high, place}
use Rattle.rules.specs.Rights.{Held, held, level1, met, granted, lacking}
use Rattle.rules.specs.Zones.{between, zone, is_fuse}
use Rattle.rules.specs.Refusals.{any_set, made_up}
use Rattle.rules.specs.declared.Operation.TheVariants.{Nothing}
use Rattle.rules.specs.Halves.{EC_EN, unblown}
use Rattle.rules.specs.Halves as Halves
use Rattle.rules.specs.Programming.{asks, may_program, effect, operation, may_program_now, operation_now}
use Rattle.rules.specs.Reason.{missing}
use Rattle.theorems.proofs.Missing.{asking_law}
use Rattle.volatile.specs.declared.Volatile.{Volatile}
use Rattle.volatile.specs.Packed.{one, unpacked, made_up_word}
use Rattle.volatile.proofs.Packing.{digit_one, halves, last_digit, digit_low, agree_below, masked_test}

as_one : (b : Bool) (m : ℕ) → cond b 0 m ≡ m * one (not b)
as_one true m = omega arith
as_one false m = omega arith

-- The mask of what is missing, digit by digit.
unfoldable nested : Held → ℕ
nested h =
    1 + 2 * (one (not h.sv) + 2 * (one (not h.p1) + 2 * (one (not h.e1) + 2 * (one (not h.mf) + 2 * (one (not h.iss) +
    2 * (one (not h.fus) + 2 * one (not (h.sv || h.r1))))))))

lacking_nested : (h : Held) → lacking h ≡ nested h
unfolding lacking nested
lacking_nested h =
    rw (
      as_one h.sv 2,
      as_one h.p1 4,
      as_one h.e1 8,
      as_one h.mf 16,
      as_one h.iss 32,
      as_one h.fus 64,
      as_one (h.sv || h.r1) 128,
    )
    (omega arith)

-- A word of flags is not zero exactly where one of them is set.
any_flag :
    (x : ℕ) → x < 128 →
    not (eqb x 0) ≡ (digit 0 x || (digit 1 x || (digit 2 x || (digit 5 x || (digit 6 x || (digit 4 x || digit 3 x))))))
unfolding all digit
any_flag =
    agree_below 128 (λ (y : ℕ). not (eqb y 0))
    (λ (y : ℕ). digit 0 y || (digit 1 y || (digit 2 y || (digit 5 y || (digit 6 y || (digit 4 y || digit 3 y))))))
    refl

-- No digit is set in both numbers, of the lowest k.
unfoldable apart_in : ℕ → ℕ → ℕ → Bool
apart_in zero a b = true
apart_in (suc k) a b = not (digit 0 a && digit 0 b) && apart_in k (a / 2) (b / 2)

low_apart : (a b : ℕ) → eqb (min (a % 2) (b % 2)) 0 ≡ not (digit 0 a && digit 0 b)
unfolding digit
low_apart a b = go (a % 2) (b % 2) (mod-lt a (omega arith)) (mod-lt b (omega arith))
  where
    go : (x y : ℕ) → x < 2 → y < 2 → eqb (min x y) 0 ≡ not (eqb x 1 && eqb y 1)
    go zero zero h k = refl
    go zero (suc y) h k = rw (zero-min (suc y))
    go (suc zero) zero h k = refl
    go (suc zero) (suc zero) h k = refl
    go (suc zero) (suc (suc y)) h k = absurd (omega arith)
    go (suc (suc x)) y h k = absurd (omega arith)

doubled : (x y : ℕ) → eqb (x * 2 + y) 0 ≡ (eqb y 0 && eqb x 0)
doubled zero zero = refl
doubled zero (suc y) = rw (ne_eqb (0 * 2 + suc y) 0 (omega arith), ne_eqb (suc y) 0 (omega arith))
doubled (suc x) zero = rw (ne_eqb (suc x * 2 + 0) 0 (omega arith), ne_eqb (suc x) 0 (omega arith))
doubled (suc x) (suc y) = rw (ne_eqb (suc x * 2 + suc y) 0 (omega arith), ne_eqb (suc y) 0 (omega arith))

masks_apart : (k a b : ℕ) → a < 2 ^ k → eqb (bit_and a b) 0 ≡ apart_in k a b
unfolding apart_in
masks_apart zero a b h =
    let none : a ≡ 0 = omega arith in
    ap (λ (x : ℕ). eqb (bit_and x b) 0) none ∙ ap (λ (x : ℕ). eqb x 0) (and_zero_l b)
masks_apart (suc k) a b h =
    let half : a / 2 < 2 ^ k = omega (arith, rw (pow-suc 2 k) at h) in
    rw (and_step a b, doubled (bit_and (a / 2) (b / 2)) (min (a % 2) (b % 2)), low_apart a b, masks_apart k (a / 2) (b / 2) half)

asked_met : (d t : Bool) → not (d && not t) ≡ met d t
asked_met true true = refl
asked_met true false = refl
asked_met false t = refl

-- One thing that may be asked for, against a mask of what is missing from there on.
peeled :
    (k a y : ℕ) (t rest : Bool) → apart_in k (a / 2) y ≡ rest → apart_in (suc k) a (one (not t) + 2 * y) ≡ (met (digit 0 a) t && rest)
unfolding apart_in
peeled k a y t rest e = rw (digit_one (not t) y, asked_met (digit 0 a) t, halves (not t) y, e)

-- The last of them.
peeled_last : (a : ℕ) (t : Bool) → apart_in 1 a (one (not t)) ≡ met (digit 0 a) t
unfolding apart_in
peeled_last a t = rw (last_digit (not t), asked_met (digit 0 a) t, and-true (met (digit 0 a) t))

never_met : (d rest : Bool) → (met d false && rest) ≡ (not d && rest)
never_met true rest = refl
never_met false rest = refl

-- A right is granted exactly where its mask holds nothing that is missing.
pub granted_mask : (asked : ℕ) → asked < 256 → (h : Held) → eqb (bit_and asked (lacking h)) 0 ≡ granted asked h
unfolding nested granted digit
granted_mask asked small h =
    ap (λ (x : ℕ). eqb (bit_and asked x) 0) (lacking_nested h) ∙
    (masks_apart 8 asked (nested h) small ∙
    (peeled 7 _ _ false _
    (peeled 6 _ _ h.sv _
    (peeled 5 _ _ h.p1 _
    (peeled 4 _ _ h.e1 _
    (peeled 3 _ _ h.mf _ (peeled 2 _ _ h.iss _ (peeled 1 _ _ h.fus _ (peeled_last _ (h.sv || h.r1)))))))) ∙
    never_met (digit 0 asked) _))

-- The tests of the state check after the first, as the code puts them together.
abbrev later_tests : Volatile → Bool
later_tests v =
    ltb 63 v.lines ||
    (ltb 1519 v.address ||
    (not (digit 0 v.lines) && (not (eqb v.address 0) || not (eqb v.flags 0)) ||
    (digit 4 v.flags && not (digit 2 v.lines) ||
    (digit 3 v.flags && not (digit 2 v.lines) ||
    (digit 0 v.lines && (digit 2 v.lines && (digit 3 v.lines && not (digit 3 v.flags))) ||
    (digit 6 v.flags && not (between 81 103 v.address || between 1201 1359 v.address) ||
    digit 5 v.flags && not (between 1232 1519 v.address)))))))

pub checked_together : (v : Volatile) → (ltb 127 v.flags || later_tests v) ≡ made_up_word v
unfolding made_up_word made_up unpacked any_set high place
checked_together v = go (ltb 127 v.flags) refl
  where
    go : (t : Bool) → ltb 127 v.flags ≡ t → (t || later_tests v) ≡ (t || made_up (unpacked v))
    go true e = refl
    go false e =
        let small : v.flags < 128 = omega (arith, ltb-false 127 v.flags e) in
        rw (any_flag v.flags small)

-- VCC on, RST and PGM low, by one mask.
pub lines_ready : (l : ℕ) → eqb (bit_and l 11) 1 ≡ (high VCC l && (not (high RST l) && not (high PGM l)))
unfolding high place all digit
lines_ready l =
    masked_test 4 11 (λ (x : ℕ). eqb x 1) (λ (x : ℕ). digit 0 x && (not (digit 1 x) && not (digit 3 x))) (omega arith) refl l ∙
    rw (digit_low 4 0 l (omega arith), digit_low 4 1 l (omega arith), digit_low 4 3 l (omega arith))

module _ (l : ℕ) (rest : Bool) where
  pub not_ready : (bit_and l 11 ≡ 1 → ⊥) → (high VCC l && (not (high RST l) && (not (high PGM l) && rest))) ≡ false
  not_ready h = go (high VCC l) (not (high RST l)) (not (high PGM l)) (sym (lines_ready l) ∙ ne_eqb (bit_and l 11) 1 h)
    where
      go : (a b c : Bool) → (a && (b && c)) ≡ false → (a && (b && (c && rest))) ≡ false
      go true true c e = rw e
      go true false c e = refl
      go false b c e = refl

  pub ready : bit_and l 11 ≡ 1 → (high VCC l && (not (high RST l) && (not (high PGM l) && rest))) ≡ rest
  ready h = go (high VCC l) (not (high RST l)) (not (high PGM l)) (sym (lines_ready l) ∙ eq-eqb (bit_and l 11) 1 h)
    where
      go : (a b c : Bool) → (a && (b && c)) ≡ true → (a && (b && (c && rest))) ≡ rest
      go true true c e = rw e
      go true false c e = absurd (false≢true e)
      go false b c e = absurd (false≢true e)

pub ruleset lines = (not_ready, ready)

-- The right and the operation, taken apart.
module _ (fuses : ℕ) (v : Halves.Volatile) where
  -- All that is asked for is there exactly where nothing is missing.
  nothing_missing :
      eqb (missing fuses v (zone v.address)) 0 ≡
      granted (asks (level1 (held fuses v)) (unblown EC_EN fuses) v.latch v.address (zone v.address)) (held fuses v)
  unfolding missing
  nothing_missing =
      let law = asking_law (level1 (held fuses v)) (unblown EC_EN fuses) v.latch v.address (zone v.address) in
      granted_mask _ (omega (arith, law.small)) (held fuses v)

  pub may_program_by :
      may_program_now fuses v ≡ (beq (high RST v.lines) (is_fuse (zone v.address)) && eqb (missing fuses v (zone v.address)) 0)
  unfolding may_program_now may_program
  may_program_by = rw nothing_missing refl

  pub operation_by :
      operation_now fuses v ≡ cond (may_program_now fuses v) (effect (level1 (held fuses v)) v.latch (zone v.address)) Nothing
  unfolding operation_now may_program_now operation
  operation_by = refl
