-- The match of the security code: what the bits shown from 80 on make of it.
use Prim.Native.Nat.{ℕ, zero, suc, ◌+◌, ◌≤◌, ◌<◌}
use native.Mathlib.Omega.{arith}
use mathlib.Core.Path.{◌≡◌, refl, ap, ap₂, ◌∙◌}
use mathlib.Core.Bool.{Bool, true, false, cond, ◌&&◌, ◌||◌, beq, or-true, and-false}
use mathlib.Core.List.{List, [], ◌∷◌}
use lib.Dec.{eqb, leb}
use lib.ListN.{length}
use borrow.Author.Tests.{le-leb, ne_eqb}
use Rattle.memory.specs.Image.{bit}
use Rattle.rules.specs.Halves.{Card}
use Rattle.rules.specs.Zones.{between}
use Rattle.rules.specs.Maker.{digits}
use Rattle.rules.specs.Demands.{bits_from, CodeIsRight}
use Rattle.theorems.proofs.Tests.{and_left, beq_true}

-- The match after the compare of the bit b with the one at a, with SV 0 and below the erase key.
unfoldable pub code_match : List ℕ → ℕ → Bool → Bool → Bool
unfolding between
code_match m a b matched = cond (between 80 95 a) (beq b (bit m a) && (eqb a 80 || matched)) matched

-- The match after the bits were shown from a on.
unfoldable pub shown_match : List ℕ → ℕ → List Bool → Bool → Bool
unfolding code_match
shown_match m a [] matched = matched
shown_match m a (b ∷ bs) matched = shown_match m (a + 1) bs (code_match m a b matched)

-- The stored bits keep a match.
stored_match : (m : List ℕ) (n a : ℕ) → shown_match m a (bits_from m a n) true ≡ true
unfolding shown_match code_match bits_from between
stored_match m zero a = refl
stored_match m (suc n) a =
    ap (shown_match m (a + 1) (bits_from m (a + 1) n)) (rw (or-true (eqb a 80)) (same (between 80 95 a) (bit m a))) ∙
    stored_match m n (a + 1)
  where
    same : (inside b : Bool) → cond inside (beq b b && true) true ≡ true
    same false b = refl
    same true true = refl
    same true false = refl

-- "at 81 to 95 match stays only if it held": past 80 it does not come back.
lost_match : (m : List ℕ) (bs : List Bool) (a : ℕ) → 80 < a → shown_match m a bs false ≡ false
unfolding shown_match code_match between
lost_match m [] a h = refl
lost_match m (b ∷ bs) a h =
    rw (ne_eqb a 80 (omega arith), and-false (beq b (bit m a)), either (between 80 95 a)) (lost_match m bs (a + 1) (omega arith))
  where
    either : (inside : Bool) → cond inside false false ≡ false
    either true = refl
    either false = refl

-- A match at the end of the code: the bits shown are the stored ones.
matched_bits : (m : List ℕ) (bs : List Bool) (a : ℕ) (matched : Bool) → 80 ≤ a → a + length bs ≤ 96 →
    shown_match m a bs matched ≡ true → bs ≡ bits_from m a (length bs)
unfolding shown_match code_match bits_from between
matched_bits m [] a matched low high e = refl
matched_bits m (b ∷ bs) a matched low high e =
    go (code_match m a b matched) refl e (λ t l. matched_bits m bs (a + 1) t (omega arith) (omega arith) l)
  where
    inside : (leb 80 a && leb a 95) ≡ true
    inside = rw (le-leb 80 a low, le-leb a 95 (omega arith))

    go : (t : Bool) → code_match m a b matched ≡ t → shown_match m (a + 1) bs t ≡ true →
        ((t : Bool) → shown_match m (a + 1) bs t ≡ true → bs ≡ bits_from m (a + 1) (length bs)) →
        b ∷ bs ≡ bit m a ∷ bits_from m (a + 1) (length bs)
    go true q l rest = ap₂ ◌∷◌ (beq_true b (bit m a) (and_left _ _ (rw inside at q))) (rest true l)
    go false q l rest = cc (lost_match m bs (a + 1) (omega arith))

pub right_matches : (code : ℕ) (c : Card) → CodeIsRight code c → shown_match c.memory 80 (digits 16 code) false ≡ true
unfolding shown_match code_match bits_from between
right_matches code c right = rw right (stored_match c.memory 16 80)

pub wrong_fails : (code : ℕ) (c : Card) → (CodeIsRight code c → ⊥) → shown_match c.memory 80 (digits 16 code) false ≡ false
unfolding digits
wrong_fails code c wrong = go (shown_match c.memory 80 (digits 16 code) false) refl
  where
    go : (t : Bool) → shown_match c.memory 80 (digits 16 code) false ≡ t → t ≡ false
    go false e = refl
    go true e = absurd (wrong (matched_bits c.memory (digits 16 code) 80 false (omega arith) (omega arith) e))
