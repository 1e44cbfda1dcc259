-- The zones by words of 16 addresses.
use Prim.Native.Nat.{ℕ, ◌*◌, ◌/◌, ◌<◌}
use native.Mathlib.Omega.{arith}
use native.Mathlib.Decide.{dec_lt}
use mathlib.Core.Path.{◌≡◌, refl, sym, ◌∙◌}
use mathlib.Core.Bool.{Bool, true, false, ◌||◌}
use lib.Dec.{eqb}
use borrow.Author.Tests.{eqb-true, ne_eqb}
use Rattle.memory.proofs.Below.{all, below}
use Rattle.rules.specs.declared.Zone.{Zone}
use Rattle.rules.specs.Zones.{zone, row}
use Rattle.rules.proofs.PastLast.{past_all}
use Rattle.rules.proofs.Rows.{row_injective}

-- The constant of an arm is the zone of that word's first address.
pub of_arm : {z : Zone} {w k : ℕ} → w ≡ k → z ≡ zone (16 * k) → z ≡ zone (16 * w)
of_arm e h = rw e h

-- The first address of an address's word.
abbrev word_start : ℕ → ℕ
word_start a = 16 * (a / 16)

-- 02, W5: "Only the word of 1481 is mixed": every other address lies where its word's first one does.
unfoldable of_one_zone : ℕ → Bool
unfolding zone
of_one_zone a = eqb a 1481 || eqb (row (zone (word_start a))) (row (zone a))

all_of_one_zone : all 1520 of_one_zone ≡ true
unfolding all of_one_zone
all_of_one_zone = refl

or_second : (b c : Bool) → b ≡ false → (b || c) ≡ true → c ≡ true
or_second b c e t = rw e at t

pub by_word : (a : ℕ) → (a ≡ 1481 → ⊥) → zone (word_start a) ≡ zone a
unfolding of_one_zone
by_word a h = go (dec_lt a 1520)
  where
    go : Dec (a < 1520) → zone (word_start a) ≡ zone a
    go (yes l) =
        let tested = below 1520 of_one_zone all_of_one_zone a l in
        row_injective (zone (word_start a)) (zone a)
        (eqb-true (row (zone (word_start a))) (row (zone a)) (or_second (eqb a 1481) _ (ne_eqb a 1481 h) tested))
    go (no l) = sym (past_all (word_start a) (omega arith)) ∙ past_all a (omega arith)
