-- What open comes to.
use Prim.Native.Nat.{ℕ, ◌+◌, ◌*◌, ◌<◌}
use mathlib.Core.Path.{◌≡◌, refl}
use mathlib.Core.Bool.{Bool}
use mathlib.Core.List.{List, ◌++◌, append_assoc}
use lib.Count.{count_leading_zeros}
use lib.ListN.{length}
use borrow.Author.Tests.{ne_eqb}
use Rattle.rules.specs.Maker.{reset, walk, show, zeros_before, open_card, open_refusal}
use Rattle.theorems.proofs.MakerLaws.{length_open}
use Rattle.act_parts.specs.Parts.{up_to_code, use_try}
use Rattle.maker.proofs.Zeros.{leading_zeros, refused_at_0}

regroup : (a b c d : List ℕ) → a ++ (b ++ (c ++ d)) ≡ (a ++ (b ++ c)) ++ d
regroup a b c d = simp append_assoc

-- The steps of open as the code makes them: up to the code, and then the try that `leading_zeros` picks.
pub open_halves :
    (fus : Bool) (code attempts : ℕ) → attempts < 256
    → open_card fus code attempts ≡ up_to_code fus code ++ use_try fus (count_leading_zeros 8 attempts)
unfolding open_card
open_halves fus code attempts h =
    rw (leading_zeros attempts h) (regroup (reset fus) (walk fus 80) (show fus 16 code) (use_try fus (zeros_before 8 attempts)))

-- 23 where no one is in the byte, and else none.
pub none_left : (attempts : ℕ) → attempts < 256 → attempts ≡ 0 → open_refusal attempts ≡ 23
none_left attempts h e = rw (refused_at_0 attempts h, e) refl

pub some_left : (attempts : ℕ) → attempts < 256 → (attempts ≡ 0 → ⊥) → open_refusal attempts ≡ 0
some_left attempts h d = let t = ne_eqb attempts 0 d in rw (refused_at_0 attempts h, t) refl

pub length_opening :
    (fus : Bool) (code attempts : ℕ) → attempts < 256
    → length (open_card fus code attempts) ≡ 223 + 2 * count_leading_zeros 8 attempts
length_opening fus code attempts h = rw (leading_zeros attempts h) (length_open fus code attempts)
