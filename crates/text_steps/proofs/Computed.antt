-- The steps as the code computes them, for each level of FUS (32) and I/O (16); CLK is 4, PGM 8.
use Prim.Native.Nat.{ℕ, ◌+◌}
use mathlib.Core.Bool.{Bool, true, false, cond}
use mathlib.Core.List.{List, ◌∷◌, []}
use mathlib.Core.Path.{◌≡◌, refl}
use lib.ListN.{get_or}
use Rattle.rules.specs.Maker.{program}
use Rattle.text_steps.specs.Steps.{idle_lines, power, cut}

pub power_steps :
    (fus on : Bool) {off up : ℕ} → off ≡ cond fus 32 0 → up ≡ cond on idle_lines 0
    → power fus on ≡ (off + 16) ∷ (off + up) ∷ []
unfolding power
power_steps true true e f = rw (e, f) refl
power_steps true false e f = rw (e, f) refl
power_steps false true e f = rw (e, f) refl
power_steps false false e f = rw (e, f) refl

-- The first three are those of the maker's program.
pub cut_steps :
    (fus d : Bool) {p : List ℕ} {off bit : ℕ} → p ≡ program fus d → off ≡ cond fus 32 0 → bit ≡ cond d 16 0
    → cut fus d ≡
    get_or p 0 0 ∷ get_or p 1 0 ∷ get_or p 2 0 ∷ (off + bit + 8 + 4) ∷ (off + bit + 8) ∷ (off + bit) ∷ off ∷ []
unfolding cut program
cut_steps true true g e f = rw (g, e, f) refl
cut_steps true false g e f = rw (g, e, f) refl
cut_steps false true g e f = rw (g, e, f) refl
cut_steps false false g e f = rw (g, e, f) refl
