-- A sheet's bytes at the front of the buffer.
use Prim.Native.Nat.{ℕ, ◌+◌, ◌/◌, ◌%◌, ◌≤◌}
use mathlib.Core.Path.{◌≡◌, ◌∙◌}
use mathlib.Core.List.{List, [], ◌∷◌}
use native.Mathlib.Omega.{arith}
use lib.ListN.{length, length-append}
use Rattle.memory.specs.Buffer.{Put}
use Rattle.memory.specs.Filled.{Filled}
use Rattle.memory.specs.declared.lent.Filling.{Filling}
use Rattle.memory.proofs.Buffer.{whole, at_start}
use Rattle.memory.proofs.Filled.{then_filled}
use Rattle.memory.specs.Image.{bytes}
use Rattle.rules.specs.File.{steps_at}
use Rattle.text.specs.Meaning.{session_of, Written}

pub length_session : (image : List ℕ) (fuses : ℕ) (steps : List ℕ) → length (session_of image fuses steps) ≡ 7 + length image + length steps
unfolding session_of
length_session image fuses steps = simp length-append (omega arith)

-- "memory, 174; fuses, 1; .. steps", each after its count, where there is room for all.
pub session_written :
    (image steps l o : List ℕ) (fuses n : ℕ) (t₀ t₁ t₂ t₃ t₄ : Filling)
    → length image ≡ bytes → n ≡ length steps → steps_at + n ≤ length l → t₀.out.now ≡ l → t₀.at ≡ 0
    → Filled t₀ (bytes ∷ 0 ∷ []) t₁ → Filled t₁ image t₂
    → Filled t₂ (1 ∷ 0 ∷ fuses ∷ (n % 256) ∷ (n / 256) ∷ []) t₃ → Filled t₃ steps t₄ → o ≡ t₄.out.now
    → Written (session_of image fuses steps) l t₄.at o
unfolding session_of
session_written image steps l o fuses n t₀ t₁ t₂ t₃ t₄ i c h e z p₁ p₂ p₃ p₄ d =
    let room : length (session_of image fuses steps) ≤ length l = omega (arith, length_session image fuses steps, i) in
    let all : Filled t₀ (session_of image fuses steps) t₄ =
    then_filled p₁ (then_filled p₂ (then_filled (rw c at p₃) p₄)) in
    let put : Put l 0 (session_of image fuses steps) t₄.at t₄.out.now = rw (e, z) at all.put in
    record { count = whole room put; kept = d ∙ at_start room put }
