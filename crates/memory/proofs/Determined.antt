-- Demand 1: a contract that says what an answer equals allows one answer.
use Prim.Native.Nat.{ℕ}
use mathlib.Core.Path.{◌≡◌, sym, ◌∙◌}
use mathlib.Core.List.{List}
use Rattle.memory.specs.Buffer.{Put}

pub determined {ℓ} : {A : Type ℓ} {x y z : A} → x ≡ z → y ≡ z → x ≡ y
determined p q = p ∙ sym q

-- And so does one that says which bytes are put where.
pub put_determined :
    (before : List ℕ) (at : ℕ) (bytes : List ℕ) (next next' : ℕ) (after after' : List ℕ) → Put before at bytes next after →
    Put before at bytes next' after' → (next ≡ next') × (after ≡ after')
put_determined before at bytes next next' after after' p q = (determined p.place q.place, determined p.stored q.stored)
