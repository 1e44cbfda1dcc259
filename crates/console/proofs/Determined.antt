-- Demand 1: two answers that a test's contract allows coincide.
use Rattle.std.proofs.Common.{◌≡◌, Bool, true, false, refl}
use Rattle.std.specs.Prelude.{◌↔◌, IsTrue}

pub test_determined : (b b' : Bool) (P : Type 0) → (IsTrue b ↔ P) → (IsTrue b' ↔ P) → b ≡ b'
test_determined true true P p q = refl
test_determined false false P p q = refl
test_determined true false P p q = let e : false ≡ true = q.1 (p.0 refl) in cc
test_determined false true P p q = let e : false ≡ true = p.1 (q.0 refl) in cc
