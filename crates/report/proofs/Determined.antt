-- Demand 1: two answers that a text's contract allows coincide, with every lent byte.
use Prim.Native.Nat.{ℕ}
use mathlib.Core.Path.{◌≡◌}
use mathlib.Core.List.{List}
use Rattle.memory.proofs.Determined.{determined}
use Rattle.std.specs.Prelude.{Option}
use Rattle.report.specs.Buffer.{Made}

pub text_determined :
    (text before : List ℕ) (r r' : Option ℕ) (after after' : List ℕ) → Made text before r after → Made text before r' after' →
    (r ≡ r') × (after ≡ after')
text_determined text before r r' after after' p q =
    let same = determined p.answered q.answered in
    (same, cc (p.lent, q.lent, same))
