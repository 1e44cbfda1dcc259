-- Demand 1: two answers that an act's contract allows coincide, with every lent byte.
use Prim.Native.Nat.{ℕ}
use mathlib.Core.Path.{◌≡◌}
use mathlib.Core.List.{List}
use Rattle.std.specs.Prelude.{Result}
use Rattle.maker.specs.Act.{Acted}
use Rattle.maker.proofs.Determined.{act_determined}
use Rattle.text_lines.specs.declared.faults.Fault.{Fault}
use Rattle.text_lines.specs.Faults.{numbered}
use Rattle.text_lines.proofs.ByNumber.{same_numbered}

pub answer_determined :
    (refused : ℕ) (steps buffer : List ℕ) (r r' : Result ℕ Fault) (after after' : List ℕ) →
    Acted refused steps buffer (numbered r) after → Acted refused steps buffer (numbered r') after' →
    (r ≡ r') × (after ≡ after')
answer_determined refused steps buffer r r' after after' p q =
    let both = act_determined refused steps buffer (numbered r) (numbered r') after after' p q in
    (same_numbered r r' both.0, both.1)
