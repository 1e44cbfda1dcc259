-- Demand 1: two answers that an act's contract allows coincide, with every lent byte.
use Prim.Native.Nat.{ℕ}
use mathlib.Core.Path.{◌≡◌}
use mathlib.Core.List.{List}
use Rattle.std.specs.Prelude.{Result}
use Rattle.memory.proofs.Determined.{determined}
use Rattle.rules.specs.declared.Refusal.{Refusal}
use Rattle.rules.specs.Numbers.{numbered}
use Rattle.rules.proofs.Numbers.{same_numbered}
use Rattle.maker.specs.Act.{Acted}

pub act_determined :
    (refused : ℕ) (steps buffer : List ℕ) (r r' : Result ℕ ℕ) (after after' : List ℕ) → Acted refused steps buffer r after →
    Acted refused steps buffer r' after' → (r ≡ r') × (after ≡ after')
act_determined refused steps buffer r r' after after' p q =
    let same = determined p.answer q.answer in
    (same, cc (p.bytes, q.bytes, same))

-- The answer too, which is promised by its number.
pub answer_determined :
    (refused : ℕ) (steps buffer : List ℕ) (r r' : Result ℕ Refusal) (after after' : List ℕ) →
    Acted refused steps buffer (numbered r) after → Acted refused steps buffer (numbered r') after' →
    (r ≡ r') × (after ≡ after')
answer_determined refused steps buffer r r' after after' p q =
    let both = act_determined refused steps buffer (numbered r) (numbered r') after after' p q in
    (same_numbered r r' both.0, both.1)
