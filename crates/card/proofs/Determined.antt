-- Demand 1: two answers that a contract allows coincide, with every lent byte.
use Prim.Native.Nat.{ℕ}
use mathlib.Core.Path.{◌≡◌}
use mathlib.Core.List.{List}
use Rattle.memory.proofs.Determined.{determined}
use Rattle.rules.specs.declared.Refusal.{Refusal}
use Rattle.rules.specs.Numbers.{numbered}
use Rattle.rules.proofs.Numbers.{same_numbered}
use Rattle.std.specs.Prelude.{Result}
use Rattle.volatile.specs.Packed.{Given}
use Rattle.card.specs.Calls.{StepAnswered, StepTold, RunAnswered}

module _ (g left left' : Given) where
  pub step_determined :
      (n : ℕ) (x x' : Result ℕ ℕ) → StepAnswered g n left x → StepAnswered g n left' x' → (left ≡ left') × (x ≡ x')
  step_determined n x x' p q = (determined p.card q.card, determined p.answer q.answer)

  -- And the refusal itself, which the number tells.
  pub step_answer_determined :
      (n : ℕ) (x x' : Result ℕ Refusal) → StepAnswered g n left (numbered x) → StepAnswered g n left' (numbered x') →
      (left ≡ left') × (x ≡ x')
  step_answer_determined n x x' p q =
      let same = step_determined n (numbered x) (numbered x') p q in (same.0, same_numbered x x' same.1)

  pub told_determined :
      (n shown shown' k k' : ℕ) → StepTold g n left shown k → StepTold g n left' shown' k' → (left ≡ left') × (shown ≡ shown') × (k ≡ k')
  told_determined n shown shown' k k' p q =
      (determined p.card q.card, determined p.pin q.pin, determined p.refusal q.refusal)

  pub run_determined :
      (steps answers : List ℕ) (done done' k k' : ℕ) (told told' : List ℕ) → RunAnswered g steps answers left done k told →
      RunAnswered g steps answers left' done' k' told' → (left ≡ left') × (done ≡ done') × (k ≡ k') × (told ≡ told')
  run_determined steps answers done done' k k' told told' p q = (
    determined p.card q.card,
    determined p.done q.done,
    determined p.refusal q.refusal,
    determined p.pins q.pins,
  )
