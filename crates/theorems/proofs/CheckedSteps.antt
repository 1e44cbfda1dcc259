-- The step that a caller gets looks at image, fuses and state first. A card that 10, 14 and 9 let pass takes it as a step of a sound card,
-- and 10, 14 and 9 let it pass again.
use Prim.Native.Nat.{ℕ, ◌≤◌}
use mathlib.Core.Path.{◌≡◌}
use lib.Dec.{eqb}
use lib.ListN.{length}
use borrow.Author.Tests.{eqb-true, le-ltb}
use Rattle.memory.specs.Image.{bytes}
use Rattle.rules.specs.Halves.{Card, fresh}
use Rattle.rules.specs.Refusals.{refusal, state_refusal}
use Rattle.rules.specs.Card.{stepped, answered, checked_step, checked_answer}
use Rattle.rules.specs.Computing.{the_card}
use Rattle.theorems.proofs.Tests.{cond_cases}
use Rattle.theorems.proofs.Soundness.{sound_stays_sound}

-- 10, 14 and 9 let the card pass.
abbrev pub Passes : Card → Type 0
Passes c = state_refusal c ≡ 0

pub fresh_passes : (c : Card) → length c.memory ≡ bytes → c.fuses ≤ 7 → c.volatile ≡ fresh → Passes c
unfolding the_card
fresh_passes c sized fused off = rw (sized, le-ltb 7 c.fuses fused, off)

pub passes_on : (c : Card) (n : ℕ) → Passes c → Passes (stepped c n)
unfolding stepped
passes_on c n p =
    cond_cases Passes (eqb (refusal c.volatile n) 0) (λ t. sound_stays_sound c n p (eqb-true (refusal c.volatile n) 0 t)) (λ _. p)

pub checked_step_lem : (c : Card) (n : ℕ) → Passes c → checked_step c n ≡ stepped c n
unfolding checked_step
checked_step_lem c n p = rw p

pub checked_answer_lem : (c : Card) (n : ℕ) → Passes c → checked_answer c n ≡ answered c n
unfolding checked_answer
checked_answer_lem c n p = rw p
