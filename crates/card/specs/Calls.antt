-- What each call of the card answers and leaves, for every input.
use Rattle.std.specs.Prelude.{ℕ, ◌≡◌, cond, List, [], eqb, length, Result, Err}
use Rattle.rules.specs.Card.{refusal_in, pin_in, stepped, answered, run, answers_in}
use Rattle.volatile.specs.Packed.{packed, Given, card_of, handed_back}
use Rattle.refusals.specs.Before.{given_refusal, given_run_refusal}

-- The card that a step leaves, and its answer.
unfoldable pub step_leaves : Given → ℕ → Given
unfolding packed given_refusal
step_leaves g n = cond (eqb (given_refusal g) 0) (handed_back (stepped (card_of g) n)) g

unfoldable pub step_answer : Given → ℕ → Result ℕ ℕ
unfolding given_refusal
step_answer g n = cond (eqb (given_refusal g) 0) (answered (card_of g) n) (Err (given_refusal g))

-- The card that a run leaves, its answers, and its refusal, 0 if none.
unfoldable pub run_leaves : Given → List ℕ → ℕ → Given
unfolding packed given_run_refusal
run_leaves g steps room = cond (eqb (given_run_refusal g (length steps) room) 0) (handed_back (run (card_of g) steps).card) g

unfoldable pub run_answers : Given → List ℕ → ℕ → List ℕ
unfolding given_run_refusal
run_answers g steps room = cond (eqb (given_run_refusal g (length steps) room) 0) (run (card_of g) steps).answers []

unfoldable pub run_refused : Given → List ℕ → ℕ → ℕ
unfolding given_run_refusal
run_refused g steps room =
    let k = given_run_refusal g (length steps) room in
    cond (eqb k 0) (run (card_of g) steps).refused k

-- A step of whatever comes in.
pub record StepAnswered (g : Given) (n : ℕ) (left : Given) (told : Result ℕ ℕ) : Type 0 where
  pub card : left ≡ step_leaves g n
  pub answer : told ≡ step_answer g n

-- The same in plain numbers.
pub record StepTold (g : Given) (n : ℕ) (left : Given) (shown k : ℕ) : Type 0 where
  pub card : left ≡ step_leaves g n
  pub pin : shown ≡ pin_in (step_answer g n)
  pub refusal : k ≡ refusal_in (step_answer g n)

-- A run of whatever comes in.
pub record RunAnswered (g : Given) (steps answers : List ℕ) (left : Given) (count k : ℕ) (told : List ℕ) : Type 0 where
  pub card : left ≡ run_leaves g steps (length answers)
  pub done : count ≡ length (run_answers g steps (length answers))
  pub refusal : k ≡ run_refused g steps (length answers)
  pub pins : told ≡ answers_in (run_answers g steps (length answers)) answers
