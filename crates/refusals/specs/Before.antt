-- 01, "Numbers a caller can get": the refusals before any step, of the card that is given.
use Rattle.std.specs.Prelude.{ℕ}
use Rattle.rules.specs.Refusals.{before_a_step, before_a_run}
use Rattle.volatile.specs.Packed.{Given, made_up_word}

-- 10, 14, 9.
unfoldable pub given_refusal : Given → ℕ
unfolding made_up_word before_a_step
given_refusal g = before_a_step g.memory g.fuses (made_up_word g.half)

-- 10, 14, 9, 18, 19, of so many steps and so much room for answers.
unfoldable pub given_run_refusal : Given → ℕ → ℕ → ℕ
unfolding given_refusal before_a_run
given_run_refusal g steps room = before_a_run (given_refusal g) steps room
