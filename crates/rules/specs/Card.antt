-- 01, "Numbers a caller can get" and the demands: a step and a run, for every image, state and list of steps.
use Rattle.std.specs.Prelude.{ℕ, cond, List, [], ◌∷◌, ◌++◌, eqb, length, get_or, drop, Result, Ok, Err}
use Rattle.std.specs.Int.Count.{ones_in}
use Rattle.rules.specs.Halves.{Volatile, Card}
use Rattle.rules.specs.Steps.{next, pin}
use Rattle.rules.specs.Refusals.{refusal, made_up, state_refusal, run_refusal}

-- An answer is the pin's, or the number of a refusal: the refusal, 0 where it is none, and what the pin says in it.
unfoldable pub refusal_in : Result ℕ ℕ → ℕ
refusal_in (Ok b) = 0
refusal_in (Err k) = k

unfoldable pub pin_in : Result ℕ ℕ → ℕ
pin_in (Ok b) = b
pin_in (Err k) = 1

-- A step of a sound card: "A refused step changes nothing and gives back the state as it came, with the number, marked as a refusal, in
-- place of a pin answer".
unfoldable pub stepped : Card → ℕ → Card
stepped c n = cond (eqb (refusal c.volatile n) 0) (next c n) c

unfoldable pub answered : Card → ℕ → Result ℕ ℕ
answered c n = cond (eqb (refusal c.volatile n) 0) (Ok (pin (next c n))) (Err (refusal c.volatile n))

-- A step of whatever comes in: 10, 14 and 9 before 1 to 7.
unfoldable pub checked_step : Card → ℕ → Card
unfolding stepped
checked_step c n = cond (eqb (state_refusal c) 0) (stepped c n) c

unfoldable pub checked_answer : Card → ℕ → Result ℕ ℕ
unfolding answered
checked_answer c n =
    let r = state_refusal c in
    cond (eqb r 0) (answered c n) (Err r)

-- The result of a run: the card, an answer for each step that was done, and the refusal, 0 if none.
pub record Ran : Type 0 where
  pub card : Card
  pub answers : List ℕ
  pub refused : ℕ

abbrev pub added : ℕ → Ran → Ran
added b r = record { card = r.card; answers = b ∷ r.answers; refused = r.refused }

abbrev pub ended : Card → ℕ → Ran
ended c k = record { card = c; answers = []; refused = k }

-- "A run writes one answer byte (0 or 1) per accepted step and stops at the first refused one".
unfoldable pub run : Card → List ℕ → Ran
run c [] = ended c 0
run c (n ∷ ns) =
    let after = next c n in
    let rest = run after ns in
    let k = refusal c.volatile n in
    cond (eqb k 0) (added (pin after) rest) (ended c k)

-- A run of whatever comes in, with room for so many answers.
unfoldable pub checked_run : Card → List ℕ → ℕ → Ran
unfolding run
checked_run c ns room =
    let k = run_refusal c (length ns) room in
    cond (eqb k 0) (run c ns) (ended c k)

-- "The rest of the answers buffer keeps its bytes."
unfoldable pub answers_in : List ℕ → List ℕ → List ℕ
answers_in answers buffer = answers ++ drop (length answers) buffer

-- "A separate call reads flags, refusing by 9".
unfoldable pub flags_refusal : Volatile → ℕ
flags_refusal v = cond (made_up v) 9 0

-- Tries left: the ones in bits 96 to 103, which are byte 12.
unfoldable pub tries_left : List ℕ → ℕ
tries_left m = ones_in 8 (get_or m 12 0)
