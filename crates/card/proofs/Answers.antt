-- What the public calls answer, from what the steps inside have come to.
use Prim.Native.Nat.{ℕ}
use mathlib.Core.Path.{◌≡◌, refl, sym, ap, ◌∙◌}
use mathlib.Core.Bool.{Bool, true, false, cond}
use mathlib.Core.List.{List, [], ◌∷◌}
use lib.Dec.{eqb}
use lib.ListN.{length, get_or}
use borrow.Author.Tests.{ne_eqb, eqb-false}
use Rattle.std.specs.Prelude.{Result, Ok, Err}
use Rattle.rules.specs.declared.Refusal.{Refusal}
use Rattle.rules.specs.Numbers.{number}
use Rattle.rules.proofs.Numbers.{some_number}
use Rattle.rules.specs.Halves.{Card}
use Rattle.rules.specs.Refusals.{refusal}
use Rattle.rules.specs.Steps.{next, pin}
use Rattle.rules.specs.Card.{refusal_in, pin_in, added, ended, run, stepped, answered, answers_in}
use Rattle.volatile.specs.Packed.{unpacked, Given, card_of}
use Rattle.refusals.specs.Before.{given_refusal, given_run_refusal}
use Rattle.volatile.specs.Inner.{Steps}
use Rattle.card.specs.Calls.{step_leaves, step_answer, StepAnswered, StepTold, run_leaves, run_answers, run_refused, RunAnswered}

pub run_barred :
    (g : Given) (steps answers : List ℕ) (r : Refusal) → number r ≡ given_run_refusal g (length steps) (length answers) →
    RunAnswered g steps answers g 0 (number r) answers
unfolding run_leaves run_answers run_refused answers_in
run_barred g steps answers r e =
    let no = ne_eqb (number r) 0 (some_number r) in
    record { card = rw (← e, no); done = rw (← e, no); refusal = rw (← e, no); pins = rw (← e, no) }

module _ (g : Given) (n : ℕ) where
  pub step_barred :
      (r : Refusal) → number r ≡ given_refusal g →
      StepAnswered g n g (Err (number r))
  unfolding step_leaves step_answer
  step_barred r e =
      let no = ne_eqb (number r) 0 (some_number r) in
      record { card = rw (← e, no); answer = rw (← e, no) }

  -- A step of a sound card that is accepted.
  pub step_done :
      {p shown : ℕ} {left : Given} → given_refusal g ≡ 0 → Steps g p n left shown 0 →
      StepAnswered g n left (Ok shown)
  unfolding step_leaves step_answer stepped answered
  step_done z did =
      let none = sym did.refused in
      let to = did.accepted refl in
      record { card = rw (z, none) to.0; answer = rw (z, none) (ap Ok to.1) }

  -- One step is a run of one.
  abbrev c : Card
  c = card_of g

  abbrev k : ℕ
  k = refusal (unpacked g.half) n

  one_run : (t : Bool) → eqb k 0 ≡ t → run c (n ∷ []) ≡ cond t (added (pin (next c n)) (ended (next c n) 0)) (ended c k)
  unfolding run
  one_run t e = rw e

  pub fits : given_refusal g ≡ 0 → given_run_refusal g 1 1 ≡ 0
  unfolding given_run_refusal
  fits z = rw z

  module _ {left : Given} {done : ℕ} {told : List ℕ} (z : given_refusal g ≡ 0) where
    pub step_of_run :
        RunAnswered g (n ∷ []) (1 ∷ []) left done 0 told →
        StepAnswered g n left (Ok (get_or told 0 0))
    unfolding step_leaves step_answer stepped answered run_leaves run_answers run_refused answers_in
    step_of_run ran = go (eqb k 0) refl
      where
        go :
            (t : Bool) → eqb k 0 ≡ t →
            StepAnswered g n left (Ok (get_or told 0 0))
        go true e =
            record {
              card = ran.card ∙ rw (fits z, z, one_run true e, e);
              answer = rw (ran.pins, fits z, z, one_run true e, e);
            }
        go false e =
            let over : 0 ≡ k = ran.refusal ∙ rw (fits z, one_run false e) in
            absurd (eqb-false k 0 e (sym over))

    pub step_of_barred_run :
        (r : Refusal) → RunAnswered g (n ∷ []) (1 ∷ []) left done (number r) told →
        StepAnswered g n left (Err (number r))
    unfolding step_leaves step_answer stepped answered run_leaves run_answers run_refused answers_in
    step_of_barred_run r ran = go (eqb k 0) refl
      where
        go :
            (t : Bool) → eqb k 0 ≡ t →
            StepAnswered g n left (Err (number r))
        go true e =
            let none : number r ≡ 0 = ran.refusal ∙ rw (fits z, one_run true e) in
            absurd (some_number r none)
        go false e =
            record {
              card = ran.card ∙ rw (fits z, z, one_run false e, e);
              answer = rw (ran.refusal, fits z, z, one_run false e, e);
            }

-- An answer in plain numbers.
pub told_as :
    {g left : Given} {n : ℕ} {x : Result ℕ ℕ} → StepAnswered g n left x →
    StepTold g n left (pin_in x) (refusal_in x)
told_as a = record { card = a.card; pin = ap pin_in a.answer; refusal = ap refusal_in a.answer }
