-- Demand 1 and the state check speak of something: a refused step, 01's case S, and a match that has to end.
use Prim.Native.Nat.{ℕ}
use mathlib.Core.Path.{◌≡◌}
use mathlib.Core.Bool.{Bool, true, false}
use mathlib.Core.List.{List, [], ◌∷◌}
use lib.ListN.{replicate}
use Rattle.rules.specs.Halves.{Card}
use Rattle.rules.specs.Refusals.{refusal, made_up, state_refusal}
use Rattle.rules.specs.Steps.{with_volatile, next}
use Rattle.rules.specs.Card.{refusal_in, checked_step, checked_answer, checked_run}
use Rattle.rules.specs.Computing.{the_card}
use Rattle.rules.specs.Demands.{done, fresh_card}

-- "Case S: memory byte 0 is 127, all others 255, fuses 7, steps 16 48 49 53 49 51 49 55".
abbrev case_s : Card
case_s = fresh_card (127 ∷ replicate 173 255) 7

abbrev steps : List ℕ
steps = 16 ∷ 48 ∷ 49 ∷ 53 ∷ 49 ∷ 51 ∷ 49 ∷ 55 ∷ []

-- I/O and FUS at once; I/O alone.
pub record TwoLinesAtOnce : Type 0 where
  pub refused : refusal_in (checked_answer case_s 48) ≡ 2
  pub accepted : refusal_in (checked_answer case_s 16) ≡ 0
  pub follows : (checked_step case_s 16).volatile.lines ≡ 16

pub two_lines_at_once : TwoLinesAtOnce
unfolding the_card refusal_in
two_lines_at_once = search

pub record StopsAtTheEighth : Type 0 where
  pub seven : done (checked_run case_s steps 8) ≡ 7
  pub number : (checked_run case_s steps 8).refused ≡ 2
  pub lines : (checked_run case_s steps 8).card.volatile.lines ≡ 49

pub stops_at_the_eighth : StopsAtTheEighth
unfolding the_card
stops_at_the_eighth = search

-- CLK is high, the code was shown, and it is about to move on to 104.
abbrev at : ℕ → Bool → Card
at a matched =
    with_volatile case_s
    (record {
      lines = 53;
      address = a;
      sv = false;
      p1 = false;
      r1 = false;
      e1 = false;
      matched = matched;
      latch = true;
      programming = false;
    })

pub record MatchHasToEnd : Type 0 where
  pub sound : state_refusal (at 103 true) ≡ 0
  pub accepted : refusal (at 103 true).volatile 49 ≡ 0
  pub moves : (next (at 103 true) 49).volatile.address ≡ 104
  pub ends : (next (at 103 true) 49).volatile.matched ≡ false
  pub refused : made_up (at 104 true).volatile ≡ true

pub match_has_to_end : MatchHasToEnd
unfolding the_card
match_has_to_end = search
