-- The proof of each statement of `specs.Demands`, in its order, and after it an example that the statement speaks of.
use mathlib.Core.Bool.{Bool}
use Rattle.rules.specs.Demands.{RefusedStepKeepsAll, RunStopsAtARefusal, SoundStaysSound}
use Rattle.rules.specs.Demands.{TryIsFound, RightCodeOpens, WrongCodeSpendsOneTry, OpensAsMade}
use Rattle.rules.specs.Demands.{HiddenBeforeOpening, HiddenInARun, ShutForGood, ShutInARun}
use Rattle.theorems.proofs.Stopping as Stopping
use Rattle.theorems.proofs.Soundness as Soundness
use Rattle.theorems.proofs.Opening as Opening
use Rattle.theorems.proofs.HiddenZones as HiddenZones
use Rattle.theorems.proofs.Shut as Shut
use Rattle.theorems.proofs.StepExamples as Steps
use Rattle.theorems.proofs.OpeningExamples as Openings
use Rattle.theorems.proofs.Examples as Cards

-- Demand 1.

pub refused_step_keeps_all : RefusedStepKeepsAll
refused_step_keeps_all = Stopping.refused_step_keeps_all

pub two_lines_at_once : Steps.TwoLinesAtOnce
two_lines_at_once = Steps.two_lines_at_once

pub run_stops_at_a_refusal : RunStopsAtARefusal
run_stops_at_a_refusal = Stopping.run_stops_at_a_refusal

pub stops_at_the_eighth : Steps.StopsAtTheEighth
stops_at_the_eighth = Steps.stops_at_the_eighth

-- Demand 2.

pub sound_stays_sound : SoundStaysSound
sound_stays_sound = Soundness.sound_stays_sound

pub match_has_to_end : Steps.MatchHasToEnd
match_has_to_end = Steps.match_has_to_end

pub try_is_found : TryIsFound
try_is_found = Opening.try_is_found

pub right_code_opens : RightCodeOpens
right_code_opens = Opening.right_code_opens

pub wrong_code_spends_one_try : WrongCodeSpendsOneTry
wrong_code_spends_one_try = Opening.wrong_code_spends_one_try

pub both_levels : Openings.BothLevels
both_levels = Openings.both_levels

pub opens_as_made : OpensAsMade
opens_as_made = Opening.opens_as_made

pub room_for_229 : (fus : Bool) → Openings.RoomFor229 fus
room_for_229 = Openings.room_for_229

-- Demand 3.

pub hidden_before_opening : HiddenBeforeOpening
hidden_before_opening = HiddenZones.hidden_before_opening

pub told_apart_by_opening : Cards.ToldApartByOpening
told_apart_by_opening = Cards.told_apart_by_opening

pub hidden_in_a_run : HiddenInARun
hidden_in_a_run = HiddenZones.hidden_in_a_run

pub told_apart_in_a_run : Cards.ToldApartInARun
told_apart_in_a_run = Cards.told_apart_in_a_run

pub shut_for_good : ShutForGood
shut_for_good = Shut.shut_for_good

pub shut_in_a_run : ShutInARun
shut_in_a_run = Shut.shut_in_a_run

pub dead_card_moves : Cards.DeadCardMoves
dead_card_moves = Cards.dead_card_moves
