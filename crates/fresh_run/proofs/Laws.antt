-- What `card::run` answers from a fresh half, in terms of the card's own run, and how long the text can be.
use Prim.Native.Nat.{ℕ, ◌≤◌, ◌<◌, ◌^◌}
use native.Mathlib.Omega.{arith}
use mathlib.Core.Path.{◌≡◌, refl, ap, ◌∙◌}
use mathlib.Core.List.{List}
use lib.ListN.{length, take}
use lib.Seq.{take_at, take-length}
use Rattle.memory.specs.Image.{digit}
use Rattle.rules.specs.Numbers.{number_if_any}
use Rattle.rules.specs.Halves.{fresh, off}
use Rattle.rules.specs.Refusals.{longest}
use Rattle.rules.specs.Card.{Ran as Run, answers_in, tries_left}
use Rattle.rules.specs.Demands.{fresh_card}
use Rattle.volatile.specs.Packed.{packed, unpacked, word, Given, given, card_of}
use Rattle.card.specs.declared.Ran.{Ran}
use Rattle.card.specs.Calls.{run_answers, RunAnswered}
use Rattle.card.proofs.AsDefined.{run_leaves_as_checked, run_answers_as_checked, run_refused_as_checked}
use Rattle.report.specs.Lines.{four_lines}
use Rattle.report.specs.Session.{reported}
use Rattle.decimal.proofs.Digits.{at_most_twenty}
use Rattle.report.proofs.Lengths.{length_lines}
use Rattle.fresh_run.specs.FreshRun.{fresh_card_run, run_text, enough}

module _ (m : List ℕ) (fuses : ℕ) (steps answers : List ℕ) where
  abbrev start : Given
  start = given m fuses (packed fresh)

  fresh_card_lem : card_of start ≡ fresh_card m fuses
  unfolding packed unpacked word fresh off digit
  fresh_card_lem = refl

  few_flags : (packed fresh).flags ≤ 127
  unfolding packed word fresh off
  few_flags = omega arith

  abbrev ran : Run
  ran = fresh_card_run m fuses steps

  -- What the fields of the answer say of the run.
  pub record FromFresh (r : Ran) (after pins : List ℕ) : Type 0 where
    pub done : r.done ≡ length ran.answers
    pub refusal : number_if_any r.refusal ≡ ran.refused
    pub memory : after ≡ ran.card.memory
    pub shown : take r.done pins ≡ ran.answers

  pub from_fresh :
      {r : Ran} {after pins : List ℕ} → length answers ≡ longest
      → RunAnswered start steps answers (given after r.fuses r.volatile) r.done (number_if_any r.refusal) pins
      → FromFresh r after pins
  unfolding fresh_card_run answers_in
  from_fresh {r} {after} {pins} room a =
      record {
        done = a.done ∙ ap length told;
        refusal = a.refusal ∙ (run_refused_as_checked start few_flags steps (length answers) ∙ rw (fresh_card_lem, room));
        memory =
            ap (λ (g : Given). g.memory) (a.card ∙ run_leaves_as_checked start few_flags steps (length answers)) ∙ rw (fresh_card_lem, room);
        shown = rw (a.pins, a.done, told) (take_at ran.answers _ _ refl);
      }
    where
      told : run_answers start steps (length answers) ≡ ran.answers
      told = run_answers_as_checked start few_flags steps (length answers) ∙ rw (fresh_card_lem, room)

  -- The code's four lines are those of the run.
  pub text_of :
      {r : Ran} {after pins : List ℕ} (given : ℕ) → FromFresh r after pins →
      four_lines r.done given (number_if_any r.refusal) pins (tries_left after) ≡ run_text m fuses steps given
  unfolding run_text reported four_lines
  text_of given f = rw (f.shown, f.done, f.refusal, f.memory, take-length ran.answers)

-- Four numbers of the machine and the answers of the longest run.
pub not_long :
    (done given refusal : ℕ) (pins : List ℕ) (left : ℕ) → done < 2 ^ 64 → given < 2 ^ 64 → refusal < 2 ^ 64 → left < 2 ^ 64 →
    length pins ≡ longest → length (four_lines done given refusal pins left) ≤ enough
not_long done given refusal pins left d g k l e =
    let first = at_most_twenty done d in
    let second = at_most_twenty given g in
    let third = at_most_twenty refusal k in
    let fourth = at_most_twenty left l in
    omega (arith, length_lines done given refusal pins left, first, second, third, fourth)
