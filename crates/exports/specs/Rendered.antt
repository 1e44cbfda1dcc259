-- Each answer of the card, the maker and the openers as the plain numbers that a bench gets.
use Rattle.std.specs.Prelude.{ℕ, Bool, not, eqb, Result, Ok, Err}
use Rattle.volatile.specs.Packed.{one}
use Rattle.rules.specs.Numbers.{numbered, number_in}
use Rattle.rules.specs.Card.{pin_in}
use Rattle.card.specs.declared.Stepped.{Stepped}
use Rattle.walk.specs.declared.Walked.{Walked}
use Rattle.looks.specs.declared.HeldFlags.{HeldFlags}
use Rattle.looks.specs.Flags.{flags_held}
use Rattle.looks.specs.Reasons.{reason_told}
use Rattle.maker.specs.Act.{refusal_in as act_refused, count_of}
use Rattle.rules.specs.declared.Reason.{Reason}
use Rattle.rules.specs.File.{steps_at}
use Rattle.rules.specs.Numbers.{refused}
use Rattle.file.specs.declared.CardFile.{CardFile}
use Rattle.file.specs.declared.Session.{Session}
use Rattle.file.specs.Opening.{card_fuses, session_fuses, session_steps}
use Rattle.exports.specs.declared.steps.ZhavStepped.{ZhavStepped}
use Rattle.exports.specs.declared.steps.ZhavFlags.{ZhavFlags}
use Rattle.exports.specs.declared.reasons.ZhavWhy.{ZhavWhy}
use Rattle.exports.specs.declared.acts.ZhavMade.{ZhavMade}
use Rattle.exports.specs.declared.openers.ZhavCard.{ZhavCard}
use Rattle.exports.specs.declared.openers.ZhavSession.{ZhavSession}

-- A walk and a step.
abbrev pub of_walk : Walked → ℕ → ZhavStepped
of_walk w fuses = record { half = w.volatile; fuses = fuses; answer = w.pin; refusal = 0 }

-- A step's answer: the pin's, 1 where refused, and the refusal, 0 if none.
unfoldable pub of_step : Stepped → ZhavStepped
unfolding numbered number_in pin_in
of_step s = record { half = s.volatile; fuses = s.fuses; answer = pin_in (numbered s.answer); refusal = number_in s.answer }

-- The flags, 1 for one that holds, and none where refused.
unfoldable pub flag_bytes : Result HeldFlags ℕ → ZhavFlags
unfolding flags_held refused
flag_bytes a =
    let held = flags_held a in
    record { sv = one held.sv; p1 = one held.p1; r1 = one held.r1; e1 = one held.e1; refusal = refused a }

-- The reason by its number, 255 where refused.
unfoldable pub reason_bytes : Result Reason ℕ → ZhavWhy
unfolding reason_told refused
reason_bytes a = record { reason = reason_told a; refusal = refused a }

-- A level as a byte: 0 low, anything else high.
abbrev pub is_high : ℕ → Bool
is_high x = not (eqb x 0)

-- An act: the count, 0 where refused, and the refusal, 0 if none.
unfoldable pub made_of : Result ℕ ℕ → ZhavMade
unfolding count_of act_refused
made_of a = record { count = count_of a; refusal = act_refused a }

-- A card file: the fuse byte.
unfoldable pub card_file_of : Result CardFile ℕ → ZhavCard
unfolding card_fuses refused
card_file_of c = record { fuses = card_fuses c; refusal = refused c }

-- A session: the step section as the place where it starts, after the counts, the memory and the fuses, and its count.
unfoldable pub steps_from : Result Session ℕ → ℕ
steps_from (Ok session) = steps_at
steps_from (Err k) = 0

unfoldable pub session_of : Result Session ℕ → ZhavSession
unfolding steps_from session_steps session_fuses refused
session_of s = record { first = steps_from s; steps = session_steps s; fuses = session_fuses s; refusal = refused s }

-- The library's version, 0.1.1: major, minor and patch as one number of two digits each.
abbrev pub version : ℕ
version = 101
