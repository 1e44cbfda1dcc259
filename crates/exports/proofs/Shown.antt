-- Each call's numbers are those of the definition, by the case of the answer that it takes apart.
use Prim.Native.Nat.{ℕ}
use mathlib.Core.Path.{◌≡◌, refl, ap, ◌∙◌}
use mathlib.Core.Bool.{Bool, true, false}
use mathlib.Core.List.{List, []}
use lib.ListN.{take, drop}
use mir.Val.{bool_byte}
use Rattle.std.specs.Prelude.{Ok, Err}
use Rattle.volatile.specs.Packed.{one}
use Rattle.std.specs.Prelude.{Result}
use Rattle.maker.specs.Act.{in_buffer, Acted}
use Rattle.rules.specs.File.{steps_at, step_section}
use Rattle.file.specs.declared.Session.{Session}
use Rattle.file.specs.Opening.{session_answer, handed_steps}
use Rattle.file.proofs.Answers.{opened, barred}
use Rattle.exports.specs.declared.acts.ZhavMade.{ZhavMade}
use Rattle.exports.specs.Rendered.{made_of}
use Rattle.exports.specs.Told.{ActTold}

-- A flag cast to a byte.
pub as_byte : (b : Bool) → bool_byte b ≡ one b
as_byte true = refl
as_byte false = refl

-- An act's promise, in the numbers of its answer.
pub act_told :
    {k : ℕ} {steps buffer after : List ℕ} {m : Result ℕ ℕ} {r : ZhavMade} → Acted k steps buffer m after → r ≡ made_of m →
    ActTold k steps buffer r after
act_told {steps = steps} {buffer = buffer} acted told =
    record {
      answer = told ∙ ap made_of acted.answer;
      bytes = acted.bytes ∙ ap (λ (m : Result ℕ ℕ). in_buffer m steps buffer) acted.answer;
    }

-- The steps of an opened session are the file's step section, none where refused.
pub section_shown :
    (file : List ℕ) (room : ℕ) (s : Session) → session_answer file room ≡ Ok s → take s.steps (drop steps_at file) ≡ handed_steps file room
unfolding step_section
section_shown file room s e =
    let o = opened file room s.fuses s.steps e in
    rw (o.handed, o.steps) refl

pub no_section : (file : List ℕ) (room k : ℕ) → session_answer file room ≡ Err k → handed_steps file room ≡ []
no_section file room k e = (barred file room k e).handed
