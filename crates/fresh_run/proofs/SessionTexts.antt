-- The text of a session, from the opener's answer.
use Prim.Native.Nat.{ℕ}
use mathlib.Core.Path.{◌≡◌}
use mathlib.Core.List.{List}
use borrow.Author.Tests.{ne_eqb}
use Rattle.std.specs.Prelude.{Ok, Err}
use Rattle.memory.specs.Image.{bytes}
use Rattle.rules.specs.File.{memory_section}
use Rattle.report.specs.Lines.{bad_text}
use Rattle.file.specs.Opening.{session_answer, handed_steps}
use Rattle.file.proofs.Answers.{opened, barred}
use Rattle.fresh_run.specs.FreshRun.{run_text, session_text}

pub refused_text : (file : List ℕ) (k : ℕ) → session_answer file bytes ≡ Err k → bad_text k ≡ session_text file
unfolding session_text
refused_text file k e =
    let b = barred file bytes k e in
    rw (← b.number, ne_eqb k 0 b.refused)

pub opened_text :
    (file memory steps : List ℕ) (f n : ℕ) → session_answer file bytes ≡ Ok (record { fuses = f; steps = n }) →
    memory ≡ memory_section file → steps ≡ handed_steps file bytes → run_text memory f steps n ≡ session_text file
unfolding session_text
opened_text file memory steps f n e m s =
    let o = opened file bytes f n e in
    rw (m, s, o.accepted, o.handed, o.fuses, o.steps)
