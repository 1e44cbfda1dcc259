-- The promise, for each way that the assembler answers.
use Prim.Native.Nat.{ℕ, ◌+◌, ◌≤◌, ◌<◌}
use mathlib.Core.Path.{◌≡◌, refl, sym}
use mathlib.Core.List.{List}
use native.Mathlib.Omega.{arith}
use borrow.Author.Tests.{lt-ltb, le-ltb}
use lib.ListN.{length, take}
use lib.Seq.{length-take-le, take-append_seam}
use Rattle.std.specs.Prelude.{Ok}
use Rattle.memory.specs.Image.{bytes}
use Rattle.rules.specs.File.{steps_at}
use Rattle.text.specs.Sheet.{Sheet}
use Rattle.text.specs.Meaning.{Whole, Amiss, meaning, session, Written}
use Rattle.text.specs.Held.{sheet_of}
use Rattle.text.specs.Assembling.{no_room, too_long, longest_text, wrong, answer_to, assembled, session_in, in_buffer, Assembles}
use Rattle.text.specs.declared.sheet.Sheet.{Sheet as Held}
use Rattle.text.proofs.Sections.{length_session}
use Rattle.text.proofs.Opening.{opened}

-- The length of the session of the sheet that is held.
pub session_length :
    (s : Held) → length s.image ≡ bytes → s.count ≤ length s.steps → length (session (sheet_of s)) ≡ steps_at + s.count
unfolding session sheet_of
session_length s i h = omega (arith, length_session s.image s.fuses (take s.count s.steps), length-take-le s.count s.steps h, i)

-- Wrong text is told, and changes no byte.
refused :
    {text buffer : List ℕ} {line k : ℕ} → wrong line k ≡ assembled text (length buffer) → Assembles text buffer (wrong line k) buffer
unfolding in_buffer
refused e = record { answer = e; kept = refl; accepted = λ n q. cc }

pub over_length : (text buffer : List ℕ) → longest_text < length text → Assembles text buffer (wrong 0 too_long) buffer
unfolding assembled
over_length text buffer h = refused (rw (lt-ltb _ _ h) refl)

module _ (text buffer : List ℕ) (short : length text ≤ longest_text) where
  pub amiss : (line k : ℕ) → Amiss line k ≡ meaning text → Assembles text buffer (wrong line k) buffer
  unfolding assembled answer_to
  amiss line k e = refused (rw (le-ltb longest_text (length text) short, ← e) refl)

  module _ (s : Sheet) (meant : Whole s ≡ meaning text) where
    pub tight : length buffer < length (session s) → Assembles text buffer (wrong 0 no_room) buffer
    unfolding assembled answer_to
    tight h = refused (rw (le-ltb longest_text (length text) short, ← meant, lt-ltb _ _ h) refl)

    pub done :
        (r : ℕ) (after : List ℕ) → length (session s) ≤ length buffer → Written (session s) buffer r after
        → Assembles text buffer (Ok r) after
    unfolding assembled answer_to session_in in_buffer
    done r after h w =
        record {
          answer = rw (w.count, le-ltb longest_text (length text) short, ← meant, le-ltb _ _ h) refl;
          kept = rw (← meant, w.count) w.kept;
          accepted =
              λ n q.
              let z : n ≡ r = cc in
              rw (z, w.kept, w.count, take-append_seam (session s)) (opened text s (sym meant)).accepted;
        }
