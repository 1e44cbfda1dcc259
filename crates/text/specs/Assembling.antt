-- What the assembler answers, and what the lent buffer holds afterwards.
use Rattle.std.specs.Prelude.{ℕ, ◌≡◌, cond, List, [], ◌++◌, ltb, length, take, drop, Result, Ok, Err}
use Rattle.text_lines.specs.Faults.{number}
use Rattle.memory.specs.Image.{bytes}
use Rattle.rules.specs.File.{memory_section, fuse_section, step_section, session_refusal}
use Rattle.text.specs.Sheet.{Sheet}
use Rattle.text.specs.Meaning.{Reading, Whole, Amiss, meaning, session}
use Rattle.text.specs.declared.Wrong.{Wrong}

-- 76: the buffer is too small for the session.
abbrev pub no_room : ℕ
no_room = 76

-- 77: the text is longer than 64 KiB.
abbrev pub too_long : ℕ
too_long = 77

-- 64 KiB.
abbrev pub longest_text : ℕ
longest_text = 65536

-- The answer of the assembler: the session's length, or the line and the refusal.
abbrev pub Answer : Type 0
Answer = Result ℕ (ℕ × ℕ)

abbrev pub wrong : ℕ → ℕ → Answer
wrong line refusal = Err (line, refusal)

-- The code's answer, with the number in the place of its fault.
unfoldable pub told : Result ℕ Wrong → Answer
unfolding number
told (Ok n) = Ok n
told (Err w) = wrong w.line (number w.fault)

-- The answer to a text that is not too long, with so much room.
unfoldable pub answer_to : Reading → ℕ → Answer
answer_to (Whole s) room = cond (ltb room (length (session s))) (wrong 0 no_room) (Ok (length (session s)))
answer_to (Amiss line refusal) room = wrong line refusal

-- The answer to any text.
unfoldable pub assembled : List ℕ → ℕ → Answer
assembled text room = cond (ltb longest_text (length text)) (wrong 0 too_long) (answer_to (meaning text) room)

-- The session of a reading, none of a wrong text.
unfoldable pub session_in : Reading → List ℕ
session_in (Whole s) = session s
session_in (Amiss line refusal) = []

-- A session stands at the front of the buffer; wrong text changes no byte.
unfoldable pub in_buffer : Answer → Reading → List ℕ → List ℕ
in_buffer (Ok n) m buffer = session_in m ++ drop n buffer
in_buffer (Err w) m buffer = buffer

-- 01's opener accepts a sheet's session and finds its parts.
pub record Opened (s : Sheet) : Type 0 where
  pub accepted : session_refusal (session s) bytes ≡ 0
  pub memory : memory_section (session s) ≡ s.image
  pub fuses : fuse_section (session s) ≡ s.fuses
  pub steps : step_section (session s) ≡ s.steps

-- The promise: the answer, every byte of the buffer, and that the session opener accepts what was written.
pub record Assembles (text buffer : List ℕ) (r : Answer) (after : List ℕ) : Type 0 where
  pub answer : r ≡ assembled text (length buffer)
  pub kept : after ≡ in_buffer r (meaning text) buffer
  pub accepted : (n : ℕ) → r ≡ Ok n → session_refusal (take n after) bytes ≡ 0
