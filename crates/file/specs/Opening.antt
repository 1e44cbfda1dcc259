-- 01, "Card file and session": "Opening answers either the parts or a number."
use Rattle.std.specs.Prelude.{ℕ, ◌+◌, ◌≡◌, cond, List, [], eqb, length, Result, Ok, Err}
use Rattle.std.specs.Borrow.{Bor}
use Rattle.rules.specs.Numbers.{refused}
use Rattle.rules.specs.File.{steps_at, memory_section, fuse_section, step_count, step_section, card_refusal, session_refusal}
use Rattle.file.specs.declared.CardFile.{CardFile}
use Rattle.file.specs.declared.Session.{Session}

-- The values in an answer, 0 where refused.
unfoldable pub card_fuses : Result CardFile ℕ → ℕ
card_fuses (Ok card) = card.fuses
card_fuses (Err k) = 0

unfoldable pub session_fuses : Result Session ℕ → ℕ
session_fuses (Ok session) = session.fuses
session_fuses (Err k) = 0

unfoldable pub session_steps : Result Session ℕ → ℕ
session_steps (Ok session) = session.steps
session_steps (Err k) = 0

-- The answer to a file and a memory buffer of this length: the fuse section and the count of the steps, or the refusal.
unfoldable pub card_answer : List ℕ → ℕ → Result CardFile ℕ
unfolding card_refusal fuse_section
card_answer file room =
    let k = card_refusal file room in
    cond (eqb k 0) (Ok (record { fuses = fuse_section file })) (Err k)

unfoldable pub session_answer : List ℕ → ℕ → Result Session ℕ
unfolding session_refusal fuse_section step_count
session_answer file room =
    let k = session_refusal file room in
    cond (eqb k 0) (Ok (record { fuses = fuse_section file; steps = step_count file })) (Err k)

-- "Accepted: the lent buffer holds the memory section, nothing else changes. Refused: no buffer changes."
unfoldable pub in_memory : ℕ → List ℕ → List ℕ → List ℕ
unfolding memory_section
in_memory refusal file memory = cond (eqb refusal 0) (memory_section file) memory

-- The openers' promises, the number in the place of its refusal: every byte of the memory buffer, and the answer.
pub record CardOpened (file memory : List ℕ) (r : Result CardFile ℕ) (after : List ℕ) : Type 0 where
  pub bytes : after ≡ in_memory (refused r) file memory
  pub answer : r ≡ card_answer file (length memory)

pub record SessionOpened (file memory : List ℕ) (r : Result Session ℕ) (after : List ℕ) : Type 0 where
  pub bytes : after ≡ in_memory (refused r) file memory
  pub answer : r ≡ session_answer file (length memory)

-- "The step section is handed back as that part of the caller's bytes, the empty part if refused."
unfoldable pub handed_steps : List ℕ → ℕ → List ℕ
unfolding session_refusal step_section
handed_steps file room = cond (eqb (session_refusal file room) 0) (step_section file) []

-- Where in the session that part starts.
unfoldable pub handed_from : List ℕ → ℕ → ℕ
unfolding session_refusal
handed_from file room = cond (eqb (session_refusal file room) 0) steps_at 0

-- The thin call's promise: the bytes, and that they are no copy but lie in the caller's own block of memory, from that place on.
pub record Handed (file : Bor (List ℕ)) (room : ℕ) (r : Bor (List ℕ)) : Type 0 where
  pub bytes : r.now ≡ handed_steps file.now room
  pub block : r.ref_ptr.0 ≡ file.ref_ptr.0
  pub offset : r.ref_ptr.1 ≡ handed_from file.now room + file.ref_ptr.1
