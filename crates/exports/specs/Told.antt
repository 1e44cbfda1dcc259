-- What each call of the maker and of the openers promises for every input: its numbers, and what it leaves of all that is lent. A step
-- and a run promise what the card's do (`StepTold`, `RunAnswered` in `card`'s `Calls`).
use Rattle.std.specs.Prelude.{ℕ, ◌≡◌, List, length, take, drop}
use Rattle.maker.specs.Act.{made, in_buffer}
use Rattle.rules.specs.Numbers.{refused}
use Rattle.file.specs.Opening.{card_answer, session_answer, in_memory, handed_steps}
use Rattle.exports.specs.declared.acts.ZhavMade.{ZhavMade}
use Rattle.exports.specs.declared.openers.ZhavCard.{ZhavCard}
use Rattle.exports.specs.declared.openers.ZhavSession.{ZhavSession}
use Rattle.exports.specs.Rendered.{made_of, card_file_of, session_of}

-- An act: its numbers and the buffer.
pub record ActTold (refusal : ℕ) (steps buffer : List ℕ) (r : ZhavMade) (after : List ℕ) : Type 0 where
  pub answer : r ≡ made_of (made refusal steps (length buffer))
  pub bytes : after ≡ in_buffer (made refusal steps (length buffer)) steps buffer

-- The openers: their numbers and the memory buffer. A session's numbers give the step section as that part of the file, the empty part
-- if refused.
pub record CardTold (file memory : List ℕ) (r : ZhavCard) (after : List ℕ) : Type 0 where
  pub answer : r ≡ card_file_of (card_answer file (length memory))
  pub bytes : after ≡ in_memory (refused (card_answer file (length memory))) file memory

pub record SessionTold (file memory : List ℕ) (r : ZhavSession) (after : List ℕ) : Type 0 where
  pub answer : r ≡ session_of (session_answer file (length memory))
  pub bytes : after ≡ in_memory (refused (session_answer file (length memory))) file memory
  pub section : take r.steps (drop r.first file) ≡ handed_steps file (length memory)
