-- A text in a lent buffer.
use Rattle.std.specs.Prelude.{ℕ, ◌≤◌, ◌≡◌, cond, List, ◌++◌, ltb, length, drop, Option, Some, None}

-- The answer: the text's length, or none where the buffer is too small for it.
unfoldable pub told : List ℕ → ℕ → Option ℕ
told text room = cond (ltb room (length text)) None (Some (length text))

-- What each answer says of the buffer: the text stands at its start and the bytes behind the text are as they were; or all are.
unfoldable pub held : Option ℕ → List ℕ → List ℕ → List ℕ
held (Some n) text before = text ++ drop n before
held None text before = before

-- The promise of a function that makes a text.
pub record Made (text before : List ℕ) (answer : Option ℕ) (after : List ℕ) : Type 0 where
  pub answered : answer ≡ told text (length before)
  pub lent : after ≡ held answer text before

-- So much room is enough: a buffer that has it is not too small.
unfoldable pub Enough : ℕ → ℕ → Option ℕ → Type 0
Enough enough room answer = enough ≤ room → answer ≡ None → ⊥
