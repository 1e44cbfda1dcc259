-- What a text means: a session, or the first wrong line and its refusal.
use Rattle.std.specs.Prelude.{ℕ, suc, ◌/◌, ◌%◌, ◌≡◌, List, [], ◌∷◌, ◌++◌, length, drop}
use Rattle.memory.specs.Image.{bytes}
use Rattle.words.specs.Scan.{lines_of}
use Rattle.text_lines.specs.Orders.{line_order}
use Rattle.text.specs.Sheet.{Sheet, Outcome, Went, Stopped, blank_sheet, obeyed}

-- The whole text's sheet, or the first wrong line and its refusal.
pub data Reading : Type 0 where
  Whole : Sheet → Reading
  Amiss : ℕ → ℕ → Reading

-- The text goes on after a line, or is wrong there.
unfoldable pub onward : ℕ → Outcome → (Sheet → Reading) → Reading
onward line (Went s) rest = rest s
onward line (Stopped refusal) rest = Amiss line refusal

-- Line by line, the first having this number.
unfoldable pub reading : ℕ → Sheet → List (List ℕ) → Reading
reading line s [] = Whole s
reading line s (l ∷ ls) = onward line (obeyed (line_order l) s) (λ t. reading (suc line) t ls)

-- A text from its first line on.
unfoldable pub meaning : List ℕ → Reading
meaning text = reading 1 blank_sheet (lines_of text)

-- 01, "Card file and session": "Sections in fixed order, each after its count (two bytes, low first): memory, 174; fuses, 1; .. steps".
unfoldable pub session_of : List ℕ → ℕ → List ℕ → List ℕ
session_of image fuses steps =
    bytes ∷ 0 ∷ (image ++ (1 ∷ 0 ∷ fuses ∷ (length steps % 256) ∷ (length steps / 256) ∷ steps))

-- A sheet's session.
unfoldable pub session : Sheet → List ℕ
session s = session_of s.image s.fuses s.steps

-- The bytes stand at the front of the buffer, all others are as before, and r counts them.
pub record Written (written before : List ℕ) (r : ℕ) (after : List ℕ) : Type 0 where
  pub count : r ≡ length written
  pub kept : after ≡ written ++ drop (length written) before
