-- How the code holds a sheet: the image and the steps in arrays, the steps with their count.
use Rattle.std.specs.Prelude.{ℕ, take, Result, Ok, Err}
use Rattle.text_lines.specs.Faults.{number}
use Rattle.text.specs.Sheet.{Sheet, Outcome, Went, Stopped}
use Rattle.text.specs.Meaning.{Reading, Whole, Amiss}
use Rattle.text.specs.declared.Wrong.{Wrong}
use Rattle.text.specs.declared.sheet.Sheet.{Sheet as Held}

-- The sheet that is held so.
unfoldable pub sheet_of : Held → Sheet
sheet_of s = record { image = s.image; fuses = s.fuses; steps = take s.count s.steps }

-- What an order comes to, with the sheet that is held after it.
unfoldable pub outcome_of : {A : Type 0} → Result A ℕ → Held → Outcome
unfolding sheet_of
outcome_of (Ok x) s = Went (sheet_of s)
outcome_of (Err refusal) s = Stopped refusal

-- What the reading of all lines comes to.
unfoldable pub reading_of : Result Held Wrong → Reading
unfolding sheet_of number
reading_of (Ok s) = Whole (sheet_of s)
reading_of (Err w) = Amiss w.line (number w.fault)
