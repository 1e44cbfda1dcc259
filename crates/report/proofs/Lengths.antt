-- How long the lines are.
use Prim.Native.Nat.{ℕ, ◌+◌, min}
use native.Mathlib.Omega.{arith}
use mathlib.Core.Path.{◌≡◌}
use mathlib.Core.List.{List, map}
use lib.ListN.{length, length-append, length-map, length-take}
use Rattle.decimal.specs.Decimal.{digit, decimal}
use Rattle.report.specs.Lines.{newline, bad_word, numbered, line, answers_line, bad_text, four_lines}

pub length_numbered : (word : List ℕ) (x : ℕ) → length (numbered word x) ≡ length word + length (decimal x)
unfolding numbered
length_numbered word x = length-append word (decimal x)

length_line : (word : List ℕ) (x : ℕ) → length (line word x) ≡ length word + length (decimal x) + 1
unfolding line
length_line word x = omega (arith, length-append (numbered word x) newline, length_numbered word x)

length_answers : (answers : List ℕ) → length (answers_line answers) ≡ length answers + 1
unfolding answers_line
length_answers answers = omega (arith, length-append (map digit answers) newline, length-map answers digit)

pub length_bad : (number : ℕ) → length (bad_text number) ≡ 5 + length (decimal number)
unfolding bad_text
length_bad number = omega (arith, length_line bad_word number)

pub length_lines :
    (done given refusal : ℕ) (answers : List ℕ) (left : ℕ) →
    length (four_lines done given refusal answers left) ≡
    26 + (length (decimal done) + length (decimal given) + length (decimal refusal) + length (decimal left)) + min done (length answers)
unfolding four_lines
length_lines done given refusal answers left =
    simp (length-append, length_numbered, length_line, length_answers, length-take) (omega arith)
