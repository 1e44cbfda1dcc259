-- 01, "Card file and session": what the session program prints, as bytes.
use Rattle.std.specs.Prelude.{ℕ, List, [], ◌∷◌, ◌++◌, map, take}
use Rattle.decimal.specs.Decimal.{digit, decimal}

abbrev pub newline : List ℕ
newline = 10 ∷ []

-- `bad `
abbrev pub bad_word : List ℕ
bad_word = 98 ∷ 97 ∷ 100 ∷ 32 ∷ []

-- `done `
abbrev pub done_word : List ℕ
done_word = 100 ∷ 111 ∷ 110 ∷ 101 ∷ 32 ∷ []

-- ` of `
abbrev pub of_word : List ℕ
of_word = 32 ∷ 111 ∷ 102 ∷ 32 ∷ []

-- `refused `
abbrev pub refused_word : List ℕ
refused_word = 114 ∷ 101 ∷ 102 ∷ 117 ∷ 115 ∷ 101 ∷ 100 ∷ 32 ∷ []

-- `left `
abbrev pub left_word : List ℕ
left_word = 108 ∷ 101 ∷ 102 ∷ 116 ∷ 32 ∷ []

-- A word and a number behind it.
unfoldable pub numbered : List ℕ → ℕ → List ℕ
numbered word x = word ++ decimal x

-- The same as the end of a line.
unfoldable pub line : List ℕ → ℕ → List ℕ
line word x = numbered word x ++ newline

-- "the answers without spaces", a line: each by its last decimal digit, so 0 and 1 as they are.
unfoldable pub answers_line : List ℕ → List ℕ
answers_line answers = map digit answers ++ newline

-- "It prints `bad N` alone"
unfoldable pub bad_text : ℕ → List ℕ
bad_text refusal = line bad_word refusal

-- "or four lines: steps done and given, refusal (0 if none), the answers without spaces, ones left in bits 96 to 103." The answers are
-- the first `done` of those at hand, all of them where there are fewer.
unfoldable pub four_lines : ℕ → ℕ → ℕ → List ℕ → ℕ → List ℕ
four_lines done given refusal answers left =
    numbered done_word done ++
    (line of_word given ++ (line refused_word refusal ++ (answers_line (take done answers) ++ line left_word left)))
