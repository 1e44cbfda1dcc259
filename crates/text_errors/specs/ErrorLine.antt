-- docs/TEXT.md, "Errors": the line that says what is wrong with a text.
use Rattle.std.specs.Prelude.{ℕ, cond, List, [], ◌∷◌, ◌++◌, eqb}
use Prim.Native.String.{String}
use Rattle.words.specs.Names.{bytes_of}
use Rattle.report.specs.Lines.{newline, numbered}

-- Each refusal's number and words.
unfoldable pub table : List (ℕ × String)
table =
    (77, "the text is longer than 65,536 bytes") ∷
    (71, "no line starts with this word") ∷
    (72, "a word too many, too few or not of this line") ∷
    (73, "a number is too large for its place") ∷
    (74, "the image and the fuses come before the first step") ∷
    (75, "this act does not start from these levels") ∷
    (21, "a walk over 1519") ∷
    (23, "no 1 in bits 96 to 103: no try left") ∷
    (22, "more than 4,096 steps") ∷
    (76, "no room") ∷
    []

-- The words of a refusal, and some for one that has no row.
unfoldable pub words_in : List (ℕ × String) → ℕ → String
words_in [] refusal = "another refusal"
words_in ((number, said) ∷ rows) refusal = cond (eqb refusal number) said (words_in rows refusal)

-- The words of a refusal, as bytes.
unfoldable pub words : ℕ → List ℕ
words refusal = bytes_of (words_in table refusal)

-- "`line N: words (number)`"
unfoldable pub error_line : ℕ → ℕ → List ℕ
error_line line refusal =
    numbered (bytes_of "line ") line ++
    (bytes_of ": " ++ (words refusal ++ (numbered (bytes_of " (") refusal ++ (bytes_of ")" ++ newline))))

-- How much room is enough for any line: the longest words, a number of at most 20 digits, one of at most 3, and what stands around them.
abbrev pub enough : ℕ
enough = 84
