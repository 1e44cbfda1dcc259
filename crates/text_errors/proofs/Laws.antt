-- The words of a refusal, and how long an error's line can be.
use Prim.Native.Nat.{ℕ, ◌≤◌, ◌<◌, ◌^◌, max}
use Prim.Native.String.{String}
use native.Mathlib.Omega.{arith}
use mathlib.Core.Path.{◌≡◌, refl}
use mathlib.Core.Bool.{Bool, true, false, cond}
use mathlib.Core.List.{List, [], ◌∷◌}
use lib.Dec.{eqb}
use lib.ListN.{length, length-append}
use Rattle.words.specs.Names.{bytes_of}
use Rattle.decimal.proofs.Digits.{few_digits, at_most_twenty}
use Rattle.report.proofs.Lengths.{length_numbered}
use Rattle.text_errors.specs.ErrorLine.{table, words_in, words, error_line, enough}

-- The longest words of some rows.
unfoldable longest : List (ℕ × String) → ℕ
unfolding bytes_of
longest [] = length (bytes_of "another refusal")
longest ((number, said) ∷ rows) = max (length (bytes_of said)) (longest rows)

within_longest : (rows : List (ℕ × String)) (refusal : ℕ) → length (bytes_of (words_in rows refusal)) ≤ longest rows
unfolding words_in longest
within_longest [] refusal = omega arith
within_longest ((number, said) ∷ rows) refusal = go (eqb refusal number) (within_longest rows refusal)
  where
    go :
        (t : Bool) → length (bytes_of (words_in rows refusal)) ≤ longest rows →
        length (bytes_of (cond t said (words_in rows refusal))) ≤ max (length (bytes_of said)) (longest rows)
    go true rest = omega arith
    go false rest = omega arith

fifty : longest table ≡ 50
unfolding longest table bytes_of
fifty = refl

short_words : (refusal : ℕ) → length (words refusal) ≤ 50
unfolding words
short_words refusal = omega (arith, within_longest table refusal, fifty)

pub not_long : (line refusal : ℕ) → line < 2 ^ 64 → refusal < 256 → length (error_line line refusal) ≤ enough
unfolding error_line bytes_of
not_long line refusal l k =
    simp (length-append, length_numbered)
    (omega (arith, short_words refusal, at_most_twenty line l, few_digits 2 refusal (omega arith)))
