-- The words of a text.
use Rattle.std.specs.Prelude.{ℕ, suc, Bool, cond, not, ◌||◌, List, [], ◌∷◌, eqb, take, drop}
use Rattle.words.specs.declared.Stop.{Stop}
use Rattle.words.specs.declared.Stop.TheVariants.{LineEnd, Comment, Blank, Ink}

-- Words are separated by blanks: a space, a tab, or a CR, as it stands before a line's end.
unfoldable pub blank : ℕ → Bool
blank b = eqb b 32 || (eqb b 9 || eqb b 13)

-- A line ends at LF, a comment starts at `#`, and ink is whatever is no blank.
unfoldable pub stops_at : Stop → ℕ → Bool
unfolding blank
stops_at LineEnd b = eqb b 10
stops_at Comment b = eqb b 35
stops_at Blank b = blank b
stops_at Ink b = not (blank b)

-- How many bytes stand before the first at which a scan stops.
unfoldable pub ahead_of : Stop → List ℕ → ℕ
unfolding stops_at
ahead_of x [] = 0
ahead_of x (b ∷ s) = cond (stops_at x b) 0 (suc (ahead_of x s))

-- The bytes before that one.
unfoldable pub up_to : Stop → List ℕ → List ℕ
up_to x s = take (ahead_of x s) s

-- That one and all after it.
unfoldable pub from : Stop → List ℕ → List ℕ
from x s = drop (ahead_of x s) s

-- The first word, empty if there is none.
unfoldable pub first_word : List ℕ → List ℕ
first_word s = up_to Blank (from Ink s)

-- What stands after the first word.
unfoldable pub after_word : List ℕ → List ℕ
after_word s = from Blank (from Ink s)

-- One byte more in front of the first line.
unfoldable pub joined : ℕ → List (List ℕ) → List (List ℕ)
joined b [] = (b ∷ []) ∷ []
joined b (l ∷ ls) = (b ∷ l) ∷ ls

-- The lines of a text, without the LF that ends each but the last.
unfoldable pub lines_of : List ℕ → List (List ℕ)
unfolding stops_at joined
lines_of [] = [] ∷ []
lines_of (b ∷ s) = cond (stops_at LineEnd b) ([] ∷ lines_of s) (joined b (lines_of s))
