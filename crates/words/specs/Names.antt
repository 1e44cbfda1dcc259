-- A word that is a name.
use Rattle.std.specs.Prelude.{ℕ, suc, ◌+◌, cond, List, [], ◌∷◌, Option, Some, None}
use Rattle.std.specs.Str.{bytes_eq}
use Prim.Native.Char.{code}
use Prim.Native.String.{String}
use Prim.Native.String as text
use Rattle.words.specs.declared.Verb.{Verb}
use Rattle.words.specs.declared.Verb.TheVariants as verb
use Rattle.words.specs.declared.Level.{Level}
use Rattle.words.specs.declared.Level.TheVariants as level
use Rattle.words.specs.declared.Zone.{Zone}
use Rattle.words.specs.declared.Zone.TheVariants as zone
use Rattle.words.specs.declared.Name.{Name}
use Rattle.words.specs.declared.Name.TheVariants as name

-- The bytes of a quoted name.
unfoldable pub bytes_of : String → List ℕ
bytes_of text.[] = []
bytes_of (text.◌∷◌ c s) = code c ∷ bytes_of s

-- The place of a word in a list of words, the list's length if it is none of them.
unfoldable pub index_of : List ℕ → List (List ℕ) → ℕ
index_of w [] = 0
index_of w (x ∷ xs) = cond (bytes_eq x w) 0 (suc (index_of w xs))

-- The names, each in its row: the acts, what follows some of them, and the zones of the data sheet.
unfoldable pub names : List (List ℕ)
unfolding bytes_of
names =
    bytes_of "reset" ∷ bytes_of "write" ∷ bytes_of "erase" ∷ bytes_of "blow" ∷ bytes_of "power" ∷ bytes_of "fus" ∷
    bytes_of "image" ∷ bytes_of "cut" ∷ bytes_of "walk" ∷ bytes_of "lines" ∷ bytes_of "fuses" ∷ bytes_of "show" ∷
    bytes_of "open" ∷ bytes_of "byte" ∷ bytes_of "zone" ∷ bytes_of "on" ∷ bytes_of "off" ∷ bytes_of "high" ∷
    bytes_of "low" ∷ bytes_of "ones" ∷ bytes_of "zeros" ∷ bytes_of "FZ" ∷ bytes_of "IZ" ∷ bytes_of "SC" ∷
    bytes_of "SCAC" ∷ bytes_of "CPZ" ∷ bytes_of "AZ" ∷ bytes_of "EZ" ∷ bytes_of "EC" ∷ bytes_of "MTZ" ∷
    bytes_of "MFZ" ∷ []

-- The row of a word among the names, 31 if it is none of them.
unfoldable pub row_of : List ℕ → ℕ
row_of w = index_of w names

-- The rows of the verbs, which are the first, and those of the levels and of the zones behind them.
unfoldable pub verb_row : Verb → ℕ
verb_row verb.Reset = 0
verb_row verb.Write = 1
verb_row verb.Erase = 2
verb_row verb.Blow = 3
verb_row verb.Power = 4
verb_row verb.Fus = 5
verb_row verb.Image = 6
verb_row verb.Cut = 7
verb_row verb.Walk = 8
verb_row verb.Lines = 9
verb_row verb.Fuses = 10
verb_row verb.Show = 11
verb_row verb.Open = 12
verb_row verb.Byte = 13
verb_row verb.Zone = 14

unfoldable pub level_row : Level → ℕ
level_row level.On = 0
level_row level.Off = 1
level_row level.High = 2
level_row level.Low = 3
level_row level.Ones = 4
level_row level.Zeros = 5

unfoldable pub zone_row : Zone → ℕ
zone_row zone.FZ = 0
zone_row zone.IZ = 1
zone_row zone.SC = 2
zone_row zone.SCAC = 3
zone_row zone.CPZ = 4
zone_row zone.AZ = 5
zone_row zone.EZ = 6
zone_row zone.EC = 7
zone_row zone.MTZ = 8
zone_row zone.MFZ = 9

-- The row of a name.
unfoldable pub row : Name → ℕ
unfolding verb_row level_row zone_row
row (name.Verb v) = verb_row v
row (name.Level l) = 15 + level_row l
row (name.Zone z) = 21 + zone_row z

-- The row of what a word is, 31 if it is none of the names.
unfoldable pub row_in : Option Name → ℕ
unfolding row
row_in (Some n) = row n
row_in None = 31
