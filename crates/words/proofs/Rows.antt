-- No two names are in one row.
use mathlib.Core.Path.{◌≡◌, refl, sym, ap, ◌∙◌}
use mathlib.Core.Bool.{false}
use mathlib.Core.List.{List, [], ◌∷◌}
use borrow.Author.Tests.{ne_eqb}
use lib.Dec.{eqb}
use Rattle.std.specs.Prelude.{Option, Some, None, slice_get}
use Rattle.std.proofs.lemmas.Option.{same_Some, none-some}
use Rattle.words.specs.declared.Verb.TheVariants as verb
use Rattle.words.specs.declared.Level.TheVariants as level
use Rattle.words.specs.declared.Zone.TheVariants as zone
use Rattle.words.specs.declared.Name.{Name}
use Rattle.words.specs.declared.Name.TheVariants.{Verb, Level, Zone}
use Rattle.words.specs.Names.{verb_row, level_row, zone_row, row, row_in}

-- The names by their rows.
abbrev by_row : List Name
by_row =
    Verb verb.Reset ∷ Verb verb.Write ∷ Verb verb.Erase ∷ Verb verb.Blow ∷ Verb verb.Power ∷ Verb verb.Fus ∷
    Verb verb.Image ∷ Verb verb.Cut ∷ Verb verb.Walk ∷ Verb verb.Lines ∷ Verb verb.Fuses ∷ Verb verb.Show ∷
    Verb verb.Open ∷ Verb verb.Byte ∷ Verb verb.Zone ∷ Level level.On ∷ Level level.Off ∷ Level level.High ∷
    Level level.Low ∷ Level level.Ones ∷ Level level.Zeros ∷ Zone zone.FZ ∷ Zone zone.IZ ∷ Zone zone.SC ∷
    Zone zone.SCAC ∷ Zone zone.CPZ ∷ Zone zone.AZ ∷ Zone zone.EZ ∷ Zone zone.EC ∷ Zone zone.MTZ ∷ Zone zone.MFZ ∷ []

in_its_row : (n : Name) → slice_get by_row (row n) ≡ Some n
unfolding verb_row level_row zone_row row
in_its_row (Verb verb.Reset) = refl
in_its_row (Verb verb.Write) = refl
in_its_row (Verb verb.Erase) = refl
in_its_row (Verb verb.Blow) = refl
in_its_row (Verb verb.Power) = refl
in_its_row (Verb verb.Fus) = refl
in_its_row (Verb verb.Image) = refl
in_its_row (Verb verb.Cut) = refl
in_its_row (Verb verb.Walk) = refl
in_its_row (Verb verb.Lines) = refl
in_its_row (Verb verb.Fuses) = refl
in_its_row (Verb verb.Show) = refl
in_its_row (Verb verb.Open) = refl
in_its_row (Verb verb.Byte) = refl
in_its_row (Verb verb.Zone) = refl
in_its_row (Level level.On) = refl
in_its_row (Level level.Off) = refl
in_its_row (Level level.High) = refl
in_its_row (Level level.Low) = refl
in_its_row (Level level.Ones) = refl
in_its_row (Level level.Zeros) = refl
in_its_row (Zone zone.FZ) = refl
in_its_row (Zone zone.IZ) = refl
in_its_row (Zone zone.SC) = refl
in_its_row (Zone zone.SCAC) = refl
in_its_row (Zone zone.CPZ) = refl
in_its_row (Zone zone.AZ) = refl
in_its_row (Zone zone.EZ) = refl
in_its_row (Zone zone.EC) = refl
in_its_row (Zone zone.MTZ) = refl
in_its_row (Zone zone.MFZ) = refl

pub apart : (n m : Name) → (n ≡ m → ⊥) → eqb (row n) (row m) ≡ false
apart n m d =
    ne_eqb (row n) (row m) (λ e. d (same_Some n m (sym (in_its_row n) ∙ (ap (slice_get by_row) e ∙ in_its_row m))))

-- A word that is no name is in no name's row.
none_apart : (n : Name) → row n ≡ 31 → ⊥
none_apart n e = none-some n (ap (slice_get by_row) (sym e) ∙ in_its_row n)

-- What a word is found to be is known by its row.
pub same_row : (a b : Option Name) → row_in a ≡ row_in b → a ≡ b
unfolding row_in
same_row None None e = refl
same_row None (Some n) e = absurd (none_apart n (sym e))
same_row (Some n) None e = absurd (none_apart n e)
same_row (Some n) (Some m) e = sym (in_its_row n) ∙ (ap (slice_get by_row) e ∙ in_its_row m)
