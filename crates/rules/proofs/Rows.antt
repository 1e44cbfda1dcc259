-- A zone is told by its row, and a test of every zone is one of fifteen rows.
use Prim.Native.Nat.{ℕ, ◌<◌}
use native.Mathlib.Omega.{arith}
use mathlib.Core.Path.{◌≡◌, refl, sym, ap, ◌∙◌}
use mathlib.Core.Bool.{Bool, true}
use mathlib.Core.List.{[], ◌∷◌}
use lib.ListN.{get_or}
use Rattle.memory.proofs.Below.{all, below}
use Rattle.rules.specs.declared.Zone.{Zone}
use Rattle.rules.specs.declared.Zone.TheVariants.{FZ, IZ, SC, SCAC, CPZ, AZ, EZ, EC, MTZ, MFZ}
use Rattle.rules.specs.declared.Zone.TheVariants.{Block, FuseMF, FuseECEN, FuseISS, Gap}
use Rattle.rules.specs.Zones.{row}

-- The zone of a row.
unfoldable pub at_row : ℕ → Zone
at_row k =
    get_or (FZ ∷ IZ ∷ SC ∷ SCAC ∷ CPZ ∷ AZ ∷ EZ ∷ EC ∷ MTZ ∷ MFZ ∷ Block ∷ FuseMF ∷ FuseECEN ∷ FuseISS ∷ []) k Gap

in_row : (z : Zone) → (row z < 15) × (at_row (row z) ≡ z)
unfolding at_row
in_row FZ = (omega arith, refl)
in_row IZ = (omega arith, refl)
in_row SC = (omega arith, refl)
in_row SCAC = (omega arith, refl)
in_row CPZ = (omega arith, refl)
in_row AZ = (omega arith, refl)
in_row EZ = (omega arith, refl)
in_row EC = (omega arith, refl)
in_row MTZ = (omega arith, refl)
in_row MFZ = (omega arith, refl)
in_row Block = (omega arith, refl)
in_row FuseMF = (omega arith, refl)
in_row FuseECEN = (omega arith, refl)
in_row FuseISS = (omega arith, refl)
in_row Gap = (omega arith, refl)

pub row_injective : (y z : Zone) → row y ≡ row z → y ≡ z
row_injective y z e = sym (in_row y).1 ∙ (ap at_row e ∙ (in_row z).1)

pub each_zone : (test : Zone → Bool) → all 15 (λ k. test (at_row k)) ≡ true → (z : Zone) → test z ≡ true
each_zone test e z = rw (in_row z).1 at (below 15 (λ k. test (at_row k)) e (row z) (in_row z).0)
