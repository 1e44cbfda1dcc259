-- 01, "Rights": "An address is put in its zone by ranges of the number."
use Rattle.std.specs.Prelude.{ℕ, Bool, cond, ◌&&◌, eqb, leb}
use Rattle.rules.specs.declared.Zone.{Zone}
use Rattle.rules.specs.declared.Zone.TheVariants.{FZ, IZ, SC, SCAC, CPZ, AZ, EZ, EC, MTZ, MFZ}
use Rattle.rules.specs.declared.Zone.TheVariants.{Block, FuseMF, FuseECEN, FuseISS, Gap}

-- The last address: "the address 0 to 1519".
abbrev pub last : ℕ
last = 1519

unfoldable pub between : ℕ → ℕ → ℕ → Bool
between low high a = leb low a && leb a high

unfoldable pub zone : ℕ → Zone
unfolding between
zone a =
    cond (leb a 15) FZ
    (cond (leb a 79) IZ
    (cond (leb a 95) SC
    (cond (leb a 111) SCAC
    (cond (leb a 175) CPZ
    (cond (leb a 1199) AZ
    (cond (leb a 1231) EZ
    (cond (leb a 1359) EC
    (cond (leb a 1375) MTZ
    (cond (leb a 1391) MFZ
    (cond (leb a 1407) Block
    (cond (leb a 1423) FuseMF
    (cond (eqb a 1481) FuseECEN
    (cond (between 1504 1519 a) FuseISS Gap)))))))))))))

-- The zones in the order of their addresses: the table of rights has the rows 0 to 9, block and fuses stand beside it, a gap's row has no
-- rights.
abbrev pub row : Zone → ℕ
row FZ = 0
row IZ = 1
row SC = 2
row SCAC = 3
row CPZ = 4
row AZ = 5
row EZ = 6
row EC = 7
row MTZ = 8
row MFZ = 9
row Block = 10
row FuseMF = 11
row FuseECEN = 12
row FuseISS = 13
row Gap = 14

-- "Fuses": their words are the rows 11 to 13.
unfoldable pub is_fuse : Zone → Bool
unfolding between
is_fuse z = between 11 13 (row z)

-- 02, W1: "address stores nothing".
unfoldable pub is_gap : Zone → Bool
is_gap z = eqb (row z) (row Gap)
