-- 01, "The card's two halves".
use Rattle.std.specs.Prelude.{ℕ, Bool, false, List}
use Rattle.memory.specs.Image.{digit, cleared}

-- "a fuse byte: MF 1, EC_EN 2, ISS 4; a set bit is unblown"
pub data Fuse : Type 0 where
  MF EC_EN ISS : Fuse

unfoldable pub fuse_place : Fuse → ℕ
fuse_place MF = 0
fuse_place EC_EN = 1
fuse_place ISS = 2

unfoldable pub unblown : Fuse → ℕ → Bool
unfolding fuse_place
unblown x fuses = digit (fuse_place x) fuses

unfoldable pub blown : Fuse → ℕ → ℕ
unfolding fuse_place
blown x fuses = cleared (fuse_place x) fuses

-- "Volatile: the lines, the address 0 to 1519, flags SV, P1, R1, E1, one match flag, the latched data, and whether programming is
-- under way."
pub record Volatile : Type 0 where
  pub lines : ℕ
  pub address : ℕ
  pub sv : Bool
  pub p1 : Bool
  pub r1 : Bool
  pub e1 : Bool
  pub matched : Bool
  pub latch : Bool
  pub programming : Bool

-- "Lasting: memory .. and a fuse byte", and the volatile half beside it.
pub record Card : Type 0 where
  pub memory : List ℕ
  pub fuses : ℕ
  pub volatile : Volatile

-- Switched off at these levels: nothing else is left in the volatile half.
unfoldable pub off : ℕ → Volatile
off n =
    record {
      lines = n;
      address = 0;
      sv = false;
      p1 = false;
      r1 = false;
      e1 = false;
      matched = false;
      latch = false;
      programming = false;
    }

-- "A fresh card has all lines low."
unfoldable pub fresh : Volatile
fresh = off 0
