-- What the pin shows on a walk.
use Rattle.std.specs.Prelude.{ℕ, ◌≡◌, Bool, true, false, ◌||◌, ltb, Option, Some, None}
use Rattle.memory.specs.Image.{digit}
use Rattle.rules.specs.Halves as Halves
use Rattle.rules.specs.Zones.{between, zone}
use Rattle.rules.specs.Rights.{held, may_read}

-- Addresses that CLK's fall comes to without a compare before and without an effect of the arrival, and that neither level nor fuses guard:
-- within FZ and IZ, in SCAC past the end of match and within CPZ, in AZ past its flags and before its last, within EC, and past the first
-- of MTZ.
unfoldable pub plain_at : ℕ → Bool
plain_at a = ltb a 80 || (between 105 175 a || (between 178 1198 a || (between 1233 1359 a || between 1361 1519 a)))

-- A walk can come to such an address, and the pin shows its bit there or shows nothing.
pub record Reads (a flags : ℕ) (bit : Bool) : Type 0 where
  pub plain : plain_at a ≡ true
  pub read : (fuses : ℕ) (v : Halves.Volatile) → v.sv ≡ digit 0 flags → v.r1 ≡ digit 2 flags → may_read (held fuses v) (zone a) ≡ bit

-- What the pin shows at an address that a walk comes to: whether it is the bit; nothing is said of any other address.
abbrev pub Shows : ℕ → ℕ → Option Bool → Type 0
Shows a flags (Some bit) = Reads a flags bit
Shows a flags None = plain_at a ≡ false
