-- 02, W1: "the reason why the clock's fall would change nothing by right, the first that holds of .."; what is promised of it stands in
-- `ReasonPromises`. "PGM is taken as low already": no definition here looks at it.
use Rattle.std.specs.Prelude.{ℕ, cond, not, [], ◌∷◌, get_or}
use Rattle.std.specs.Bool.{beq}
use Rattle.std.specs.Int.Bits.{bit_and}
use Rattle.std.specs.Int.Count.{count_trailing_zeros}
use Rattle.rules.specs.declared.Reason.{Reason}
use Rattle.rules.specs.declared.Reason.TheVariants.{NoProgramming, NothingStored, WrongRST, NeverAllowed, RightIsThere}
use Rattle.rules.specs.declared.Reason.TheVariants.{SVMissing, P1Missing, E1Missing, MFBlown, ISSBlown, FUSLow}
use Rattle.rules.specs.declared.Zone.{Zone}
use Rattle.rules.specs.Halves.{EC_EN, unblown, Volatile}
use Rattle.rules.specs.Lines.{RST, high}
use Rattle.rules.specs.Zones.{zone, is_fuse, is_gap}
use Rattle.rules.specs.Rights.{held, level1, lacking}
use Rattle.rules.specs.Programming.{asks}

-- The reasons in numbers, in 02's order; 0, the right is there.
abbrev pub number : Reason → ℕ
number RightIsThere = 0
number NoProgramming = 1
number NothingStored = 2
number WrongRST = 3
number NeverAllowed = 4
number SVMissing = 5
number P1Missing = 6
number E1Missing = 7
number MFBlown = 8
number ISSBlown = 9
number FUSLow = 10

-- What the operation of a moment asks for in this zone and does not have, as a mask. "never allowed for this zone at this level" is its
-- digit `no`; "so are an L2 erase in EC with EC_EN blown, past 1232, and any erase at a fuse".
unfoldable pub missing : ℕ → Volatile → Zone → ℕ
missing fuses v z =
    bit_and (asks (level1 (held fuses v)) (unblown EC_EN fuses) v.latch v.address z) (lacking (held fuses v))

-- "never allowed ..; SV missing; P1 missing; E1 missing; MF blown; ISS blown; FUS low (these last six only where 01 asks for the thing).
-- Or: the right is there.": the lowest digit of that mask. Its last one, SV or R1, no operation asks for.
unfoldable pub first_missing : ℕ → Reason
first_missing mask =
    get_or (NeverAllowed ∷ SVMissing ∷ P1Missing ∷ E1Missing ∷ MFBlown ∷ ISSBlown ∷ FUSLow ∷ []) (count_trailing_zeros 8 mask) RightIsThere

-- "the first that holds of: no programming under way; address stores nothing; RST at the wrong level for it; .."
unfoldable pub reason : ℕ → Volatile → Reason
unfolding first_missing missing is_gap
reason fuses v =
    let z = zone v.address in
    cond (not v.programming) NoProgramming
    (cond (is_gap z) NothingStored
    (cond (not (beq (high RST v.lines) (is_fuse z))) WrongRST (first_missing (missing fuses v z))))
