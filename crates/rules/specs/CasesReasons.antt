-- 02, W1: a state for each reason, the order in which they are told, and both neighbours of each border.
--
-- Levels with programming under way: 5 is VCC and CLK, 7 with RST, 37 and 39 the same with FUS, 13 with PGM still high.
use Rattle.std.specs.Prelude.{ℕ, suc, ◌+◌, Bool, true, false, ◌&&◌, List, [], ◌∷◌, eqb}
use Rattle.rules.specs.declared.Reason.{Reason}
use Rattle.rules.specs.declared.Reason.TheVariants.{NoProgramming, NothingStored, WrongRST, NeverAllowed, RightIsThere}
use Rattle.rules.specs.declared.Reason.TheVariants.{SVMissing, P1Missing, E1Missing, MFBlown, ISSBlown, FUSLow}
use Rattle.rules.specs.Rights.{held, lacking}
use Rattle.rules.specs.Reason.{number}
use Rattle.rules.specs.CaseForms.{none, SV, P1, R1, E1, Match, Programming, state, card_at, zeros, sample, Case, Tells, Claims, holds, tells}
use Rattle.rules.specs.CaseRanges.{each_of}

-- The reasons by number, in 02's order; then the right.
unfoldable pub numbers : ℕ → List Reason → Bool
numbers n [] = true
numbers n (r ∷ rs) = eqb (number r) n && numbers (suc n) rs

unfoldable pub number_cases : List Case
unfolding numbers
number_cases =
    Claims
    (numbers 1
    (NoProgramming ∷
    NothingStored ∷
    WrongRST ∷
    NeverAllowed ∷
    SVMissing ∷
    P1Missing ∷
    E1Missing ∷
    MFBlown ∷
    ISSBlown ∷
    FUSLow ∷
    [])) ∷
    Claims (eqb (number RightIsThere) 0) ∷
    []

-- "no programming under way": idle, with CLK high, and without power; also where nothing is stored, and with RST at the wrong level.
unfoldable pub idle_reasons : List Case
unfolding card_at sample
idle_reasons =
    Tells (card_at 17 7 sample 178 SV) NoProgramming ∷
    Tells (card_at 21 7 sample 178 SV) NoProgramming ∷
    Tells (card_at 0 7 sample 0 none) NoProgramming ∷
    Tells (card_at 17 7 sample 1450 none) NoProgramming ∷
    Tells (card_at 19 7 sample 178 SV) NoProgramming ∷
    Tells (card_at 17 7 sample 1408 SV) NoProgramming ∷
    []

-- At level 1 with SV and no fuse blown: an address, and the reason for a write and an erase with RST low, then with RST high.
pub record PlaceRow : Type 0 where
  pub address : ℕ
  pub write : Reason
  pub erase : Reason
  pub write_high : Reason
  pub erase_high : Reason

abbrev pub place_row : ℕ → Reason → Reason → Reason → Reason → PlaceRow
place_row a w e wh eh = record { address = a; write = w; erase = e; write_high = wh; erase_high = eh }

-- "address stores nothing" before "RST at the wrong level for it", and that before "never allowed ..; any erase at a fuse".
unfoldable pub place_rows : List PlaceRow
place_rows =
    place_row 0 NeverAllowed NeverAllowed WrongRST WrongRST ∷
    place_row 1391 RightIsThere RightIsThere WrongRST WrongRST ∷
    place_row 1392 RightIsThere RightIsThere WrongRST WrongRST ∷
    place_row 1407 RightIsThere RightIsThere WrongRST WrongRST ∷
    place_row 1408 WrongRST WrongRST RightIsThere NeverAllowed ∷
    place_row 1423 WrongRST WrongRST RightIsThere NeverAllowed ∷
    place_row 1424 NothingStored NothingStored NothingStored NothingStored ∷
    place_row 1480 NothingStored NothingStored NothingStored NothingStored ∷
    place_row 1481 WrongRST WrongRST RightIsThere NeverAllowed ∷
    place_row 1482 NothingStored NothingStored NothingStored NothingStored ∷
    place_row 1503 NothingStored NothingStored NothingStored NothingStored ∷
    place_row 1504 WrongRST WrongRST RightIsThere NeverAllowed ∷
    place_row 1519 WrongRST WrongRST RightIsThere NeverAllowed ∷
    []

unfoldable pub place_reasons : List Case
unfolding place_rows holds tells each_of
place_reasons =
    Claims
    (each_of place_rows
    (λ p.
    holds (tells false 37 7 p.address SV p.write) &&
    (holds (tells true 37 7 p.address SV p.erase) &&
    (holds (tells false 39 7 p.address SV p.write_high) && holds (tells true 39 7 p.address SV p.erase_high))))) ∷
    []

-- "never allowed for this zone at this level (so are an L2 erase in EC with EC_EN blown, past 1232 ..)": at level 2, whatever else is
-- missing. FUS high is level 2 too where ISS is blown.
unfoldable pub never_reasons : List Case
unfolding tells
never_reasons =
    tells false 5 7 0 SV NeverAllowed ∷
    tells true 5 7 0 SV NeverAllowed ∷
    tells false 5 7 16 SV NeverAllowed ∷
    tells true 5 7 16 SV NeverAllowed ∷
    tells false 37 3 16 SV NeverAllowed ∷
    tells true 5 7 178 none NeverAllowed ∷
    tells false 5 7 1200 SV NeverAllowed ∷
    tells true 5 7 1200 SV NeverAllowed ∷
    tells false 5 6 1376 none NeverAllowed ∷
    tells true 5 7 1376 SV NeverAllowed ∷
    tells true 5 5 1233 none NeverAllowed ∷
    tells true 5 5 1233 (SV + E1) NeverAllowed ∷
    tells true 5 5 1359 (SV + E1) NeverAllowed ∷
    -- Both neighbours: at 1232, with EC_EN unblown, at level 1, and a write.
    tells true 5 5 1232 (SV + E1) RightIsThere ∷
    tells true 5 5 1232 none SVMissing ∷
    tells true 5 5 1232 SV E1Missing ∷
    tells true 5 7 1233 (SV + E1) RightIsThere ∷
    tells true 37 5 1233 SV RightIsThere ∷
    tells false 5 5 1233 none RightIsThere ∷
    []

-- "SV missing; P1 missing; E1 missing; MF blown; ISS blown; FUS low (these last six only where 01 asks for the thing). Or: the right is
-- there."
unfoldable pub thing_reasons : List Case
unfolding tells
thing_reasons =
    -- A write in AZ asks for SV and, at level 2, for P1; R1 is not P1, and nothing asks for match.
    tells false 5 7 178 none SVMissing ∷
    tells false 5 7 178 P1 SVMissing ∷
    tells false 5 7 178 (SV + R1) P1Missing ∷
    tells false 5 7 178 (SV + P1) RightIsThere ∷
    tells false 37 7 178 SV RightIsThere ∷
    tells false 5 7 96 none RightIsThere ∷
    tells true 5 7 96 Match SVMissing ∷
    -- The erase in EC at level 2: SV, then E1.
    tells true 5 7 1240 none SVMissing ∷
    tells true 5 7 1240 E1 SVMissing ∷
    tells true 5 7 1240 SV E1Missing ∷
    tells true 5 7 1240 (SV + E1) RightIsThere ∷
    -- MFZ at level 1: SV, then MF.
    tells false 37 6 1376 none SVMissing ∷
    tells false 37 6 1376 SV MFBlown ∷
    tells true 37 6 1391 SV MFBlown ∷
    tells false 37 7 1376 SV RightIsThere ∷
    -- "for the block word and the fuses the level alone is not this reason": SV, then ISS, then FUS; none of them asks for MF or EC_EN.
    tells false 5 3 1392 none SVMissing ∷
    tells false 5 3 1392 SV ISSBlown ∷
    tells false 5 0 1392 SV ISSBlown ∷
    tells true 37 3 1407 SV ISSBlown ∷
    tells true 5 7 1400 SV FUSLow ∷
    tells true 37 7 1400 SV RightIsThere ∷
    tells false 7 3 1408 none SVMissing ∷
    tells false 7 3 1408 SV ISSBlown ∷
    tells false 7 2 1408 SV ISSBlown ∷
    tells false 7 7 1408 SV RightIsThere ∷
    tells false 7 3 1481 none ISSBlown ∷
    tells false 7 7 1481 none FUSLow ∷
    tells false 7 6 1481 none FUSLow ∷
    tells false 39 7 1481 none RightIsThere ∷
    tells false 7 3 1504 SV ISSBlown ∷
    tells false 7 7 1504 none SVMissing ∷
    tells false 7 7 1504 SV RightIsThere ∷
    []

-- "PGM is taken as low already." A write on a 0, an erase of ones and a second blow of MF or EC_EN have the right; a second one of ISS
-- has not, since 01 asks for ISS unblown.
unfoldable pub right_reasons : List Case
unfolding tells card_at zeros
right_reasons =
    tells false 13 7 96 none RightIsThere ∷
    tells false 13 7 178 none SVMissing ∷
    tells false 13 7 1424 none NothingStored ∷
    Tells (card_at 5 7 zeros 96 Programming) RightIsThere ∷
    tells true 5 7 1360 none RightIsThere ∷
    tells false 7 6 1408 SV RightIsThere ∷
    tells false 39 5 1481 none RightIsThere ∷
    tells false 7 3 1519 SV ISSBlown ∷
    []

-- What is not there of what a right may ask for: SV 2, P1 4, E1 8, MF 16, ISS 32, FUS 64, SV or R1 128; the 1 of "no" never is.
unfoldable pub lacks : ℕ → ℕ → ℕ → ℕ → Case
unfolding lacking held state
lacks fuses levels holding mask = Claims (eqb (lacking (held fuses (state levels 0 holding))) mask)

unfoldable pub lacking_cases : List Case
unfolding lacks
lacking_cases =
    lacks 7 49 (SV + P1 + R1 + E1) 1 ∷
    lacks 7 49 (P1 + R1 + E1) 3 ∷
    lacks 7 49 (SV + R1 + E1) 5 ∷
    lacks 7 49 (SV + P1 + E1) 1 ∷
    lacks 7 49 (SV + P1 + R1) 9 ∷
    lacks 7 49 (P1 + E1) 131 ∷
    lacks 6 49 (SV + P1 + E1) 17 ∷
    lacks 5 49 (SV + P1 + E1) 1 ∷
    lacks 3 49 (SV + P1 + E1) 33 ∷
    lacks 7 17 (SV + P1 + E1) 65 ∷
    []
