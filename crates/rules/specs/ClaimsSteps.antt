-- When the claims of moving, arriving and reading hold: 01, "Steps".
use Rattle.std.specs.Prelude.{ℕ, ◌+◌, ◌-◌, Bool, false, cond, ◌&&◌, List, [], ◌∷◌, eqb}
use Rattle.rules.specs.Match.{following, arrived}
use Rattle.rules.specs.CaseForms.{none, released}
use Rattle.rules.specs.CaseForms.{state, same_half}
use Rattle.rules.specs.CaseRanges.{each_in, each_of}
use Rattle.rules.specs.ClaimForms.{idle_low, way, ways, everything, pin_is}
use Rattle.rules.specs.Computing.{the_card}

-- "Addresses 1392 to 1519 are never read": with all flags at both levels, and without any.
unfoldable pub never_read : Bool
unfolding pin_is everything ways each_in each_of
never_read =
    each_in 1392 1519
    (λ a. pin_is false (way 32 4) a (everything a) released && (pin_is false (way 0 4) a (everything a) released && pin_is false (way 0 4) a none released))

-- "the address goes up by one, 1519 going to 0"
unfoldable pub moves_on : Bool
unfolding the_card each_in
moves_on = each_in 0 1518 (λ a. eqb (following a) (a + 1)) && eqb (following 1519) 0

-- What a list of pairs gives for a number, and otherwise x.
unfoldable pub looked_up : List (ℕ × ℕ) → ℕ → ℕ → ℕ
looked_up [] a x = x
looked_up (p ∷ ps) a x = cond (eqb a p.0) p.1 (looked_up ps a x)

-- Arriving at an address, of a half that holds this: what is held then at the addresses that are named, and at any other the same.
unfoldable pub arrives : List ℕ → ℕ → ℕ → List (ℕ × ℕ) → ℕ → Bool
unfolding the_card state same_half looked_up
arrives m fuses holding named a =
    same_half (arrived m fuses a (state idle_low 500 holding)) (state idle_low a (looked_up named a holding))
