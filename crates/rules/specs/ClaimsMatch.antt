-- When the claims of code and key hold: 01, "Code", "Opening" and "Key".
use Rattle.std.specs.Prelude.{ℕ, ◌+◌, ◌-◌, ◌*◌, Bool, true, false, not, ◌&&◌, List, [], ◌∷◌}
use Rattle.rules.specs.Match.{compared}
use Rattle.rules.specs.CaseForms.{none, SV, Match, Latch, Programming}
use Rattle.rules.specs.CaseForms.{card_at, ones, sample}
use Rattle.rules.specs.ClaimForms.{falls, leaves, bit_written}
use Rattle.rules.specs.Computing.{the_card}

-- A write in EC with match, at these levels and with these fuses, sets the bit to 0, and leaves this held.
unfoldable pub writes_ec : ℕ → ℕ → ℕ → ℕ → Bool
unfolding falls card_at ones bit_written
writes_ec levels fuses holding a =
    falls levels fuses ones a (Match + Programming) (card_at levels fuses (bit_written a) a (Match + holding))

-- CLK falls with RST low after this bit was latched: a sample card that held this moves on by one, and holds that.
unfoldable pub clocks : ℕ → ℕ → ℕ → ℕ → ℕ → ℕ → Bool
unfolding falls card_at sample
clocks levels fuses a latched holding then =
    falls levels fuses sample a (holding + latched * Latch) (card_at levels fuses sample (a + 1) then)

-- The compare at each place from a on, of these stored bits, `begun` being none at the first place and match afterwards.
unfoldable pub code_compared : ℕ → ℕ → List ℕ → Bool
unfolding clocks
code_compared a begun [] = true
code_compared a begun (b ∷ bs) =
    clocks 17 7 a b begun Match &&
    (clocks 49 7 a b begun Match &&
    (clocks 17 7 a (1 - b) begun none &&
    (clocks 17 7 a b none (Match - begun) &&
    (clocks 17 7 a b (SV + begun) SV && (clocks 49 7 a b (SV + begun) SV && code_compared (a + 1) Match bs)))))

-- The key's: at level 2 in its three ways, also with SV, but not at level 1.
unfoldable pub key_compared : ℕ → ℕ → List ℕ → Bool
unfolding clocks
key_compared a begun [] = true
key_compared a begun (b ∷ bs) =
    clocks 17 7 a b begun Match &&
    (clocks 17 3 a b (SV + begun) (SV + Match) &&
    (clocks 49 3 a b begun Match &&
    (clocks 17 7 a (1 - b) begun none &&
    (clocks 17 7 a b none (Match - begun) &&
    (clocks 49 7 a b begun none && (clocks 49 7 a b (SV + begun) SV && key_compared (a + 1) Match bs))))))

-- At any other address there is no compare: match stays where the bits differ, SV is set and the level is 1, and does not come where they
-- are equal.
unfoldable pub not_compared : ℕ → Bool
unfolding the_card
not_compared a = compared true true true false a true && not (compared false false true true a false)

-- A write at a on a 1, then on a 0, and without match, at these levels: the first alone sets SV.
unfoldable pub opens_at : ℕ → ℕ → Bool
unfolding falls card_at ones bit_written leaves
opens_at levels a =
    falls levels 7 ones a (Match + Programming) (card_at levels 7 (bit_written a) a (SV + Match)) &&
    (falls levels 7 (bit_written a) a (Match + Programming) (card_at levels 7 (bit_written a) a Match) &&
    leaves false levels 7 a none 7 (bit_written a))
