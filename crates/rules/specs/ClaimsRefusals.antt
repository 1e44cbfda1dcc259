-- When the rows of refusals hold: 01, "Numbers a caller can get".
use Rattle.std.specs.Prelude.{ℕ, ◌+◌, ◌-◌, ◌/◌, ◌%◌, Bool, true, false, cond, not, ◌&&◌, ◌||◌, List, [], ◌∷◌, eqb, leb}
use Rattle.std.specs.Bool.{beq}
use Rattle.rules.specs.Lines.{Line, VCC, RST, CLK, PGM, IO, FUS, Same, Many, edge}
use Rattle.rules.specs.Refusals.{rises, falls, refusal, made_up, state_refusal}
use Rattle.rules.specs.CaseForms.{none, Programming}
use Rattle.rules.specs.CaseForms.{state, card_at, sample}
use Rattle.rules.specs.CaseRanges.{each_of}
use Rattle.rules.specs.Computing.{the_card}

-- The edge of a line by which a step is refused.
pub data Turn : Type 0 where
  Up : Turn
  Down : Turn
  Either : Turn

-- A row of 01's numbers: the number, the weight of the line that changes, which way, whether VCC and programming are needed, and a sum of
-- lines of which one must be high, 0 if none.
pub record RefusalRow : Type 0 where
  pub number : ℕ
  pub line : ℕ
  pub turn : Turn
  pub powered : Bool
  pub programming : Bool
  pub high : ℕ

abbrev pub refusal_row : ℕ → ℕ → Turn → Bool → Bool → ℕ → RefusalRow
refusal_row k x t vcc p high = record { number = k; line = x; turn = t; powered = vcc; programming = p; high = high }

-- A line of weight x is high at these levels.
unfoldable pub is_high : ℕ → ℕ → Bool
is_high x levels = eqb (levels / x % 2) 1

unfoldable pub turns : Turn → Bool → Bool
turns Up high = not high
turns Down high = high
turns Either high = true

-- Lines of these weights, of which one is high.
unfoldable pub some_high : ℕ → ℕ → Bool
unfolding is_high
some_high sum levels = eqb sum 0 || (is_high 4 sum && is_high 4 levels || is_high 8 sum && is_high 8 levels)

unfoldable pub fits : RefusalRow → ℕ → ℕ → Bool → Bool
unfolding turns some_high
fits r x levels programming =
    eqb x r.line &&
    (turns r.turn (is_high x levels) &&
    ((not r.powered || is_high 1 levels) && ((not r.programming || programming) && some_high r.high levels)))

-- The number of the first row that fits, 0 if none.
unfoldable pub number_by : List RefusalRow → ℕ → ℕ → Bool → ℕ
unfolding fits
number_by [] x levels programming = 0
number_by (r ∷ rs) x levels programming = cond (fits r x levels programming) r.number (number_by rs x levels programming)

-- A step from these levels is refused by this number, 0 if it is accepted.
unfoldable pub refused_by : ℕ → Bool → ℕ → ℕ → Bool
unfolding the_card state
refused_by levels programming n k = eqb (refusal (state levels 0 (cond programming Programming none)) n) k

-- The levels with the line of weight x turned over.
unfoldable pub flipped : ℕ → ℕ → ℕ
unfolding is_high
flipped x levels = cond (is_high x levels) (levels - x) (levels + x)

-- "VCC 1, RST 2, CLK 4, PGM 8, I/O 16 .., FUS 32"
abbrev pub lines : List (Line × ℕ)
lines = (VCC, 1) ∷ (RST, 2) ∷ (CLK, 4) ∷ (PGM, 8) ∷ (IO, 16) ∷ (FUS, 32) ∷ []

-- Each line changes alone from these levels: it rises where it was low and falls where it was high, and no other line changes.
unfoldable pub changes_alone : ℕ → Bool
unfolding the_card is_high flipped each_of
changes_alone levels =
    each_of lines
    (λ x.
    let e = edge levels (flipped x.1 levels) in
    let high = is_high x.1 levels in
    each_of lines
    (λ y.
    let same = eqb x.1 y.1 in
    beq (rises y.0 e) (same && not high) && beq (falls y.0 e) (same && high)))

-- Where no line changes, or more than one, none rises or falls.
unfoldable pub none_changes : Bool
unfolding the_card each_of
none_changes =
    each_of lines
    (λ x. not (rises x.0 Same) && (not (falls x.0 Same) && (not (rises x.0 Many) && not (falls x.0 Many))))

-- From these levels no line changes, or one; with programming under way and without.
unfoldable pub refuses_as : List RefusalRow → ℕ → Bool
unfolding refused_by number_by flipped each_of
refuses_as rows levels =
    each_of (false ∷ true ∷ [])
    (λ programming.
    refused_by levels programming levels 0 &&
    each_of lines (λ x. refused_by levels programming (flipped x.1 levels) (number_by rows x.1 levels programming)))

-- From these levels two lines change.
unfoldable pub refuses_pairs : ℕ → Bool
unfolding refused_by flipped each_of
refuses_pairs levels =
    each_of lines
    (λ x. each_of lines (λ y. leb y.1 x.1 || refused_by levels true (flipped y.1 (flipped x.1 levels)) 2))

-- A volatile half is made up.
unfoldable pub is_made_up : ℕ → ℕ → ℕ → Bool
unfolding the_card state
is_made_up levels a holding = made_up (state levels a holding)

-- A fuse byte of a fresh card is refused by this number, 0 if it is let pass.
unfoldable pub fuses_get : ℕ → ℕ → Bool
unfolding the_card card_at sample
fuses_get k fuses = eqb (state_refusal (card_at 0 fuses sample 0 none)) k
