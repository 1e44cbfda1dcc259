-- What the claims of the table share: a claim says something of many cards at once. The rows that it takes are in the modules `Cases..`,
-- written out from 01; when it holds is in the modules `Claims..`.
use Rattle.std.specs.Prelude.{ℕ, ◌+◌, ◌-◌, ◌*◌, ◌/◌, ◌%◌, Bool, true, false, cond, ◌&&◌, ◌||◌, List, [], ◌∷◌, eqb, leb, get_or}
use Rattle.rules.specs.Halves.{Card}
use Rattle.rules.specs.Steps.{clk_falls, pin}
use Rattle.rules.specs.CaseForms.{none, SV, P1, R1, E1, Match, Latch, Programming}
use Rattle.rules.specs.CaseForms.{card_at, ones, zeros, image, same_card}
use Rattle.rules.specs.Computing.{the_card}

-- The levels of an idle card with FUS low; CLK and RST by their weights.
abbrev pub idle_low : ℕ
idle_low = 17

abbrev pub CLK : ℕ
CLK = 4

abbrev pub RST : ℕ
RST = 2

-- A level by FUS and the fuse ISS: the one way to level 1, and the three to level 2.
pub record Way : Type 0 where
  pub fus : ℕ
  pub iss : ℕ

abbrev pub way : ℕ → ℕ → Way
way fus iss = record { fus = fus; iss = iss }

unfoldable pub ways : Bool → List Way
ways true = way 32 4 ∷ []
ways false = way 0 4 ∷ way 0 0 ∷ way 32 0 ∷ []

-- All flags that 9 lets stand at an address, and match.
unfoldable pub everything : ℕ → ℕ
everything a =
    SV + P1 + R1 +
    (cond (leb 1232 a) E1 none + cond (leb 81 a && leb a 103 || leb 1201 a && leb a 1359) Match none)

-- CLK falls to these levels, and the card is then this one.
unfoldable pub falls : ℕ → ℕ → List ℕ → ℕ → ℕ → Card → Bool
unfolding the_card card_at same_card
falls levels fuses m a holding after = same_card (clk_falls levels (card_at (levels + CLK) fuses m a holding)) after

-- CLK falls in programming: an erase of zeros or a write on ones, at these levels, leaves these fuses and this image, and all flags.
unfoldable pub leaves : Bool → ℕ → ℕ → ℕ → ℕ → ℕ → List ℕ → Bool
unfolding falls card_at ones zeros
leaves erase levels fuses a holding fuses-then after =
    falls levels fuses (cond erase zeros ones) a (holding + Programming + cond erase Latch none) (card_at levels fuses-then after a holding)

unfoldable pub changes_nothing : Bool → ℕ → ℕ → ℕ → ℕ → Bool
unfolding leaves
changes_nothing erase levels fuses a holding = leaves erase levels fuses a holding fuses (cond erase zeros ones)

-- "A write sets one bit to 0.": ones but for bit a.
unfoldable pub bit_written : ℕ → List ℕ
unfolding image
bit_written a =
    let byte : ℕ = get_or {A = ℕ} (127 ∷ 191 ∷ 223 ∷ 239 ∷ 247 ∷ 251 ∷ 253 ∷ 254 ∷ []) (a % 8) 0 in
    image ((a / 8, 255) ∷ (1, byte) ∷ (173 - a / 8, 255) ∷ [])

-- "An erase sets the 16-bit word to 1.": zeros but for the word of a.
unfoldable pub word_erased : ℕ → List ℕ
unfolding image
word_erased a = image ((2 * (a / 16), 0) ∷ (2, 255) ∷ (172 - 2 * (a / 16), 0) ∷ [])

-- "bits 176 to 1199 become 1"
unfoldable pub application_erased : List ℕ
unfolding image
application_erased = image ((22, 0) ∷ (128, 255) ∷ (24, 0) ∷ [])

-- "bits 16 to 1359 take the latched bit"
unfoldable pub block_erased : List ℕ
unfolding image
block_erased = image ((2, 0) ∷ (168, 255) ∷ (4, 0) ∷ [])

unfoldable pub block_written : List ℕ
unfolding image
block_written = image ((2, 255) ∷ (168, 0) ∷ (4, 255) ∷ [])

-- The pin of an idle card of zeros, or of ones, so held.
unfoldable pub pin_is : Bool → Way → ℕ → ℕ → ℕ → Bool
unfolding the_card card_at ones zeros
pin_is stored w a holding answer = eqb (pin (card_at (idle_low + w.fus) w.iss (cond stored ones zeros) a holding)) answer

-- Each zone's and each rule's first and last addresses, their neighbours, and some in the middle.
unfoldable pub borders : List ℕ
borders =
    0 ∷ 1 ∷ 15 ∷ 16 ∷ 47 ∷ 79 ∷ 80 ∷ 81 ∷ 95 ∷ 96 ∷ 97 ∷ 103 ∷ 104 ∷ 105 ∷ 111 ∷ 112 ∷ 143 ∷ 175 ∷ 176 ∷ 177 ∷ 178 ∷ 687 ∷ 1199 ∷ 1200 ∷ 1201 ∷ 1215 ∷ 1231 ∷ 1232 ∷ 1233 ∷ 1295 ∷ 1359 ∷ 1360 ∷ 1361 ∷ 1375 ∷ 1376 ∷ 1391 ∷ 1392 ∷ 1407 ∷ 1408 ∷ 1423 ∷ 1424 ∷ 1480 ∷ 1481 ∷ 1482 ∷ 1503 ∷ 1504 ∷ 1518 ∷ 1519 ∷ []
