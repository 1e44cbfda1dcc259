-- A card that demand 2 speaks of, and what it says of it with the right code and with a wrong one.
use Prim.Native.Nat.{ℕ, ◌+◌, ◌*◌, ◌≤◌, ◌<◌}
use native.Mathlib.Omega.{arith}
use mathlib.Core.Path.{◌≡◌, refl, ap}
use mathlib.Core.Bool.{Bool, true, false, true≢false}
use mathlib.Core.List.{List, ◌∷◌, ◌++◌}
use lib.ListN.{get_or, replicate}
use Rattle.rules.specs.Halves.{Card}
use Rattle.rules.specs.Computing.{the_card}
use Rattle.rules.specs.Steps.{with_volatile}
use Rattle.rules.specs.Card.{checked_run}
use Rattle.rules.specs.Maker.{idle, digits, zeros_before, open_card, act_refusal, open_refusal}
use Rattle.rules.specs.Demands.{Idle, attempts, first_try, bits_from, CodeIsRight, shown, fresh_card}
use Rattle.theorems.proofs.Opening.{right_code_opens, wrong_code_spends_one_try, opens_as_made}

-- The code 0x1234 in bits 80 to 95, and a byte of bits 96 to 103; all other bits but the first are ones.
abbrev image : ℕ → List ℕ
image tries = 127 ∷ (replicate 9 255 ++ 0x12 ∷ 0x34 ∷ tries ∷ replicate 161 255)

-- Three tries are spent. It stands in EC with P1, R1, E1 and match set.
abbrev card : Bool → ℕ → Card
card fus fuses =
    with_volatile (fresh_card (image 0b0001_1111) fuses)
    (record {
      lines = idle fus;
      address = 1300;
      sv = false;
      p1 = true;
      r1 = true;
      e1 = true;
      matched = true;
      latch = false;
      programming = false;
    })

is_idle : (fus : Bool) (fuses : ℕ) → fuses ≤ 7 → Idle fus (card fus fuses)
unfolding the_card idle
is_idle true fuses h = search
is_idle false fuses h = search

module _ (fus : Bool) (fuses : ℕ) where
  try_left : first_try (card fus fuses) < 104
  unfolding zeros_before the_card
  try_left = omega arith

  -- It is not the first bit of the word.
  pub first_is_99 : first_try (card fus fuses) ≡ 99
  unfolding zeros_before the_card
  first_is_99 = refl

  right : CodeIsRight 0x1234 (card fus fuses)
  unfolding digits bits_from the_card
  right = refl

  wrong : CodeIsRight 0x1235 (card fus fuses) → ⊥
  unfolding digits bits_from the_card
  wrong e = true≢false (ap (λ (bs : List Bool). get_or bs 15 true) e)

-- What the maker's steps with this code come to, with FUS high and with FUS low: SV, and the byte of bits 96 to 103.
pub record Shows (fuses code : ℕ) (opened : Bool) (tries : ℕ) (fus : Bool) : Type 0 where
  pub accepted : (shown fus code (card fus fuses)).refused ≡ 0
  pub sv : (shown fus code (card fus fuses)).card.volatile.sv ≡ opened
  pub memory : (shown fus code (card fus fuses)).card.memory ≡ image tries
  pub same_fuses : (shown fus code (card fus fuses)).card.fuses ≡ fuses

right_code : (fuses : ℕ) → fuses ≤ 7 → (fus : Bool) → Shows fuses 0x1234 true 0b1111_1111 fus
unfolding the_card
right_code fuses h fus =
    let o = right_code_opens fus 0x1234 (card fus fuses) (is_idle fus fuses h) (try_left fus fuses) (right fus fuses) in
    record { accepted = o.accepted; sv = o.opened; memory = o.memory; same_fuses = o.fuses }

wrong_code : (fuses : ℕ) → fuses ≤ 7 → (fus : Bool) → Shows fuses 0x1235 false 0b0000_1111 fus
unfolding the_card zeros_before
wrong_code fuses h fus =
    let s = wrong_code_spends_one_try fus 0x1235 (card fus fuses) (is_idle fus fuses h) (try_left fus fuses) (wrong fus fuses) in
    record { accepted = s.accepted; sv = s.shut; memory = s.memory; same_fuses = s.fuses }

-- All fuses unblown, and ISS blown: the two levels.
pub record BothLevels : Type 0 where
  pub right_issued : (fus : Bool) → Shows 3 0x1234 true 0b1111_1111 fus
  pub right_unissued : (fus : Bool) → Shows 7 0x1234 true 0b1111_1111 fus
  pub wrong_issued : (fus : Bool) → Shows 3 0x1235 false 0b0000_1111 fus
  pub wrong_unissued : (fus : Bool) → Shows 7 0x1235 false 0b0000_1111 fus

pub both_levels : BothLevels
both_levels =
    record {
      right_issued = right_code 3 (omega arith);
      right_unissued = right_code 7 (omega arith);
      wrong_issued = wrong_code 3 (omega arith);
      wrong_unissued = wrong_code 7 (omega arith);
    }

-- The maker's buffer and the answers with room for 223 + 2 * 3, and the maker's with one byte less.
pub record RoomFor229 (fus : Bool) : Type 0 where
  pub made : act_refusal (open_refusal 0b0001_1111) (open_card fus 0x1234 0b0001_1111) 229 ≡ 0
  pub short : act_refusal (open_refusal 0b0001_1111) (open_card fus 0x1234 0b0001_1111) 228 ≡ 22
  pub ran : (checked_run (card fus 7) (open_card fus 0x1234 0b0001_1111) 229).card.volatile.sv ≡ true

room_of : (fus : Bool) → 223 + 2 * zeros_before 8 (attempts (card fus 7)) ≤ 229
unfolding zeros_before the_card
room_of fus = omega arith

pub room_for_229 : (fus : Bool) → RoomFor229 fus
unfolding zeros_before the_card open_card act_refusal open_refusal
room_for_229 fus =
    let as-made = opens_as_made fus 0x1234 (card fus 7) 229 (is_idle fus 7 (omega arith)) (try_left fus 7) (room_of fus) in
    record { made = as-made.0; short = refl; ran = rw as-made.1 (right_code 7 (omega arith) fus).sv }
