-- Demand 3 speaks of something: two cards that are told apart only by the step at which one opens, and a shut card that is written.
use Prim.Native.Nat.{ℕ, zero, suc, ◌<◌}
use mathlib.Core.Path.{◌≡◌, refl, sym, ◌∙◌}
use mathlib.Core.Bool.{Bool, true, false, not, ◌&&◌, ◌||◌, beq}
use mathlib.Core.List.{List, [], ◌∷◌, ◌++◌}
use native.Mathlib.Omega.{arith}
use native.Mathlib.Decide.{dec_lt}
use lib.Dec.{eqb, lit≤}
use lib.ListN.{length, take, replicate}
use borrow.Author.Tests.{not-true, eqb-true}
use Rattle.memory.specs.Image.{bit}
use Rattle.memory.proofs.Laws.{bit_past}
use Rattle.rules.specs.Halves.{Card}
use Rattle.rules.specs.Zones.{between}
use Rattle.rules.specs.Steps.{next}
use Rattle.rules.specs.Refusals.{refusal, run_refusal}
use Rattle.rules.specs.Card.{Ran, checked_step, run, checked_run}
use Rattle.rules.specs.Computing.{the_card}
use Rattle.rules.specs.Maker.{reset, walk, show, program, open_card}
use Rattle.rules.specs.Demands.{hidden, Alike, fresh_card, after, Unopened, UnopenedRun, NoTryLeft, CodeIsRight, bits_from}
use Rattle.theorems.proofs.Tests.{all, below, below_then, and_left, and_right, beq_true, cond_cases}
use Rattle.theorems.proofs.Soundness.{sound_stays_sound}
use Rattle.theorems.proofs.CheckedSteps.{Passes, checked_step_lem}
use Rattle.theorems.proofs.StepCases.{accepted}
use Rattle.theorems.proofs.Between.{bounds}

-- An image of ones but for both bytes of the code, the attempts, the first byte of the application zone, and the first of the erase key.
abbrev image : ℕ → ℕ → ℕ → ℕ → List ℕ
image code attempts application key =
    replicate 10 255 ++
    (code ∷ code ∷ attempts ∷ replicate 9 255 ++ (application ∷ replicate 127 255 ++ (key ∷ replicate 23 255)))

-- I/O, FUS and VCC up, and the maker's steps for a code, as far as the write at the first try.
abbrev opening : ℕ → List ℕ
opening code = 16 ∷ 48 ∷ 49 ∷ take 217 (open_card true code 255)

-- The step at which a card opens is the last.
abbrev before : ℕ → List ℕ
before code = take 219 (opening code)

abbrev one : List ℕ
one = image 18 255 191 90

abbrev other : List ℕ
other = image 52 255 0 165

pub record ToldApartByOpening : Type 0 where
  pub alike : Alike (fresh_card one 7) (fresh_card other 7)
  pub code : beq (bit one 82) (bit other 82) ≡ false
  pub application : beq (bit one 176) (bit other 176) ≡ false
  pub key : beq (bit one 1200) (bit other 1200) ≡ false
  pub unopened : Unopened (fresh_card one 7) (before 4626)
  pub unopened' : Unopened (fresh_card other 7) (before 4626)
  pub opens : (after (fresh_card one 7) (opening 4626)).volatile.sv ≡ true
  pub stays : (after (fresh_card other 7) (opening 4626)).volatile.sv ≡ false

-- The same of runs, with room for 220 answers.
pub record ToldApartInARun : Type 0 where
  pub unopened : UnopenedRun (fresh_card one 7) (before 4626) 220
  pub unopened' : UnopenedRun (fresh_card other 7) (before 4626) 220
  pub opens : (checked_run (fresh_card one 7) (opening 4626) 220).card.volatile.sv ≡ true
  pub stays : (checked_run (fresh_card other 7) (opening 4626) 220).card.volatile.sv ≡ false

-- No try is left, and the code shown is right.
abbrev dead : Card
dead = fresh_card (image 18 0 255 255) 7

-- As above, as far as the write at 96; then on to 104, and a write there.
abbrev visit : List ℕ
visit = 16 ∷ 48 ∷ 49 ∷ reset true ++ (walk true 80 ++ (show true 16 4626 ++ program true false))

abbrev further : List ℕ
further = walk true 8 ++ program true false

pub record DeadCardMoves : Type 0 where
  pub none_left : NoTryLeft dead 0
  pub right : CodeIsRight 4626 dead
  pub matched : (after dead visit).volatile.matched ≡ true
  pub matched_in_a_run : (checked_run dead visit 220).card.volatile.matched ≡ true
  pub shut : (after dead visit).volatile.sv ≡ false
  pub was : bit dead.memory 104 ≡ true
  pub written : bit (after (after dead visit) further).memory 104 ≡ false

-- SV is 0 before and after each step.
unfoldable shut_throughout : Card → List ℕ → Bool
shut_throughout c [] = not c.volatile.sv
shut_throughout c (n ∷ ns) = not c.volatile.sv && shut_throughout (checked_step c n) ns

shut_unopened : (c : Card) (ns : List ℕ) → shut_throughout c ns ≡ true → Unopened c ns
unfolding shut_throughout Unopened after
shut_unopened c [] e zero = not-true c.volatile.sv e
shut_unopened c [] e (suc k) = not-true c.volatile.sv e
shut_unopened c (n ∷ ns) e zero = not-true c.volatile.sv (and_left _ _ e)
shut_unopened c (n ∷ ns) e (suc k) = shut_unopened (checked_step c n) ns (and_right (not c.volatile.sv) _ e) k

shut_run :
    (c : Card) (ns : List ℕ) → Passes c → shut_throughout c ns ≡ true → (k : ℕ) → (run c (take k ns)).card.volatile.sv ≡ false
unfolding shut_throughout run
shut_run c [] p e zero = not-true c.volatile.sv e
shut_run c [] p e (suc k) = not-true c.volatile.sv e
shut_run c (n ∷ ns) p e zero = not-true c.volatile.sv (and_left _ _ e)
shut_run c (n ∷ ns) p e (suc k) =
    cond_cases (λ (r : Ran). r.card.volatile.sv ≡ false) (eqb (refusal c.volatile n) 0)
    (λ t.
    let taken = eqb-true (refusal c.volatile n) 0 t in
    let later = rw (checked_step_lem c n p, accepted c n taken) at (and_right (not c.volatile.sv) _ e) in
    shut_run (next c n) ns (sound_stays_sound c n p taken) later k)
    (λ _. not-true c.volatile.sv (and_left _ _ e))

shut_unopened_run : (c : Card) (ns : List ℕ) (room : ℕ) → Passes c → shut_throughout c ns ≡ true → UnopenedRun c ns room
unfolding UnopenedRun checked_run
shut_unopened_run c ns room p e k =
    cond_cases (λ (r : Ran). r.card.volatile.sv ≡ false)
    (eqb (run_refusal c (length (take k ns)) room) 0) (λ _. shut_run c ns p e k)
    (λ _. shut_run c ns p e 0)

-- Neither card opens before the last step.
one_shut : shut_throughout (fresh_card one 7) (before 4626) ≡ true
unfolding the_card open_card shut_throughout
one_shut = refl

other_shut : shut_throughout (fresh_card other 7) (before 4626) ≡ true
unfolding the_card open_card shut_throughout
other_shut = refl

outside : (a : ℕ) → hidden a ≡ false → bit one a ≡ bit other a
unfolding the_card hidden all
outside a h = go (dec_lt a 1392)
  where
    go : Dec (a < 1392) → bit one a ≡ bit other a
    go (yes l) = beq_true _ _ (rw h at (below 1392 (λ (b : ℕ). hidden b || beq (bit one b) (bit other b)) refl a l))
    go (no l) = bit_past one a (omega arith) ∙ sym (bit_past other a (omega arith))

pub told_apart_by_opening : ToldApartByOpening
unfolding the_card open_card after
told_apart_by_opening =
    record {
      alike =
          record {
            concealed = record { sized = refl; fused = omega arith; off = refl; unreadable = refl };
            concealed' = record { sized = refl; fused = omega arith; off = refl; unreadable = refl };
            fuses = refl;
            outside = outside;
          };
      code = refl;
      application = refl;
      key = refl;
      unopened = shut_unopened (fresh_card one 7) (before 4626) one_shut;
      unopened' = shut_unopened (fresh_card other 7) (before 4626) other_shut;
      opens = refl;
      stays = refl;
    }

pub told_apart_in_a_run : ToldApartInARun
unfolding the_card open_card
told_apart_in_a_run =
    record {
      unopened = shut_unopened_run (fresh_card one 7) (before 4626) 220 refl one_shut;
      unopened' = shut_unopened_run (fresh_card other 7) (before 4626) 220 refl other_shut;
      opens = refl;
      stays = refl;
    }

spent : (a : ℕ) → between 96 103 a ≡ true → bit dead.memory a ≡ false
unfolding the_card all
spent a h =
    not-true (bit dead.memory a)
    (below_then 104 (between 96 103) (λ (b : ℕ). not (bit dead.memory b)) refl a (omega (arith, bounds 96 103 a h)) h)

pub dead_card_moves : DeadCardMoves
unfolding the_card reset walk show program after bits_from
dead_card_moves =
    record {
      none_left =
          record { sized = refl; fused = lit≤ tt; off = refl; unpowered = refl; sound = refl; spent = spent };
      right = refl;
      matched = refl;
      matched_in_a_run = refl;
      shut = refl;
      was = refl;
      written = refl;
    }
