-- The run's loop: what holds before each step, and what the run has come to when it ends.
use Prim.Native.Nat.{ℕ, suc, ◌+◌, ◌≤◌, ◌<◌}
use native.Mathlib.Omega.{arith}
use native.Mathlib.Numerals.{add-one}
use mathlib.Core.Path.{◌≡◌, refl, sym, ap, ◌∙◌}
use mathlib.Core.Bool.{Bool, true, false, cond, not}
use mathlib.Core.List.{List, [], ◌∷◌, append-nil}
use lib.Dec.{eqb, ltb}
use lib.ListN.{length, get_or, set, take, drop, length-set, take-append-drop, drop_of_length-le}
use lib.Seq.{drop-cons, take-suc, take-suc-set, drop-set-lt, drop-drop, length-take-le}
use borrow.Author.Tests.{eqb-true, ne_eqb, le-ltb, ltb-false}
use Rattle.rules.specs.Halves as Halves
use Rattle.rules.specs.Halves.{Card}
use Rattle.rules.specs.Refusals.{refusal, made_up}
use Rattle.rules.specs.Steps.{next, pin}
use Rattle.rules.specs.Card.{ended, run, answers_in}
use Rattle.theorems.proofs.Tests.{peel}
use Rattle.theorems.proofs.Runs.{behind, run_append}
use Rattle.theorems.proofs.Soundness.{SoundCard, let_pass, passes, unmade, sound_stays_sound}
use Rattle.volatile.specs.Packed.{packed, unpacked, Given, given, card_of, handed_back, made_up_word}
use Rattle.volatile.proofs.Packing.{unpacked_packed, packed_unpacked, packed_small}
use Rattle.refusals.specs.Before.{given_refusal, given_run_refusal}
use Rattle.volatile.specs.Inner.{Ready, Steps}
use Rattle.card.specs.Calls.{run_leaves, run_answers, run_refused, RunAnswered}
use Rattle.refusals.proofs.Laws.{ready_at}
use Rattle.edge_laws.proofs.ByLine.{flags_small, sound_half}

-- A card that a step hands on stands for the card that the definitions give.
pub handed_on : (c : Card) → card_of (handed_back c) ≡ c
handed_on c = rw (unpacked_packed c.volatile)

-- A packed half that stands for a sound one is no made-up state.
packed_sound : (w : Halves.Volatile) → made_up w ≡ false → made_up_word (packed w) ≡ false
unfolding made_up_word
packed_sound w e = rw (le-ltb 127 (packed w).flags (omega (arith, packed_small w)), unpacked_packed w) e

pub sound_ready : (c : Card) → SoundCard c → Ready (handed_back c) (pin c)
sound_ready c good =
    record {
      sized = good.sized;
      fused = good.fused;
      sound = packed_sound c.volatile (unmade c.volatile good.half);
      pinned = ap pin (sym (handed_on c));
    }

-- An accepted step of a ready card leads to a ready one.
module _ {g left : Given} {p n shown k : ℕ} (steps-to : Steps g p n left shown k) (z : k ≡ 0) where
  none : refusal (unpacked g.half) n ≡ 0
  none = sym steps-to.refused ∙ z

  pub card_after : card_of left ≡ next (card_of g) n
  card_after = ap card_of (steps-to.accepted z).0 ∙ handed_on (next (card_of g) n)

  pub ready_after : Ready g p → Ready left shown
  ready_after ready = rw ((steps-to.accepted z).0, (steps-to.accepted z).1) (sound_ready (next (card_of g) n) good)
    where
      here : SoundCard (card_of g)
      here = record { sized = ready.sized; fused = ready.fused; half = sound_half g.half ready.sound }

      good : SoundCard (next (card_of g) n)
      good = let_pass (next (card_of g) n) (sound_stays_sound (card_of g) n (passes (card_of g) here) none)

  one_more : run (card_of g) (n ∷ []) ≡ record { card = card_of left; answers = shown ∷ []; refused = 0 }
  unfolding run
  one_more = rw (none, (steps-to.accepted z).1, card_after)

-- A run that is refused by nothing: neither is the card, and there is room.
none_of : (k r : ℕ) → cond (not (eqb k 0)) k r ≡ 0 → k ≡ 0
none_of k r e = go (eqb k 0) refl
  where
    go : (t : Bool) → eqb k 0 ≡ t → k ≡ 0
    go true q = eqb-true k 0 q
    go false q = rw q at e

pub sound_at_lem : (g : Given) (steps room : ℕ) → given_run_refusal g steps room ≡ 0 → given_refusal g ≡ 0
unfolding given_run_refusal
sound_at_lem g steps room e = none_of (given_refusal g) _ e

pub room_at : (g : Given) (steps room : ℕ) → given_run_refusal g steps room ≡ 0 → steps ≤ room
unfolding given_run_refusal
room_at g steps room e =
    let long = peel (ltb 4096 steps) 17 _ (rw (sound_at_lem g steps room e) at e) in
    ltb-false room steps (peel (ltb room steps) 18 0 long.1).0

-- Before step i: the card so far is ready, and the run of the steps so far has given the answers so far.
pub record Going (start : Given) (steps answers₀ : List ℕ) (g : Given) (answers : List ℕ) (p i : ℕ) : Type 0 where
  pub fits : given_run_refusal start (length steps) (length answers₀) ≡ 0
  pub room : length steps ≤ length answers₀
  pub ready : Ready g p
  pub within : i ≤ length steps
  pub sized : length answers ≡ length answers₀
  pub so_far : run (card_of start) (take i steps) ≡ record { card = card_of g; answers = take i answers; refused = 0 }
  pub rest : drop i answers ≡ drop i answers₀

module _ (start : Given) (steps answers₀ : List ℕ) where
  pub starts :
      (p : ℕ) → given_run_refusal start (length steps) (length answers₀) ≡ 0 → p ≡ pin (card_of start) →
      Going start steps answers₀ start answers₀ p 0
  unfolding run
  starts p fits e =
      let ready = ready_at start p (sound_at_lem start (length steps) (length answers₀) fits) e in
      record {
        fits = fits;
        room = room_at start (length steps) (length answers₀) fits;
        ready = ready;
        within = omega arith;
        sized = refl;
        so_far = refl;
        rest = refl;
      }

module _ {start g : Given} {steps answers₀ answers : List ℕ} {p i : ℕ} (going : Going start steps answers₀ g answers p i) where
  -- The whole run is the answers so far and the run of what is left.
  whole : run (card_of start) steps ≡ behind (take i answers) (run (card_of g) (drop i steps))
  whole =
      ap (run (card_of start)) (sym (take-append-drop i steps)) ∙
      (run_append (card_of start) (take i steps) (drop i steps) ∙ rw going.so_far)

  -- The run is over where the run of what is left is.
  concludes :
      (k : ℕ) → run (card_of g) (drop i steps) ≡ ended (card_of g) k →
      RunAnswered start steps answers₀ g i k answers
  unfolding run_leaves run_answers run_refused answers_in
  concludes k e =
      record {
        card = rw (going.fits, all, packed_unpacked g.half (flags_small g.half going.ready.sound));
        done = rw (going.fits, all, append-nil, front);
        refusal = rw (going.fits, all);
        pins = rw (going.fits, all, append-nil, front, ← going.rest) (sym (take-append-drop i answers));
      }
    where
      all : run (card_of start) steps ≡ behind (take i answers) (ended (card_of g) k)
      all = whole ∙ ap (behind (take i answers)) e

      front : length (take i answers) ≡ i
      front = length-take-le i answers (omega (arith, going.within, going.room, going.sized))

  pub ends :
      length steps ≤ i →
      RunAnswered start steps answers₀ g (length steps) 0 answers
  unfolding run
  ends h =
      let over : i ≡ length steps = omega (arith, h, going.within) in
      rw (← over) (concludes 0 (rw (drop_of_length-le steps h)))

  module _ {left : Given} {shown k : ℕ} (h : i < length steps) (steps-to : Steps g p (get_or steps i 0) left shown k) where
    pub stops :
        (k ≡ 0 → ⊥) →
        RunAnswered start steps answers₀ (given left.memory g.fuses g.half) i k answers
    unfolding run
    stops z = rw (steps-to.kept z).0 (concludes k (rw (drop-cons steps i 0 h, ← steps-to.refused, ne_eqb k 0 z)))

    pub again : k ≡ 0 → Going start steps answers₀ left (set answers i shown) shown (i + 1)
    again z =
        rw (add-one i)
        (record {
          fits = going.fits;
          room = going.room;
          ready = ready_after steps-to z going.ready;
          within = h;
          sized = length-set answers i shown ∙ going.sized;
          so_far = further;
          rest = drop-set-lt (suc i) answers i shown (omega arith) ∙ past;
        })
      where
        there : i < length answers
        there = omega (arith, h, going.room, going.sized)

        past : drop (suc i) answers ≡ drop (suc i) answers₀
        past = rw (drop-drop 1 i answers, drop-drop 1 i answers₀, add-one i) at (ap (drop 1) going.rest)

        further :
            run (card_of start) (take (suc i) steps) ≡
            record { card = card_of left; answers = take (suc i) (set answers i shown); refused = 0 }
        further =
            ap (run (card_of start)) (take-suc steps i 0 h) ∙
            (run_append (card_of start) (take i steps) (get_or steps i 0 ∷ []) ∙
            rw (going.so_far, one_more steps-to z, take-suc-set answers i shown there))
