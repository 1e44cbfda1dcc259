-- Demand 3: "Before the step at which either opens, their pin answers and refusals are equal and those three zones keep every bit."
use Prim.Native.Nat.{ℕ, suc, ◌≤◌}
use mathlib.Core.Path.{◌≡◌, refl, sym, ap, ◌∙◌}
use mathlib.Core.Bool.{cond}
use mathlib.Core.List.{List, [], ◌∷◌}
use Rattle.std.specs.Prelude.{Result, Ok}
use native.Mathlib.Omega.{arith}
use lib.Dec.{eqb, ltb}
use lib.ListN.{length, take, length-take}
use borrow.Author.Tests.{eqb-true, ltb-false, le-ltb}
use Rattle.rules.specs.Halves.{Card, off, fresh}
use Rattle.rules.specs.Steps.{next, pin}
use Rattle.rules.specs.Refusals.{refusal, run_refusal, longest}
use Rattle.rules.specs.Card.{Ran, stepped, answered, checked_step, run, checked_run}
use Rattle.rules.specs.Demands.{Concealed, Alike, after, answers, Unopened, ZonesKept, HiddenBeforeOpening}
use Rattle.rules.specs.Demands.{UnopenedRun, HiddenInARun}
use Rattle.theorems.proofs.Tests.{peel}
use Rattle.theorems.proofs.StepCases.{way_of, stepped_moves, same_way, same_refusal, accepted}
use Rattle.theorems.proofs.CheckedSteps.{Passes, fresh_passes, passes_on, checked_step_lem, checked_answer_lem}
use Rattle.theorems.proofs.AlikeCards.{Closed, AlikePair, UnopenedCard, closed_moved, alike_moved, cond_both, same_pin}

-- No run of a part of the list opens the card.
abbrev UnopenedIn : Card → List ℕ → Type 0
UnopenedIn c ns = (k : ℕ) → UnopenedCard (run c (take k ns)).card

unopened_tail : (c : Card) (n : ℕ) (ns : List ℕ) → refusal c.volatile n ≡ 0 → UnopenedIn c (n ∷ ns) → UnopenedIn (next c n) ns
unfolding run
unopened_tail c n ns e u k = rw e at (u (suc k))

-- Of one card that was s at the start.
record HeldBack (s c : Card) : Type 0 where
  passes : Passes c
  closed : Closed s c

module _ (s : Card) (start : Concealed s) where
  -- "switched off with all lines low"
  first_held : HeldBack s s
  unfolding fresh off
  first_held =
      record {
        passes = fresh_passes s start.sized start.fused start.off;
        closed = record { unread = rw start.off; zones = λ a h. refl };
      }

  held_on : (c : Card) (n : ℕ) → UnopenedCard c → HeldBack s c → HeldBack s (stepped c n)
  held_on c n shut p =
      record {
        passes = passes_on c n p.passes;
        closed = rw (stepped_moves c n) (closed_moved s start.unreadable c n shut p.closed (way_of c n));
      }

module _ (s s' : Card) (start : Alike s s') where
  record Two (c c' : Card) : Type 0 where
    one : HeldBack s c
    other : HeldBack s' c'
    alike : AlikePair c c'

  module _ (c c' : Card) (n : ℕ) (shut : UnopenedCard c) (shut' : UnopenedCard c') (p : Two c c') where
    two_stepped : Two (stepped c n) (stepped c' n)
    two_stepped =
        record {
          one = held_on s start.concealed c n shut p.one;
          other = held_on s' start.concealed' c' n shut' p.other;
          alike =
              rw (
                stepped_moves c n,
                stepped_moves c' n,
                ← same_way n p.alike.lines p.alike.programming,
              )
              (alike_moved c c' shut shut' p.alike n (way_of c n));
        }

    refused_alike : refusal c.volatile n ≡ refusal c'.volatile n
    refused_alike = same_refusal c.volatile c'.volatile n p.alike.lines p.alike.programming

    -- An accepted step of the one is one of the other.
    module _ (e : refusal c.volatile n ≡ 0) where
      next_two : Two (next c n) (next c' n)
      next_two = rw (accepted c n e, accepted c' n (sym refused_alike ∙ e)) at two_stepped

      next_pins : UnopenedCard (next c n) → UnopenedCard (next c' n) → pin (next c n) ≡ pin (next c' n)
      next_pins later later' =
          let q = next_two in
          same_pin (next c n) (next c' n) later later' q.one.closed.unread q.other.closed.unread q.alike

    same_answer : UnopenedCard (stepped c n) → UnopenedCard (stepped c' n) → answered c n ≡ answered c' n
    unfolding answered stepped
    same_answer later later' =
        rw (← refused_alike)
        (cond_both (◌≡◌ {A = Result ℕ ℕ}) (eqb (refusal c.volatile n) 0)
        (λ t.
        let e = eqb-true (refusal c.volatile n) 0 t in
        ap Ok (next_pins e (rw e at later) (rw (sym refused_alike ∙ e) at later')))
        (λ _. refl))

  record Indistinct (c c' : Card) (ns : List ℕ) : Type 0 where
    same : answers c ns ≡ answers c' ns
    kept : ZonesKept s (after c ns)
    kept' : ZonesKept s' (after c' ns)

  indistinct : (c c' : Card) (ns : List ℕ) → Two c c' → Unopened c ns → Unopened c' ns → Indistinct c c' ns
  unfolding Unopened answers after
  indistinct c c' [] p u u' = search
  indistinct c c' (n ∷ ns) p u u' =
      let one = checked_step_lem c n p.one.passes in
      let one' = checked_step_lem c' n p.other.passes in
      let two = rw (← one, ← one') at (two_stepped c c' n (u 0) (u' 0) p) in
      let rest = indistinct (checked_step c n) (checked_step c' n) ns two (λ k. u (suc k)) (λ k. u' (suc k)) in
      record {
        same =
            cc (
              checked_answer_lem c n p.one.passes,
              checked_answer_lem c' n p.other.passes,
              same_answer c c' n (u 0) (u' 0) p (rw one at (u 1)) (rw one' at (u' 1)),
              rest.same,
            );
        kept = rest.kept;
        kept' = rest.kept';
      }

  record IndistinctRuns (r r' : Ran) : Type 0 where
    same : r.answers ≡ r'.answers
    refused : r.refused ≡ r'.refused
    kept : ZonesKept s r.card
    kept' : ZonesKept s' r'.card

  indistinct_runs : (c c' : Card) (ns : List ℕ) → Two c c' → UnopenedIn c ns → UnopenedIn c' ns → IndistinctRuns (run c ns) (run c' ns)
  unfolding run
  indistinct_runs c c' [] p u u' = search
  indistinct_runs c c' (n ∷ ns) p u u' =
      rw (← (refused_alike c c' n (u 0) (u' 0) p))
      (cond_both IndistinctRuns (eqb (refusal c.volatile n) 0)
      (λ t.
      let e = eqb-true (refusal c.volatile n) 0 t in
      let v = unopened_tail c n ns e u in
      let v' = unopened_tail c' n ns (sym (refused_alike c c' n (u 0) (u' 0) p) ∙ e) u' in
      let rest = indistinct_runs (next c n) (next c' n) ns (next_two c c' n (u 0) (u' 0) p e) v v' in
      record {
        same = cc (next_pins c c' n (u 0) (u' 0) p e (v 0) (v' 0), rest.same);
        refused = rest.refused;
        kept = rest.kept;
        kept' = rest.kept';
      })
      (λ _. search))

  first_two : Two s s'
  first_two =
      record {
        one = first_held s start.concealed;
        other = first_held s' start.concealed';
        alike =
            record {
              lines = cc off;
              address = cc off;
              latch = cc off;
              programming = cc off;
              fuses = start.fuses;
              sized = start.concealed.sized ∙ sym start.concealed'.sized;
              outside = start.outside;
            };
      }
    where
      off : s.volatile ≡ s'.volatile
      off = start.concealed.off ∙ sym start.concealed'.off

pub hidden_before_opening : HiddenBeforeOpening
hidden_before_opening c c' ns start u u' =
    let r = indistinct c c' start c c' ns (first_two c c' start) u u' in
    search

-- What refuses no run of k steps refuses none of fewer.
fewer_steps : (c : Card) (room j k : ℕ) → Passes c → j ≤ k → run_refusal c k room ≡ 0 → run_refusal c j room ≡ 0
unfolding run_refusal
fewer_steps c room j k passed fewer e =
    let p = peel (ltb longest k) 17 (cond (ltb room k) 19 0) (rw passed at e) in
    let q = peel (ltb room k) 18 0 p.1 in
    rw (passed, le-ltb longest j (omega (arith, ltb-false longest k p.0)), le-ltb room j (omega (arith, ltb-false room k q.0)))

unopened_run :
    (c : Card) (ns : List ℕ) (room : ℕ) → Passes c → run_refusal c (length ns) room ≡ 0 → UnopenedRun c ns room → UnopenedIn c ns
unfolding UnopenedRun checked_run
unopened_run c ns room p e u k = rw (fewer_steps c room (length (take k ns)) (length ns) p (omega (arith, length-take k ns)) e) at (u k)

pub hidden_in_a_run : HiddenInARun
unfolding checked_run run_refusal
hidden_in_a_run c c' ns room start u u' = search all
  where
    two : Two c c' start c c'
    two = first_two c c' start

    alike : run_refusal c (length ns) room ≡ run_refusal c' (length ns) room
    alike = rw (two.one.passes, two.other.passes)

    all : IndistinctRuns c c' start (checked_run c ns room) (checked_run c' ns room)
    all =
        rw (← alike)
        (cond_both (IndistinctRuns c c' start) (eqb (run_refusal c (length ns) room) 0)
        (λ t.
        let e = eqb-true (run_refusal c (length ns) room) 0 t in
        indistinct_runs c c' start c c' ns two (unopened_run c ns room two.one.passes e u)
        (unopened_run c' ns room two.other.passes (sym alike ∙ e) u'))
        (λ _. search))
