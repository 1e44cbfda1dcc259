-- Demand 1: "A waveform without a meaning is refused by its number in document 01; card, lines and lent buffers then hold what they held
-- after the last accepted step."
use Prim.Native.Nat.{ℕ, suc}
use mathlib.Core.Path.{◌≡◌, refl, ap}
use mathlib.Core.Bool.{Bool, true, false, cond}
use mathlib.Core.List.{List, [], ◌∷◌}
use lib.Dec.{eqb}
use lib.ListN.{length}
use borrow.Author.Tests.{eqb-true, eqb-false}
use Rattle.rules.specs.Halves.{Card}
use Rattle.rules.specs.Refusals.{refusal, state_refusal, run_refusal}
use Rattle.rules.specs.Steps.{next, pin}
use Rattle.rules.specs.Card.{added, ended, refusal_in, stepped, answered, checked_step, checked_answer, run, checked_run}
use Rattle.rules.specs.Demands.{RefusedStepKeepsAll, Stops, RunStopsAtARefusal}
use Rattle.theorems.proofs.Tests.{cond_cases}

pub refused_step_keeps_all : RefusedStepKeepsAll
unfolding checked_step checked_answer stepped answered refusal_in
refused_step_keeps_all c n refused =
    go (eqb (state_refusal c) 0) (eqb (refusal c.volatile n) 0) refl refl
  where
    go :
        (t u : Bool) → eqb (state_refusal c) 0 ≡ t → eqb (refusal c.volatile n) 0 ≡ u →
        checked_step c n ≡ c
    go false u p q = rw p
    go true false p q = rw (p, q)
    go true true p q = absurd (refused (rw (p, q)))

run_stops : (c : Card) (ns : List ℕ) → Stops c ns 0 (run c ns)
unfolding run
run_stops c [] = record { before = refl; number = λ refused. absurd (refused refl); all = λ _. refl }
run_stops c (n ∷ ns) =
    cond_cases (Stops c (n ∷ ns) 0) (eqb (refusal c.volatile n) 0)
    (λ t.
    let rest = run_stops (next c n) ns in
    record {
      before = rw t (ap (added (pin (next c n))) rest.before);
      number = rest.number;
      all = λ e. ap suc (rest.all e);
    })
    (λ t. record { before = refl; number = λ _. refl; all = λ e. absurd (eqb-false (refusal c.volatile n) 0 t e) })

pub run_stops_at_a_refusal : RunStopsAtARefusal
unfolding checked_run run
run_stops_at_a_refusal c ns room = go (run_refusal c (length ns) room)
  where
    barred : (k : ℕ) → (k ≡ 0 → ⊥) → eqb k 0 ≡ false → Stops c ns k (ended c k)
    barred k h t = record { before = refl; number = λ _. rw t; all = λ e. absurd (h e) }

    go : (k : ℕ) → Stops c ns k (cond (eqb k 0) (run c ns) (ended c k))
    go k =
        cond_cases (Stops c ns k) (eqb k 0) (λ t. rw (eqb-true k 0 t) (run_stops c ns))
        (λ t. barred k (eqb-false k 0 t) t)
