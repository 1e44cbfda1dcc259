-- Demand 3: "A card that is switched off with no try left never opens, whatever steps and power cuts follow."
use Prim.Native.Nat.{ℕ}
use mathlib.Core.Path.{◌≡◌, ap}
use mathlib.Core.Bool.{true, false}
use native.Mathlib.Omega.{arith}
use lib.Dec.{eqb}
use lib.ListN.{length}
use Rattle.memory.specs.Image.{bit}
use Rattle.rules.specs.Halves.{Volatile, Card, off}
use Rattle.rules.specs.Zones.{between}
use Rattle.rules.specs.Rights.{Held, held}
use Rattle.rules.specs.Programming.{operation_now}
use Rattle.rules.specs.Match.{arrived}
use Rattle.rules.specs.Steps.{follows, vcc_falls, clk_rises, rst_falls, programmed, unlatched, clocked}
use Rattle.rules.specs.Refusals.{run_refusal}
use Rattle.rules.specs.Card.{Ran, stepped, checked_run}
use Rattle.rules.specs.Demands.{NoTryLeft, ShutForGood, ShutInARun}
use Rattle.theorems.proofs.Tests.{cond_cases}
use Rattle.theorems.proofs.StepCases.{Way, Keeps, Follows, Latches, SwitchesOff, Resets, Programs, Unlatches, Clocks}
use Rattle.theorems.proofs.StepCases.{moved, way_of, operation_of, stepped_moves, after_keeps, run_keeps}
use Rattle.theorems.proofs.Between.{bounds}
use Rattle.theorems.proofs.Mild.{mild_keeps_zeros, mild_shuts}

-- SV is 0, and so are bits 96 to 103.
record Shut (c : Card) : Type 0 where
  unopened : c.volatile.sv ≡ false
  spent : (a : ℕ) → between 96 103 a ≡ true → bit c.memory a ≡ false

shut_programmed : (c : Card) (n : ℕ) → Shut c → Shut (programmed (operation_of c) n c)
unfolding programmed operation_now held
shut_programmed c n p =
    let there : Held = held c.fuses c.volatile in
    record {
      unopened = cc (mild_shuts there _ _ _ _ p.unopened c.memory c.volatile.matched (p.spent _));
      spent = λ a e. mild_keeps_zeros there _ _ _ _ p.unopened c.memory a (omega (arith, bounds 96 103 a e)) (p.spent a e);
    }

shut_moved : (c : Card) (n : ℕ) → Shut c → (w : Way) → Shut (moved w n c)
unfolding moved follows clk_rises vcc_falls off rst_falls unlatched clocked arrived
shut_moved c n p Keeps = p
shut_moved c n p Follows = search
shut_moved c n p Latches = search
shut_moved c n p SwitchesOff = search
shut_moved c n p Resets = search
shut_moved c n p Programs = shut_programmed c n p
shut_moved c n p Unlatches = search
shut_moved c n p Clocks = search

shut_stepped : (c : Card) (n : ℕ) → Shut c → Shut (stepped c n)
shut_stepped c n p = rw (stepped_moves c n) (shut_moved c n p (way_of c n))

no_try_left : (c : Card) (levels : ℕ) → NoTryLeft c levels → Shut c
unfolding off
no_try_left c levels h = record { unopened = ap (λ (v : Volatile). v.sv) h.off; spent = h.spent }

pub shut_for_good : ShutForGood
shut_for_good c levels ns h = (after_keeps Shut shut_stepped c ns (no_try_left c levels h)).unopened

pub shut_in_a_run : ShutInARun
unfolding checked_run
shut_in_a_run c levels ns room h =
    cond_cases (λ (r : Ran). r.card.volatile.sv ≡ false) (eqb (run_refusal c (length ns) room) 0)
    (λ _. (run_keeps Shut shut_stepped c ns (no_try_left c levels h)).unopened) (λ _. (no_try_left c levels h).unopened)
