-- One step, by cases, once: a step of a card is one of eight ways, and which one it is depends on lines, programming and step alone.
use Prim.Native.Nat.{ℕ}
use mathlib.Core.Path.{◌≡◌, refl}
use mathlib.Core.Bool.{Bool, true, false, cond}
use mathlib.Core.List.{List, [], ◌∷◌}
use lib.Dec.{eqb}
use borrow.Author.Tests.{eqb-true}
use Rattle.rules.specs.declared.Operation.{Operation}
use Rattle.rules.specs.Halves.{Volatile, Card}
use Rattle.rules.specs.Lines.{VCC, RST, CLK, PGM, IO, FUS, high, Edge, Same, Rises, Falls, Many, edge}
use Rattle.rules.specs.Programming.{operation_now}
use Rattle.rules.specs.Steps.{follows, with_volatile, vcc_falls, clk_rises, rst_falls, programmed, unlatched, clocked, clk_falls}
use Rattle.rules.specs.Steps.{powered, next}
use Rattle.rules.specs.Refusals.{line_refusal, refusal, state_refusal}
use Rattle.rules.specs.Card.{Ran, stepped, checked_step, run}
use Rattle.rules.specs.Demands.{after}
use Rattle.theorems.proofs.Tests.{cond_cases}

-- Refused or without a difference; the lines only follow; CLK rises; VCC falls; RST falls; CLK falls in programming, with RST high, and
-- otherwise.
pub data Way : Type 0 where
  Keeps Follows Latches SwitchesOff Resets Programs Unlatches Clocks : Way

-- The operation that CLK's fall in programming carries out.
abbrev pub operation_of : Card → Operation
operation_of c = operation_now c.fuses c.volatile

unfoldable pub moved : Way → ℕ → Card → Card
moved Keeps n c = c
moved Follows n c = with_volatile c (follows n c.volatile)
moved Latches n c = with_volatile c (clk_rises n c.volatile)
moved SwitchesOff n c = vcc_falls n c
moved Resets n c = rst_falls n c
moved Programs n c = programmed (operation_of c) n c
moved Unlatches n c = with_volatile c (unlatched n c.volatile.matched c.volatile)
moved Clocks n c = clocked n c

pub moved_cond : (b : Bool) (w w' : Way) (n : ℕ) (c : Card) → moved (cond b w w') n c ≡ cond b (moved w n c) (moved w' n c)
moved_cond true w w' n c = refl
moved_cond false w w' n c = refl

module _ (levels : ℕ) (programming : Bool) where
  -- The way of an edge with VCC on, by levels and programming, with the law that it is the edge's.
  unfoldable pub powered_way :
      (e : Edge) →
      (w : Way) ×
      ((n : ℕ) (c : Card) → c.volatile.lines ≡ levels → c.volatile.programming ≡ programming → powered e n c ≡ moved w n c)
  unfolding powered moved clk_falls
  powered_way Same = (Keeps, λ n c _ _. refl)
  powered_way Many = (Keeps, λ n c _ _. refl)
  powered_way (Rises VCC) = (Follows, λ n c _ _. refl)
  powered_way (Rises RST) = (Follows, λ n c _ _. refl)
  powered_way (Rises CLK) = (Latches, λ n c _ _. refl)
  powered_way (Rises PGM) = (Follows, λ n c _ _. refl)
  powered_way (Rises IO) = (Follows, λ n c _ _. refl)
  powered_way (Rises FUS) = (Follows, λ n c _ _. refl)
  powered_way (Falls VCC) = (SwitchesOff, λ n c _ _. refl)
  powered_way (Falls RST) = (Resets, λ n c _ _. refl)
  powered_way (Falls CLK) = (
    cond programming Programs (cond (high RST levels) Unlatches Clocks),
    λ n c l p. rw (← l, ← p, moved_cond c.volatile.programming Programs _ n c, moved_cond (high RST _) Unlatches Clocks n c),
  )
  powered_way (Falls PGM) = (Follows, λ n c _ _. refl)
  powered_way (Falls IO) = (Follows, λ n c _ _. refl)
  powered_way (Falls FUS) = (Follows, λ n c _ _. refl)

-- The way of a step, by levels, programming and step alone.
unfoldable pub way : ℕ → Bool → ℕ → Way
unfolding powered_way line_refusal edge
way levels programming n =
    cond (eqb (line_refusal levels programming n) 0)
    (cond (high VCC levels) (powered_way levels programming (edge levels n)).0 Follows) Keeps

abbrev pub way_of : Card → ℕ → Way
way_of c n = way c.volatile.lines c.volatile.programming n

-- Whatever a step does, it is one of the ways.
pub stepped_moves : (c : Card) (n : ℕ) → stepped c n ≡ moved (way_of c n) n c
unfolding stepped next refusal way moved
stepped_moves c n =
    rw (
      moved_cond (eqb (refusal c.volatile n) 0) _ _ n c,
      moved_cond (high VCC c.volatile.lines) _ _ n c,
      (powered_way c.volatile.lines c.volatile.programming (edge c.volatile.lines n)).1 n c refl refl,
    )

pub same_refusal : (v v' : Volatile) (n : ℕ) → v.lines ≡ v'.lines → v.programming ≡ v'.programming → refusal v n ≡ refusal v' n
unfolding refusal
same_refusal v v' n l p = cc

pub same_way : {l l' : ℕ} {p p' : Bool} (n : ℕ) → l ≡ l' → p ≡ p' → way l p n ≡ way l' p' n
same_way n l p = cc

-- An accepted step.
pub accepted : (c : Card) (n : ℕ) → refusal c.volatile n ≡ 0 → stepped c n ≡ next c n
unfolding stepped
accepted c n e = rw e

-- What every step keeps, every list of steps and every run keep.
module _ (P : Card → Type 0) (step : (c : Card) (n : ℕ) → P c → P (stepped c n)) where
  checked_keeps : (c : Card) (n : ℕ) → P c → P (checked_step c n)
  unfolding checked_step
  checked_keeps c n p = cond_cases P (eqb (state_refusal c) 0) (λ _. step c n p) (λ _. p)

  pub after_keeps : (c : Card) (ns : List ℕ) → P c → P (after c ns)
  unfolding after
  after_keeps c [] p = p
  after_keeps c (n ∷ ns) p = after_keeps (checked_step c n) ns (checked_keeps c n p)

  pub run_keeps : (c : Card) (ns : List ℕ) → P c → P (run c ns).card
  unfolding run
  run_keeps c [] p = p
  run_keeps c (n ∷ ns) p =
      cond_cases (λ (r : Ran). P r.card) (eqb (refusal c.volatile n) 0)
      (λ e. run_keeps (next c n) ns (rw (accepted c n (eqb-true (refusal c.volatile n) 0 e)) at (step c n p)))
      (λ _. p)
