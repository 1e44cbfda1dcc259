-- 02, W1: "'the right is there' exactly when 01 carries the operation out", over the step itself: PGM is lowered, then CLK falls.
use Prim.Native.Nat.{ℕ, ◌<◌}
use mathlib.Core.Path.{◌≡◌, refl, sym, ap, ◌∙◌}
use mathlib.Core.Bool.{Bool, true, false, not, ◌&&◌, ◌||◌, beq, false≢true}
use lib.Dec.{eqb}
use borrow.Author.Tests.{eqb-true}
use Rattle.memory.specs.Image.{digit}
use Rattle.rules.specs.declared.Operation.TheVariants.{Nothing}
use Rattle.rules.specs.declared.Reason.TheVariants.{RightIsThere}
use Rattle.rules.specs.Halves.{Volatile, Card}
use Rattle.rules.specs.Lines.{VCC, RST, CLK, PGM, FUS, high}
use Rattle.rules.specs.Rights.{held}
use Rattle.rules.specs.Programming.{operation_now, memory_after, fuses_after}
use Rattle.rules.specs.Refusals.{line_refusal, refusal, state_refusal}
use Rattle.rules.specs.Steps.{next, follows, with_volatile, vcc_falls, rst_falls, programmed, clocked}
use Rattle.rules.specs.Card.{refusal_in, answered, checked_step, checked_answer}
use Rattle.rules.specs.ReasonPromises.{reason_of, performed, lowered, lowering, with_low, ReasonIsTrue, is}
use Rattle.theorems.proofs.Tests.{all, below, every, of_every, and_left, and_right, guarded, beq_true}
use Rattle.theorems.proofs.StepCases.{Way, Keeps, Follows, Latches, SwitchesOff, Resets, Programs, Unlatches, Clocks}
use Rattle.theorems.proofs.StepCases.{operation_of, moved, way, way_of, stepped_moves, accepted}
use Rattle.theorems.proofs.Soundness.{Sound, let_pass, under_way, in_power, sound_stays_sound}
use Rattle.theorems.proofs.Reasons.{past, performs, not_nothing, not_told}

-- What a way makes of a card: nothing, new levels, the operation; or it leaves memory and fuses.
data Kind : Type 0 where
  Still Levels Operates Leaves : Kind

unfoldable kind : Way → Kind
kind Keeps = Still
kind Follows = Levels
kind Programs = Operates
kind Latches = Leaves
kind SwitchesOff = Leaves
kind Resets = Leaves
kind Unlatches = Leaves
kind Clocks = Leaves

-- Whether it makes levels alone; where it makes nothing, whether they are the `same`.
unfoldable makes_levels : Kind → Bool → Bool
makes_levels Still same = same
makes_levels Levels same = true
makes_levels Operates same = false
makes_levels Leaves same = false

unfoldable operates : Kind → Bool
operates Still = false
operates Levels = false
operates Operates = true
operates Leaves = false

module _ (c : Card) (n : ℕ) where
  Makes : Kind → Card → Type 0
  Makes Still d = d ≡ c
  Makes Levels d = d ≡ with_volatile c (follows n c.volatile)
  Makes Operates d = d ≡ programmed (operation_of c) n c
  Makes Leaves d = (d.memory ≡ c.memory) × (d.fuses ≡ c.fuses)

  makes : (w : Way) → Makes (kind w) (moved w n c)
  unfolding Makes kind moved vcc_falls rst_falls clocked
  makes Keeps = refl
  makes Follows = refl
  makes Programs = refl
  makes Latches = (refl, refl)
  makes SwitchesOff = (refl, refl)
  makes Resets = (refl, refl)
  makes Unlatches = (refl, refl)
  makes Clocks = (refl, refl)

  follows_by :
      (k : Kind) (d : Card) → Makes k d → makes_levels k (eqb n c.volatile.lines) ≡ true →
      d ≡ with_volatile c (follows n c.volatile)
  unfolding Makes makes_levels follows
  follows_by Still d m e = m ∙ rw (eqb-true n c.volatile.lines e)
  follows_by Levels d m e = m
  follows_by Operates d m e = absurd (false≢true e)
  follows_by Leaves d m e = absurd (false≢true e)

  operates_by : (k : Kind) (d : Card) → Makes k d → operates k ≡ true → d ≡ programmed (operation_of c) n c
  unfolding Makes operates
  operates_by Still d m e = absurd (false≢true e)
  operates_by Levels d m e = absurd (false≢true e)
  operates_by Operates d m e = m
  operates_by Leaves d m e = absurd (false≢true e)

  leaves_by : (k : Kind) (d : Card) → Makes k d → operates k ≡ false → (d.memory ≡ c.memory) × (d.fuses ≡ c.fuses)
  unfolding Makes operates
  leaves_by Still d m e = rw m (refl, refl)
  leaves_by Levels d m e = rw m (refl, refl)
  leaves_by Operates d m e = absurd (false≢true (sym e))
  leaves_by Leaves d m e = m

-- PGM is lowered, at any levels: accepted, and the levels follow. Then CLK is: accepted, and in programming, which VCC and CLK come with,
-- the operation takes effect.
unfoldable falling : ℕ → Bool → Bool
falling l p =
    let m = lowered PGM l in
    let n = lowered CLK m in
    eqb (line_refusal l p m) 0 &&
    (makes_levels (kind (way l p m)) (eqb m l) &&
    (eqb (line_refusal m p n) 0 &&
    ((p && not (high VCC l && high CLK l) || beq (operates (kind (way m p n))) p) &&
    (beq (high RST m) (high RST l) && beq (high FUS m) (high FUS l)))))

all_falling : (l : ℕ) (p : Bool) → l < 64 → falling l p ≡ true
unfolding falling kind makes_levels operates lowered way every all digit
all_falling l p small = of_every (falling l) (below 64 (λ x. every (falling x)) refl l small) p

record Falling (l : ℕ) (p : Bool) : Type 0 where
  lowers : line_refusal l p (lowered PGM l) ≡ 0
  levels : makes_levels (kind (way l p (lowered PGM l))) (eqb (lowered PGM l) l) ≡ true
  falls : line_refusal (lowered PGM l) p (lowered CLK (lowered PGM l)) ≡ 0
  operating :
      (p && not (high VCC l && high CLK l)) ≡ false →
      operates (kind (way (lowered PGM l) p (lowered CLK (lowered PGM l)))) ≡ p
  rst : high RST (lowered PGM l) ≡ high RST l
  fus : high FUS (lowered PGM l) ≡ high FUS l

falling_law : (l : ℕ) (p : Bool) → l < 64 → Falling l p
unfolding falling
falling_law l p small =
    let m = lowered PGM l in
    let off = p && not (high VCC l && high CLK l) in
    let t = all_falling l p small in
    let u = and_right (eqb (line_refusal l p m) 0) _ t in
    let w = and_right (makes_levels (kind (way l p m)) (eqb m l)) _ u in
    let x = and_right (eqb (line_refusal m p (lowered CLK m)) 0) _ w in
    let y = and_right (off || beq (operates (kind (way m p (lowered CLK m)))) p) _ x in
    record {
      lowers = eqb-true _ 0 (and_left (eqb (line_refusal l p m) 0) _ t);
      levels = and_left (makes_levels (kind (way l p m)) (eqb m l)) _ u;
      falls = eqb-true _ 0 (and_left (eqb (line_refusal m p (lowered CLK m)) 0) _ w);
      operating = λ q. beq_true _ p (rw q at (and_left (off || beq (operates (kind (way m p (lowered CLK m)))) p) _ x));
      rst = beq_true _ _ (and_left (beq (high RST m) (high RST l)) _ y);
      fus = beq_true _ _ (and_right (beq (high RST m) (high RST l)) _ y);
    }

-- In programming VCC and CLK are high.
powered : {v : Volatile} → Sound v → (v.programming && not (high VCC v.lines && high CLK v.lines)) ≡ false
powered {v} s = guarded v.programming _ (λ p. cc (in_power s p, under_way s p))

-- An accepted step of a card that the state check lets pass.
taken : (c : Card) (n : ℕ) → state_refusal c ≡ 0 → checked_step c n ≡ moved (way_of c n) n c
unfolding checked_step
taken c n e = rw e (stepped_moves c n)

unrefused :
    (c : Card) (n : ℕ) → state_refusal c ≡ 0 → line_refusal c.volatile.lines c.volatile.programming n ≡ 0 →
    refusal_in (checked_answer c n) ≡ 0
unfolding checked_answer answered refusal refusal_in
unrefused c n e r = rw (e, r) refl

module _ (c : Card) (e : state_refusal c ≡ 0) where
  abbrev low : Card
  low = with_volatile c (follows (lowering PGM c) c.volatile)

  facts : Falling c.volatile.lines c.volatile.programming
  facts = falling_law c.volatile.lines c.volatile.programming (let_pass c e).half.levels

  lowered_to : with_low PGM c ≡ low
  lowered_to =
      taken c (lowering PGM c) e ∙
      follows_by c (lowering PGM c) (kind (way_of c (lowering PGM c))) _ (makes c (lowering PGM c) (way_of c (lowering PGM c)))
      facts.levels

  still_sound : state_refusal low ≡ 0
  unfolding refusal
  still_sound =
      let n = lowering PGM c in
      let next-is-low : next c n ≡ low =
      sym (accepted c n facts.lowers) ∙ (stepped_moves c n ∙ (sym (taken c n e) ∙ lowered_to))
      in
      rw next-is-low at (sound_stays_sound c n e facts.lowers)

  same_operation : operation_of low ≡ operation_of c
  unfolding operation_now held follows
  same_operation = rw (facts.rst, facts.fus)

  abbrev fall : ℕ
  fall = lowering CLK low

  fallen : Makes low fall (kind (way_of low fall)) (with_low CLK low)
  fallen = rw (taken low fall still_sound) (makes low fall (way_of low fall))

  operating : operates (kind (way_of low fall)) ≡ c.volatile.programming
  unfolding follows
  operating = facts.operating (powered (let_pass c e).half)

  same_performed : performed low ≡ performed c
  unfolding performed follows
  same_performed = rw same_operation refl

  performing : c.volatile.programming ≡ true → operation_of low ≡ performed low
  unfolding performed follows
  performing p = rw p refl

  -- In programming the operation takes effect; otherwise memory and fuses stay.
  takes_effect_lem : c.volatile.programming ≡ true → with_low CLK low ≡ programmed (performed low) fall low
  takes_effect_lem p =
      operates_by low fall (kind (way_of low fall)) _ fallen (operating ∙ p) ∙ ap (λ op. programmed op fall low) (performing p)

  without_right :
      (p : Bool) → c.volatile.programming ≡ p → performed low ≡ Nothing →
      ((with_low CLK low).memory ≡ c.memory) × ((with_low CLK low).fuses ≡ c.fuses)
  unfolding programmed memory_after fuses_after
  without_right true p n = rw (takes_effect_lem p, n) (refl, refl)
  without_right false p n = leaves_by low fall (kind (way_of low fall)) _ fallen (operating ∙ p)

pub reason_is_true : ReasonIsTrue
unfolding follows
reason_is_true c e =
    rw (lowered_to c e)
    (record {
      lowers = unrefused c (lowering PGM c) e (facts c e).lowers;
      falls = unrefused (low c e) (fall c e) (still_sound c e) (facts c e).falls;
      carried = takes_effect_lem c e;
      there =
          λ r.
          ((past c (is RightIsThere) refl refl refl (rw r refl)).under_way, λ n. not_nothing c r (sym (same_performed c e) ∙ n));
      otherwise =
          λ n.
          let none : performed (low c e) ≡ Nothing = same_performed c e ∙ rw (performs c, not_told (reason_of c) n) refl in
          (none, without_right c e c.volatile.programming refl none);
    })
