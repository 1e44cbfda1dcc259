-- 02, W1: "'the right is there' exactly when 01 carries the operation out", over the definition that CLK's fall uses.
use Prim.Native.Nat.{ℕ}
use mathlib.Core.Path.{◌≡◌, refl, sym, ◌∙◌}
use mathlib.Core.Bool.{Bool, true, false, cond, not, ◌&&◌, beq, false≢true}
use Rattle.memory.specs.Image.{digit}
use Rattle.rules.specs.declared.Operation.{Operation}
use Rattle.rules.specs.declared.Operation.TheVariants.{Nothing}
use Rattle.rules.specs.declared.Reason.{Reason}
use Rattle.rules.specs.declared.Reason.TheVariants.{NoProgramming, NothingStored, WrongRST, NeverAllowed, RightIsThere}
use Rattle.rules.specs.declared.Reason.TheVariants.{SVMissing, P1Missing, E1Missing, MFBlown, ISSBlown, FUSLow}
use Rattle.rules.specs.declared.Zone.{Zone}
use Rattle.rules.specs.Halves.{EC_EN, unblown, Volatile, Card}
use Rattle.rules.specs.Lines.{RST, high}
use Rattle.rules.specs.Zones.{zone, is_fuse, is_gap}
use Rattle.rules.specs.Rights.{Held, held, level1, granted}
use Rattle.rules.specs.Programming.{asks, may_program, may_program_now, effect, operation, operation_now}
use Rattle.rules.specs.Reason.{missing, reason}
use Rattle.rules.specs.ReasonPromises.{reason_of, performed, is}
use Rattle.theorems.proofs.Missing.{lacked, right_is_granted, is_nothing, Asking, asking_law}

-- The first three reasons, and then x.
abbrev ladder : Bool → Bool → Bool → Reason → Reason
ladder programming gap rst x = cond (not programming) NoProgramming (cond gap NothingStored (cond (not rst) WrongRST x))

right_by :
    (p g r t : Bool) (x : Reason) → is RightIsThere x ≡ t → (g ≡ true → t ≡ false) →
    is RightIsThere (ladder p g r x) ≡ (p && (r && t))
right_by false g r t x e f = refl
right_by true true true t x e f = sym (f refl)
right_by true true false t x e f = refl
right_by true false true t x e f = e
right_by true false false t x e f = refl

-- What holds where a test tells a later reason.
pub record Past (p g r : Bool) : Type 0 where
  pub under_way : p ≡ true
  pub stored : g ≡ false
  pub level : r ≡ true

module _ (q : Reason → Bool) (one : q NoProgramming ≡ false) (two : q NothingStored ≡ false) (three : q WrongRST ≡ false) where
  past_by : (p g r : Bool) (x : Reason) → q (ladder p g r x) ≡ true → Past p g r
  past_by false g r x e = absurd (false≢true (sym one ∙ e))
  past_by true true r x e = absurd (false≢true (sym two ∙ e))
  past_by true false true x e = record { under_way = refl; stored = refl; level = refl }
  past_by true false false x e = absurd (false≢true (sym three ∙ e))

-- A reason is told by its number.
told_by : (r : Reason) → is RightIsThere r ≡ true → r ≡ RightIsThere
told_by RightIsThere e = refl
told_by NoProgramming e = absurd (false≢true e)
told_by NothingStored e = absurd (false≢true e)
told_by WrongRST e = absurd (false≢true e)
told_by NeverAllowed e = absurd (false≢true e)
told_by SVMissing e = absurd (false≢true e)
told_by P1Missing e = absurd (false≢true e)
told_by E1Missing e = absurd (false≢true e)
told_by MFBlown e = absurd (false≢true e)
told_by ISSBlown e = absurd (false≢true e)
told_by FUSLow e = absurd (false≢true e)

pub not_told : (r : Reason) → (r ≡ RightIsThere → ⊥) → is RightIsThere r ≡ false
not_told r n = go (is RightIsThere r) refl
  where
    go : (b : Bool) → is RightIsThere r ≡ b → b ≡ false
    go true e = absurd (n (told_by r e))
    go false e = refl

-- An operation under two conditions.
under_both : (p m : Bool) (op : Operation) → cond p (cond m op Nothing) Nothing ≡ cond (p && m) op Nothing
under_both true m op = refl
under_both false m op = refl

module _ (c : Card) where
  abbrev pub v : Volatile
  v = c.volatile

  abbrev pub h : Held
  h = held c.fuses v

  abbrev pub z : Zone
  z = zone v.address

  abbrev pub asked : ℕ
  asked = asks (level1 h) (unblown EC_EN c.fuses) v.latch v.address z

  pub law : Asking (level1 h) (unblown EC_EN c.fuses) v.latch v.address z
  law = asking_law (level1 h) (unblown EC_EN c.fuses) v.latch v.address z

  -- "'the right is there' exactly when 01 carries the operation out"
  pub right_is_there : is RightIsThere (reason_of c) ≡ (v.programming && may_program_now c.fuses v)
  unfolding reason missing may_program_now may_program granted digit
  right_is_there =
      right_by v.programming (is_gap z) (beq (high RST v.lines) (is_fuse z)) (granted asked h) _
      (right_is_granted asked law.small h) (λ g. rw (law.gap g))

  -- Where none of the first three holds, it is the first thing that is asked for and is not there.
  pub past_three : Past v.programming (is_gap z) (beq (high RST v.lines) (is_fuse z)) → reason_of c ≡ lacked asked h
  unfolding reason missing
  past_three p = rw (p.under_way, p.stored, p.level) refl

  -- What CLK's fall performs, by the reason.
  pub performs : performed c ≡ cond (is RightIsThere (reason_of c)) (effect (level1 h) v.latch z) Nothing
  unfolding performed operation_now operation may_program_now
  performs = under_both v.programming (may_program_now c.fuses v) _ ∙ rw right_is_there

  pub past :
      (q : Reason → Bool) → q NoProgramming ≡ false → q NothingStored ≡ false → q WrongRST ≡ false → q (reason_of c) ≡ true →
      Past v.programming (is_gap z) (beq (high RST v.lines) (is_fuse z))
  unfolding reason
  past q one two three = past_by q one two three v.programming (is_gap z) (beq (high RST v.lines) (is_fuse z)) _

  -- At a place that stores something it is not nothing.
  pub not_nothing : reason_of c ≡ RightIsThere → performed c ≡ Nothing → ⊥
  unfolding is_nothing
  not_nothing r n =
      let right : is RightIsThere (reason_of c) ≡ true = rw r refl in
      let none : effect (level1 h) v.latch z ≡ Nothing = rw right at (sym performs ∙ n) in
      false≢true (sym (past (is RightIsThere) refl refl refl right).stored ∙ (sym law.nothing ∙ rw none refl))
