-- 02, W1: "It must be the true one", as statements about the definitions of `Reason` and of a checked step, each proved under its own name.
use Rattle.std.specs.Prelude.{ℕ, ◌+◌, ◌^◌, ◌≡◌, Bool, true, cond, ◌&&◌, ◌||◌, eqb, ltb}
use Rattle.rules.specs.declared.Operation.{Operation}
use Rattle.rules.specs.declared.Operation.TheVariants.{Nothing}
use Rattle.rules.specs.declared.Reason.{Reason}
use Rattle.rules.specs.declared.Reason.TheVariants.{RightIsThere, SVMissing, P1Missing, E1Missing, MFBlown, ISSBlown, FUSLow}
use Rattle.rules.specs.Halves.{Fuse, MF, ISS, fuse_place, unblown, Card}
use Rattle.rules.specs.Lines.{Line, CLK, PGM, FUS, high, turned}
use Rattle.rules.specs.Zones.{between}
use Rattle.rules.specs.Programming.{may_program_now, operation_now}
use Rattle.rules.specs.Refusals.{state_refusal}
use Rattle.rules.specs.Steps.{programmed}
use Rattle.rules.specs.Card.{refusal_in, checked_step, checked_answer}
use Rattle.rules.specs.Reason.{number, reason}

abbrev pub reason_of : Card → Reason
reason_of c = reason c.fuses c.volatile

-- The two are the same reason.
abbrev pub is : Reason → Reason → Bool
is r s = eqb (number r) (number s)

-- "'the right is there' exactly when 01 carries the operation out", by the right that CLK's fall goes by.
abbrev pub TheRightIsThere : Type 0
TheRightIsThere =
    (c : Card) → is RightIsThere (reason_of c) ≡ (c.volatile.programming && may_program_now c.fuses c.volatile)

-- What CLK's fall performs: in programming the operation of the moment.
unfoldable pub performed : Card → Operation
performed c = cond c.volatile.programming (operation_now c.fuses c.volatile) Nothing

-- The levels with the line x low, and with it high.
unfoldable pub lowered : Line → ℕ → ℕ
unfolding high turned
lowered x levels = cond (high x levels) (turned x levels) levels

unfoldable pub raised : Line → ℕ → ℕ
unfolding high turned
raised x levels = cond (high x levels) levels (turned x levels)

-- The step that makes the line x low, and the card after it.
abbrev pub lowering : Line → Card → ℕ
lowering x c = lowered x c.volatile.lines

abbrev pub with_low : Line → Card → Card
with_low x c = checked_step c (lowering x c)

-- The same over the steps, of a card c and the card `low` that PGM's fall makes of it. Both steps are accepted, and CLK's fall in
-- programming carries out what is performed. That is not nothing where the right is there; with any other reason it is, and memory and
-- fuses stay.
pub record ToldTruly (c low : Card) : Type 0 where
  pub lowers : refusal_in (checked_answer c (lowering PGM c)) ≡ 0
  pub falls : refusal_in (checked_answer low (lowering CLK low)) ≡ 0
  pub carried : c.volatile.programming ≡ true → with_low CLK low ≡ programmed (performed low) (lowering CLK low) low
  pub there : reason_of c ≡ RightIsThere → (c.volatile.programming ≡ true) × (performed low ≡ Nothing → ⊥)
  pub otherwise :
      (reason_of c ≡ RightIsThere → ⊥) →
      (performed low ≡ Nothing) × (((with_low CLK low).memory ≡ c.memory) × ((with_low CLK low).fuses ≡ c.fuses))

abbrev pub ReasonIsTrue : Type 0
ReasonIsTrue = (c : Card) → state_refusal c ≡ 0 → ToldTruly c (with_low PGM c)

-- "for the last six, granting that thing alone brings a later reason or the right"

-- The fuse x unblown.
unfoldable pub mended : Fuse → ℕ → ℕ
unfolding fuse_place
mended x fuses = cond (unblown x fuses) fuses (fuses + 2 ^ fuse_place x)

-- The card with that alone granted which the reason names: a flag, a fuse unblown, FUS high.
unfoldable pub granting : Reason → Card → Card
unfolding raised mended
granting r c =
    let v = c.volatile in
    record {
      memory = c.memory;
      fuses = cond (is MFBlown r) (mended MF c.fuses) (cond (is ISSBlown r) (mended ISS c.fuses) c.fuses);
      volatile =
          record {
            lines = cond (is FUSLow r) (raised FUS v.lines) v.lines;
            address = v.address;
            sv = is SVMissing r || v.sv;
            p1 = is P1Missing r || v.p1;
            r1 = v.r1;
            e1 = is E1Missing r || v.e1;
            matched = v.matched;
            latch = v.latch;
            programming = v.programming;
          };
    }

-- "the last six"
unfoldable pub is_of_the_last_six : Reason → Bool
is_of_the_last_six r = between 5 10 (number r)

-- "a later reason or the right"
unfoldable pub later : Reason → Reason → Bool
later r s = eqb (number s) 0 || ltb (number r) (number s)

abbrev pub GrantingBringsOn : Type 0
GrantingBringsOn =
    (c : Card) → state_refusal c ≡ 0 → is_of_the_last_six (reason_of c) ≡ true →
    let d = granting (reason_of c) c in
    (state_refusal d ≡ 0) × (later (reason_of c) (reason_of d) ≡ true)
