-- What an operation asks for and does not have: rules of every mask that 01 asks for, each by one computed test.
use Prim.Native.Nat.{ℕ, ◌-◌, ◌<◌}
use mathlib.Core.Path.{◌≡◌, refl}
use mathlib.Core.Bool.{Bool, true, false, not, ◌&&◌, ◌||◌, beq}
use lib.Bits.{bit_and}
use lib.Count.{count_trailing_zeros}
use lib.Dec.{eqb, ltb}
use borrow.Author.Tests.{ltb-true, eqb-true}
use Rattle.memory.specs.Image.{digit}
use Rattle.rules.specs.declared.Operation.{Operation}
use Rattle.rules.specs.declared.Operation.TheVariants.{Nothing, WriteBit, EraseWord, EraseZone}
use Rattle.rules.specs.declared.Operation.TheVariants.{WriteBlock, EraseBlock, BlowMF, BlowECEN, BlowISS}
use Rattle.rules.specs.declared.Reason.{Reason}
use Rattle.rules.specs.declared.Reason.TheVariants.{RightIsThere}
use Rattle.rules.specs.declared.Zone.{Zone}
use Rattle.rules.specs.declared.Zone.TheVariants.{EC}
use Rattle.rules.specs.Zones.{between, row, is_gap}
use Rattle.rules.specs.Rights.{Held, granted, lacking, table, others, rights, no}
use Rattle.rules.specs.Programming.{barred, asks, effect_apart, effect}
use Rattle.rules.specs.Reason.{number, first_missing}
use Rattle.rules.specs.ReasonPromises.{is, is_of_the_last_six, later}
use Rattle.rules.proofs.Rows.{at_row, each_zone}
use Rattle.theorems.proofs.ZoneCases.{asked_where}
use Rattle.theorems.proofs.Tests.{all, below, every, of_every, of_every₃, and_left, and_right, beq_true}

-- A test holds of everything that may be there.
unfoldable every_held : (Held → Bool) → Bool
every_held test =
    every
    (λ sv.
    every
    (λ p1.
    every
    (λ r1.
    every
    (λ e1.
    every
    (λ mf. every (λ iss. every (λ fus. test (record { sv = sv; p1 = p1; r1 = r1; e1 = e1; mf = mf; iss = iss; fus = fus }))))))))

of_held : (test : Held → Bool) → every_held test ≡ true → (h : Held) → test h ≡ true
unfolding every_held
of_held test e h =
    of_every _
    (of_every _
    (of_every _
    (of_every _ (of_every _ (of_every _ (of_every _ e h.sv) h.p1) h.r1) h.e1) h.mf) h.iss) h.fus

-- What is there once the thing is granted that the reason of this number names.
unfoldable pub with : ℕ → Held → Held
with n h =
    record {
      sv = eqb 5 n || h.sv;
      p1 = eqb 6 n || h.p1;
      r1 = h.r1;
      e1 = eqb 7 n || h.e1;
      mf = eqb 8 n || h.mf;
      iss = eqb 9 n || h.iss;
      fus = eqb 10 n || h.fus;
    }

-- The first thing that is asked for and is not there.
abbrev pub lacked : ℕ → Held → Reason
lacked asked h = first_missing (bit_and asked (lacking h))

-- A thing that is missing is asked for, and once granted it is not missing.
unfoldable granting_helps : ℕ → Held → Bool
granting_helps asked h =
    let r = lacked asked h in
    not (is_of_the_last_six r) || digit (number r - 4) asked && later r (lacked asked (with (number r) h))

unfoldable told : ℕ → Held → Bool
told asked h = beq (is RightIsThere (lacked asked h)) (granted asked h) && granting_helps asked h

all_told : (asked : ℕ) → asked < 128 → (h : Held) → told asked h ≡ true
unfolding told granting_helps is_of_the_last_six later first_missing count_trailing_zeros lacking granted digit between with every_held every all
all_told asked small h = of_held (told asked) (below 128 (λ x. every_held (told x)) refl asked small) h

module _ (asked : ℕ) (small : asked < 128) (h : Held) where
  -- The right is there exactly where all that is asked for is.
  pub right_is_granted : is RightIsThere (lacked asked h) ≡ granted asked h
  unfolding told
  right_is_granted = beq_true _ _ (and_left _ (granting_helps asked h) (all_told asked small h))

  pub asked_and_later :
      is_of_the_last_six (lacked asked h) ≡ true →
      (digit (number (lacked asked h) - 4) asked ≡ true) ×
      (later (lacked asked h) (lacked asked (with (number (lacked asked h)) h)) ≡ true)
  unfolding told granting_helps
  asked_and_later m =
      let both = rw m at (and_right (beq (is RightIsThere (lacked asked h)) _) (granting_helps asked h) (all_told asked small h)) in
      (and_left _ _ both, and_right (digit (number (lacked asked h) - 4) asked) _ both)

unfoldable pub is_nothing : Operation → Bool
is_nothing Nothing = true
is_nothing WriteBit = false
is_nothing EraseWord = false
is_nothing EraseZone = false
is_nothing WriteBlock = false
is_nothing EraseBlock = false
is_nothing BlowMF = false
is_nothing BlowECEN = false
is_nothing BlowISS = false

-- `elsewhere` says that EC_EN is blown and the address is not 1232. SV or R1 is not asked for; ISS and FUS only where the level does not
-- matter; E1 only in EC. A gap has no right, and alone has no operation.
unfoldable asking : Zone → Bool → Bool → Bool → Bool
asking z l1 elsewhere latch =
    let asked = asked_where l1 latch (not l1 && elsewhere) z in
    ltb asked 128 &&
    ((not (digit 5 asked || digit 6 asked) || eqb (asked_where (not l1) latch (not (not l1) && elsewhere) z) asked) &&
    ((not (digit 3 asked) || eqb (row z) (row EC)) &&
    ((not (is_gap z) || eqb asked no) && beq (is_nothing (effect l1 latch z)) (is_gap z))))

all_asking : (z : Zone) (l1 elsewhere latch : Bool) → asking z l1 elsewhere latch ≡ true
unfolding asking is_nothing rights table others effect effect_apart is_gap at_row digit every all
all_asking z = of_every₃ (asking z) (each_zone (λ y. every (λ l. every (λ e. every (asking y l e)))) refl z)

module _ (l1 ec_en latch : Bool) (a : ℕ) (z : Zone) where
  abbrev asked : ℕ
  asked = asks l1 ec_en latch a z

  elsewhere : Bool
  elsewhere = not ec_en && not (eqb a 1232)

  pub record Asking : Type 0 where
    pub small : asked < 128
    pub level : (digit 5 asked || digit 6 asked) ≡ true → asks (not l1) ec_en latch a z ≡ asked
    pub e1 : digit 3 asked ≡ true → row z ≡ row EC
    pub gap : is_gap z ≡ true → asked ≡ no
    pub nothing : is_nothing (effect l1 latch z) ≡ is_gap z

  pub asking_law : Asking
  unfolding asking elsewhere asks barred
  asking_law =
      let t = all_asking z l1 elsewhere latch in
      let u = and_right (ltb asked 128) _ t in
      let w = and_right (not (digit 5 asked || digit 6 asked) || _) _ u in
      let x = and_right (not (digit 3 asked) || _) _ w in
      record {
        small = ltb-true asked 128 (and_left (ltb asked 128) _ t);
        level = λ d. eqb-true _ asked (rw d at (and_left (not (digit 5 asked || digit 6 asked) || _) _ u));
        e1 = λ d. eqb-true _ _ (rw d at (and_left (not (digit 3 asked) || _) _ w));
        gap = λ g. eqb-true asked no (rw g at (and_left (not (is_gap z) || _) _ x));
        nothing = beq_true _ _ (and_right (not (is_gap z) || _) _ x);
      }
