-- 02, W1: "granting that thing alone brings a later reason or the right".
use Prim.Native.Nat.{ℕ, ◌-◌, ◌≤◌, ◌<◌}
use native.Mathlib.Omega.{arith}
use mathlib.Core.Path.{◌≡◌, refl, ap, ap₂, ◌∙◌}
use mathlib.Core.Bool.{Bool, true, false, cond, not, ◌&&◌, ◌||◌, beq, or-true}
use lib.Dec.{eqb, leb, ltb}
use borrow.Author.Tests.{eqb-true, eq-eqb, ltb-true, leb-true}
use Rattle.memory.specs.Image.{digit}
use Rattle.rules.specs.declared.Reason.TheVariants.{E1Missing}
use Rattle.rules.specs.declared.Zone.TheVariants.{EC}
use Rattle.rules.specs.Halves.{MF, EC_EN, ISS, fuse_place, unblown, Card}
use Rattle.rules.specs.Lines.{VCC, RST, CLK, PGM, FUS, high, place, mask, turned}
use Rattle.rules.specs.Zones.{between, zone, row, is_fuse, is_gap}
use Rattle.rules.specs.Rights.{held, level1}
use Rattle.rules.specs.Programming.{asks}
use Rattle.rules.specs.Refusals.{state_refusal}
use Rattle.rules.specs.Reason.{number}
use Rattle.rules.specs.ReasonPromises.{reason_of, raised, mended, is, granting, is_of_the_last_six, later, GrantingBringsOn}
use Rattle.theorems.proofs.Tests.{all, below, below₂, every, of_every, and_left, and_right, beq_true}
use Rattle.theorems.proofs.ZoneCases.{addressed}
use Rattle.theorems.proofs.Soundness.{may_e1, unwired, SoundCard, let_pass, passes, in_power}
use Rattle.theorems.proofs.Missing.{with, lacked, asked_and_later}
use Rattle.theorems.proofs.Reasons.{v, h, z, asked, law, Past, past, past_three}

-- A fuse byte in which the fuse of reason n is unblown, and levels at which FUS is high where told: nothing else moves.
unfoldable mended_by : ℕ → ℕ → ℕ
unfolding mended
mended_by n f = cond (eqb 8 n) (mended MF f) (cond (eqb 9 n) (mended ISS f) f)

unfoldable raised_if : Bool → ℕ → ℕ
unfolding raised
raised_if b l = cond b (raised FUS l) l

unfoldable mending : ℕ → ℕ → Bool
mending n f =
    let g = mended_by n f in
    leb g 7 &&
    (beq (unblown MF g) (eqb 8 n || unblown MF f) &&
    (beq (unblown ISS g) (eqb 9 n || unblown ISS f) && beq (unblown EC_EN g) (unblown EC_EN f)))

unfoldable raising : ℕ → Bool → Bool
raising l b =
    let k = raised_if b l in
    ltb k 64 &&
    (beq (high FUS k) (b || high FUS l) &&
    (beq (high VCC k) (high VCC l) &&
    (beq (high RST k) (high RST l) && (beq (high CLK k) (high CLK l) && beq (high PGM k) (high PGM l)))))

record Mending (n f : ℕ) : Type 0 where
  small : mended_by n f ≤ 7
  mf : unblown MF (mended_by n f) ≡ (eqb 8 n || unblown MF f)
  iss : unblown ISS (mended_by n f) ≡ (eqb 9 n || unblown ISS f)
  ec_en : unblown EC_EN (mended_by n f) ≡ unblown EC_EN f

mending_law : (n f : ℕ) → n < 11 → f < 8 → Mending n f
unfolding mending mended_by unblown fuse_place digit all
mending_law n f p q =
    let t = below₂ 11 8 mending refl n f p q in
    let u = and_right (leb (mended_by n f) 7) _ t in
    let w = and_right (beq (unblown MF (mended_by n f)) _) _ u in
    record {
      small = leb-true (mended_by n f) 7 (and_left _ _ t);
      mf = beq_true _ _ (and_left (beq (unblown MF (mended_by n f)) _) _ u);
      iss = beq_true _ _ (and_left (beq (unblown ISS (mended_by n f)) _) _ w);
      ec_en = beq_true _ _ (and_right (beq (unblown ISS (mended_by n f)) _) _ w);
    }

record Raising (l : ℕ) (b : Bool) : Type 0 where
  small : raised_if b l < 64
  fus : high FUS (raised_if b l) ≡ (b || high FUS l)
  vcc : high VCC (raised_if b l) ≡ high VCC l
  rst : high RST (raised_if b l) ≡ high RST l
  clk : high CLK (raised_if b l) ≡ high CLK l
  pgm : high PGM (raised_if b l) ≡ high PGM l

raising_law : (l : ℕ) (b : Bool) → l < 64 → Raising l b
unfolding raising raised_if high place mask turned digit every all
raising_law l b p =
    let k = raised_if b l in
    let t = of_every (raising l) (below 64 (λ x. every (raising x)) refl l p) b in
    let u = and_right (ltb k 64) _ t in
    let w = and_right (beq (high FUS k) _) _ u in
    let x = and_right (beq (high VCC k) _) _ w in
    let y = and_right (beq (high RST k) _) _ x in
    record {
      small = ltb-true k 64 (and_left _ _ t);
      fus = beq_true _ _ (and_left (beq (high FUS k) _) _ u);
      vcc = beq_true _ _ (and_left (beq (high VCC k) _) _ w);
      rst = beq_true _ _ (and_left (beq (high RST k) _) _ x);
      clk = beq_true _ _ (and_left (beq (high CLK k) _) _ y);
      pgm = beq_true _ _ (and_right (beq (high CLK k) _) _ y);
    }

-- What holds of a truth value and of the other one holds of both.
either : (P : Bool → Type 0) (x y : Bool) → P y → P (not y) → P x
either P true true p q = p
either P true false p q = q
either P false true p q = q
either P false false p q = p

module _ (c : Card) (e : state_refusal c ≡ 0) (m : is_of_the_last_six (reason_of c) ≡ true) where
  abbrev n : ℕ
  n = number (reason_of c)

  abbrev d : Card
  d = granting (reason_of c) c

  s : SoundCard c
  s = let_pass c e

  passed : Past c.volatile.programming (is_gap (z c)) (beq (high RST c.volatile.lines) (is_fuse (z c)))
  unfolding is_of_the_last_six between
  passed = past c is_of_the_last_six refl refl refl m

  lacked_first : reason_of c ≡ lacked (asked c) (h c)
  lacked_first = past_three c passed

  small : n < 11
  unfolding is_of_the_last_six between
  small = omega (arith, leb-true n 10 (and_right (leb 5 n) _ m))

  mends : Mending n c.fuses
  mends = mending_law n c.fuses small (omega (arith, s.fused))

  raises : Raising c.volatile.lines (eqb 10 n)
  raises = raising_law c.volatile.lines (eqb 10 n) s.half.levels

  helps :
      (digit (n - 4) (asked c) ≡ true) × (later (reason_of c) (lacked (asked c) (with n (h c))) ≡ true)
  helps =
      rw lacked_first (asked_and_later (asked c) (law c).small (h c) (rw lacked_first at m))

  held_now : held d.fuses d.volatile ≡ with n (h c)
  unfolding held with granting mended_by raised_if
  held_now = rw (mends.mf, mends.iss, raises.fus) refl

  -- ISS and FUS are asked for only where the level does not matter.
  any_level :
      (digit 5 (asked c) || digit 6 (asked c)) ≡ true → (l : Bool) →
      asks l (unblown EC_EN c.fuses) (v c).latch (v c).address (z c) ≡ asked c
  any_level q l =
      either (λ x. asks x (unblown EC_EN c.fuses) (v c).latch (v c).address (z c) ≡ asked c) l (level1 (h c)) refl ((law c).level q)

  asked_still :
      (x y : Bool) → eqb 10 n ≡ x → eqb 9 n ≡ y →
      asks ((x || (h c).fus) && (y || (h c).iss)) (unblown EC_EN c.fuses) (v c).latch (v c).address (z c) ≡ asked c
  unfolding level1
  asked_still false false p q = refl
  asked_still true y p q =
      let fus : digit 6 (asked c) ≡ true = rw (← eqb-true 10 n p) at helps.0 in
      any_level (rw (fus, or-true (digit 5 (asked c))) refl) _
  asked_still false true p q =
      let iss : digit 5 (asked c) ≡ true = rw (← eqb-true 9 n q) at helps.0 in
      any_level (rw iss refl) _

  asked_now : asked d ≡ asked c
  unfolding granting mended_by with level1
  asked_now =
      ap (λ k. asks (level1 k) (unblown EC_EN d.fuses) (v c).latch (v c).address (z c)) held_now ∙
      (ap (λ b. asks (level1 (with n (h c))) b (v c).latch (v c).address (z c)) mends.ec_en ∙
      asked_still (eqb 10 n) (eqb 9 n) refl refl)

  past_now : Past d.volatile.programming (is_gap (z d)) (beq (high RST d.volatile.lines) (is_fuse (z d)))
  unfolding granting raised_if
  past_now = record { under_way = passed.under_way; stored = passed.stored; level = rw raises.rst passed.level }

  reason_now : reason_of d ≡ lacked (asked c) (with n (h c))
  reason_now = past_three d past_now ∙ ap₂ lacked asked_now held_now

  e1_placed : (is E1Missing (reason_of c) || (v c).e1) ≡ true → may_e1 (v c).address ≡ true
  unfolding all zone may_e1
  e1_placed = go (eqb 7 n) refl
    where
      go : (b : Bool) → eqb 7 n ≡ b → (b || (v c).e1) ≡ true → may_e1 (v c).address ≡ true
      go false p q = s.half.placed.e1_held q
      go true p q =
          let asks-e1 : digit 3 (asked c) ≡ true = rw (← eqb-true 7 n p) at helps.0 in
          addressed (λ a. eqb (row (zone a)) (row EC)) may_e1 refl (v c).address s.half.placed.within (eq-eqb _ _ ((law c).e1 asks-e1))

  sound_now : SoundCard d
  unfolding granting mended_by raised_if unwired
  sound_now =
      record {
        sized = s.sized;
        fused = mends.small;
        half =
            record {
              levels = raises.small;
              unpowered = rw (raises.vcc, in_power s.half passed.under_way) refl;
              wired = rw (raises.vcc, raises.clk, raises.pgm) s.half.wired;
              placed =
                  record { within = s.half.placed.within; matching = s.half.placed.matching; e1_held = e1_placed };
            };
      }

pub granting_brings_on : GrantingBringsOn
granting_brings_on c e m = (passes (d c e m) (sound_now c e m), rw (reason_now c e m) (helps c e m).1)
