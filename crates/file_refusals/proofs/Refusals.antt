-- The chain of refusals, taken apart: what holds where it comes to 0, and the first checks without the later ones.
use Prim.Native.Nat.{ℕ, suc, ◌+◌, ◌-◌, ◌≤◌}
use mathlib.Core.Path.{◌≡◌, refl}
use mathlib.Core.Bool.{Bool, true, false, cond, not}
use mathlib.Core.List.{List}
use borrow.Author.Tests.{ltb-false, eqb-true, not-false}
use native.Mathlib.Nat.{not-suc-le-zero, le_of_eq}
use native.Mathlib.Omega.{arith}
use lib.Dec.{eqb, ltb}
use lib.ListN.{length}
use Rattle.memory.specs.Image.{bytes}
use Rattle.rules.specs.Refusals.{longest}
use Rattle.rules.specs.File.{fuse_count_at, step_count_at, steps_at, count, fuse_section, step_count, parts_refusal, card_refusal, session_refusal}
use Rattle.theorems.proofs.Tests.{peel}

chain :
    (a b c d e : Bool) (more : ℕ) →
    let first : ℕ = cond a 10 (cond b 11 (cond c 12 (cond d 13 (cond e 14 0)))) in
    cond a 10 (cond b 11 (cond c 12 (cond d 13 (cond e 14 more)))) ≡ cond (eqb first 0) more first
chain true b c d e more = refl
chain false true c d e more = refl
chain false false true d e more = refl
chain false false false true e more = refl
chain false false false false true more = refl
chain false false false false false more = refl

-- 10 to 14 come first; the later checks count only where these give 0.
pub parts_first :
    (file : List ℕ) (room more : ℕ)
    → parts_refusal file room more ≡ cond (eqb (parts_refusal file room 0) 0) more (parts_refusal file room 0)
unfolding parts_refusal
parts_first file room more =
    chain
    (not (eqb room bytes))
    (ltb (length file) step_count_at)
    (not (eqb (count file 0) bytes))
    (not (eqb (count file fuse_count_at) 1))
    (ltb 7 (fuse_section file))
    more

-- What holds where nothing is refused.
pub record Whole (file : List ℕ) (room : ℕ) : Type 0 where
  pub sized : room ≡ bytes
  pub long : step_count_at ≤ length file
  pub fused : fuse_section file ≤ 7

pub record WholeSession (file : List ℕ) (room : ℕ) : Type 0 where
  pub parts : Whole file room
  pub few : step_count file ≤ longest
  pub counted : length file ≡ steps_at + step_count file

-- A chain that comes to 0 passed its last test.
ends : (t : Bool) (k : ℕ) → cond t 0 (suc k) ≡ 0 → t ≡ true
ends true k e = refl
ends false k e = absurd (not-suc-le-zero (le_of_eq e))

whole : (file : List ℕ) (room more : ℕ) → parts_refusal file room more ≡ 0 → Whole file room × (more ≡ 0)
unfolding parts_refusal
whole file room more e =
    let p10 = peel _ 9 _ e in
    let p11 = peel _ 10 _ p10.1 in
    let p12 = peel (not (eqb (count file 0) bytes)) 11 _ p11.1 in
    let p13 = peel (not (eqb (count file fuse_count_at) 1)) 12 _ p12.1 in
    let p14 = peel _ 13 _ p13.1 in (
      record {
        sized = eqb-true _ _ (not-false _ p10.0);
        long = ltb-false _ _ p11.0;
        fused = ltb-false _ _ p14.0;
      },
      p14.1,
    )

pub whole_card : (file : List ℕ) (room : ℕ) → card_refusal file room ≡ 0 → Whole file room
unfolding card_refusal
whole_card file room e = (whole file room _ e).0

pub whole_session : (file : List ℕ) (room : ℕ) → session_refusal file room ≡ 0 → WholeSession file room
unfolding session_refusal
whole_session file room e =
    let w = whole file room _ e in
    let p15 = peel (ltb (length file) steps_at) 14 _ w.1 in
    let p16 = peel _ 15 _ p15.1 in
    record { parts = w.0; few = ltb-false _ _ p16.0; counted = eqb-true _ _ (ends _ 16 p16.1) }

-- 17 lets pass only a session that ends with its last step.
pub steps_counted : {file : List ℕ} {room : ℕ} → WholeSession file room → length file - steps_at ≡ step_count file
steps_counted s = omega (arith, s.counted)
