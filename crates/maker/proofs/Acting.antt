-- An act's promise, from the refusal that the code found and from the steps that it placed.
use Prim.Native.Nat.{ℕ, suc, ◌≤◌, ◌<◌}
use mathlib.Core.Path.{◌≡◌, refl, sym, ◌∙◌}
use mathlib.Core.Bool.{Bool, true, false, cond}
use mathlib.Core.List.{List}
use native.Mathlib.Nat.{lt_irrefl}
use native.Mathlib.Omega.{arith}
use borrow.Author.Tests.{lt-ltb, le-ltb, eq-eqb, ne_eqb, eqb-false, ltb-false}
use lib.Dec.{eqb, ltb, eqb-suc-zero}
use lib.ListN.{length}
use Rattle.memory.specs.Buffer.{Put}
use Rattle.memory.specs.declared.lent.Filling.{Filling}
use Rattle.memory.specs.Filled.{Filled}
use Rattle.memory.proofs.Buffer.{whole, at_start}
use Rattle.rules.specs.Maker.{act_refusal}
use Rattle.std.specs.Prelude.{Ok, Err}
use Rattle.maker.specs.Act.{made, in_buffer, Acted}

module _ (refused : ℕ) (steps l : List ℕ) where
  module _ (k : ℕ) (e : k ≡ act_refusal refused steps (length l)) where
    pub refused_by_lem : (k ≡ 0 → ⊥) → Acted refused steps l (Err k) l
    unfolding made in_buffer
    refused_by_lem d = let t = ne_eqb k 0 d in record { answer = rw (← e, t) refl; bytes = rw t refl }

    pub roomy : k ≡ 0 → length steps ≤ length l
    unfolding act_refusal
    roomy z = ltb-false (length l) (length steps) (go (eqb refused 0) (ltb (length l) (length steps)) refl (sym e ∙ z))
      where
        go : (t u : Bool) → eqb refused 0 ≡ t → cond t (cond u 22 0) refused ≡ 0 → u ≡ false
        go true false p q = refl
        go true true p q = absurd (lt_irrefl 0 (omega (arith, q)))
        go false u p q = absurd (eqb-false refused 0 p q)

    pub wrote_by : k ≡ 0 → {r : ℕ} {m : List ℕ} → Put l 0 steps r m → Acted refused steps l (Ok r) m
    unfolding made in_buffer
    wrote_by z p =
        let n = whole (roomy z) p in
        record { answer = rw (← e, eq-eqb k 0 z, n) refl; bytes = rw n (at_start (roomy z) p) }

  -- 21
  pub barred : (k : ℕ) → refused ≡ suc k → Acted refused steps l (Err (suc k)) l
  unfolding act_refusal
  barred k e = refused_by_lem (suc k) (rw e (simp (eqb-suc-zero k))) (omega arith)

  -- n is the count that the code compares with the room.
  module _ (e : refused ≡ 0) (n : ℕ) (counted : length steps ≡ n) where
    pub short : length l < n → Acted refused steps l (Err 22) l
    unfolding act_refusal
    short h = refused_by_lem 22 (rw (e, counted, lt-ltb _ _ h) refl) (omega arith)

    pub wrote : {r : ℕ} {m : List ℕ} → n ≤ length l → Put l 0 steps r m → Acted refused steps l (Ok r) m
    unfolding act_refusal
    wrote h p = wrote_by 0 (rw (e, counted, le-ltb _ _ h) refl) refl p

    -- By what fills the buffer from its start on, `o` being what the buffer then holds.
    pub filled :
        {t u : Filling} {o : List ℕ} → n ≤ length l → t.out.now ≡ l → t.at ≡ 0 → Filled t steps u → o ≡ u.out.now →
        Acted refused steps l (Ok (u.at)) o
    filled h e z f d = rw d (wrote h (rw (e, z) at f.put))
