-- Laws on tests: what a true or a false one tells, and a computed test over a range of numbers, read at one of them.
use Prim.Native.Nat.{ℕ, suc, ◌<◌}
use mathlib.Core.Path.{◌≡◌, refl}
use mathlib.Core.Bool.{Bool, true, false, cond, not, ◌&&◌, ◌||◌, beq}
use native.Mathlib.Omega.{arith}
unfoldable pub use Rattle.memory.proofs.Below.{all}
pub use Rattle.memory.proofs.Below.{below, and_left, and_right}

-- A choice has what both its sides have, each under its own answer to the test.
pub cond_cases {ℓ κ} : {A : Type ℓ} (P : A → Type κ) (b : Bool) {x y : A} → (b ≡ true → P x) → (b ≡ false → P y) → P (cond b x y)
cond_cases P true p q = p refl
cond_cases P false p q = q refl

-- No refusal from a chain of refusals: none from its first test, and none from the rest.
pub peel : (t : Bool) (k r : ℕ) → cond t (suc k) r ≡ 0 → (t ≡ false) × (r ≡ 0)
peel true k r e = absurd (omega arith)
peel false k r e = (refl, e)

pub neither_left : (a b : Bool) → (a || b) ≡ false → a ≡ false
neither_left true b e = e
neither_left false b e = refl

pub neither_right : (a b : Bool) → (a || b) ≡ false → b ≡ false
neither_right true b e = cc
neither_right false b e = e

pub guarded : (a b : Bool) → (a ≡ true → b ≡ false) → (a && b) ≡ false
guarded true b f = f refl
guarded false b f = refl

pub unguarded : (a b : Bool) → (a && b) ≡ false → a ≡ true → b ≡ false
unguarded true b e _ = e
unguarded false b e q = cc

pub beq_true : (a b : Bool) → beq a b ≡ true → a ≡ b
beq_true true true e = refl
beq_true true false e = cc
beq_true false true e = e
beq_true false false e = refl

-- A test holds of both Booleans.
unfoldable pub every : (Bool → Bool) → Bool
every test = test true && test false

pub of_every : (test : Bool → Bool) → every test ≡ true → (b : Bool) → test b ≡ true
unfolding every
of_every test e true = search and_left
of_every test e false = search and_right

-- The same of three of them.
pub of_every₃ :
    (test : Bool → Bool → Bool → Bool) → every (λ a. every (λ b. every (test a b))) ≡ true → (a b c : Bool) → test a b c ≡ true
of_every₃ test e a b c = of_every _ (of_every _ (of_every _ e a) b) c

-- `below` of a test that stands for an implication.
pub below_then :
    (k : ℕ) (p q : ℕ → Bool) → all k (λ n. not (p n) || q n) ≡ true → (n : ℕ) → n < k → p n ≡ true → q n ≡ true
below_then k p q e n h a = rw a at (below k (λ x. not (p x) || q x) e n h)

-- `below` of two indices.
pub below₂ :
    (j k : ℕ) (test : ℕ → ℕ → Bool) → all j (λ a. all k (test a)) ≡ true → (a b : ℕ) → a < j → b < k → test a b ≡ true
below₂ j k test e a b p q = below k (test a) (below j (λ x. all k (test x)) e a p) b q
