-- 01, "Rights": where the zones lie, as laws of the definition.
use Prim.Native.Nat.{ℕ, ◌≤◌, ◌<◌}
use mathlib.Core.Path.{◌≡◌}
use mathlib.Core.Bool.{Bool, true, false, cond, not, ◌&&◌, ◌||◌}
use native.Mathlib.Omega.{arith}
use native.Mathlib.Decide.{dec_le}
use lib.Dec.{eqb}
use Rattle.rules.specs.declared.Zone.{Zone}
use Rattle.rules.specs.declared.Zone.TheVariants.{EC}
use Rattle.rules.specs.Zones.{row, last}
use Rattle.rules.specs.Rights as Rights
use Rattle.rules.specs.Rights.{rights}
use Rattle.rules.specs.Demands.{hidden}
use Rattle.theorems.proofs.Tests.{all, below_then}
use Rattle.theorems.proofs.Between.{over}

-- One computed test over the addresses: what p says of an address, q says too.
pub addressed : (p q : ℕ → Bool) → all 1520 (λ a. not (p a) || q a) ≡ true → (a : ℕ) → a ≤ last → p a ≡ true → q a ≡ true
addressed p q e a h = below_then 1520 p q e a (omega arith)

-- The same of every number, where it holds past the addresses too.
pub everywhere :
    (p q : ℕ → Bool) → all 1520 (λ a. not (p a) || q a) ≡ true → ((a : ℕ) → last < a → p a ≡ true → q a ≡ true) → (a : ℕ) →
    p a ≡ true → q a ≡ true
everywhere p q e past a = go (dec_le a last)
  where
    go : Dec (a ≤ last) → p a ≡ true → q a ≡ true
    go (yes l) = addressed p q e a l
    go (no l) = past a (omega arith)

-- Past EZ nothing is hidden.
pub hidden_past : (a : ℕ) → 1231 < a → hidden a ≡ false
unfolding hidden
hidden_past a h = rw (over 80 95 a (omega arith), over 176 1199 a (omega arith), over 1200 1231 a h)

-- What an operation asks for, where `bar` says whether the erase in EC is barred.
abbrev pub asked_where : Bool → Bool → Bool → Zone → ℕ
asked_where l1 latch bar z = cond latch (cond (eqb (row z) (row EC) && bar) Rights.no (rights l1 z).erase) (rights l1 z).write
