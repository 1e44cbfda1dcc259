-- An order made of what another function answers.
use Prim.Native.Nat.{ℕ, ◌+◌, ◌-◌, ◌≤◌}
use mathlib.Core.Path.{◌≡◌, refl}
use mathlib.Core.Bool.{Bool, true, false, cond}
use mathlib.Core.List.{List}
use native.Mathlib.Omega.{arith}
use borrow.Author.Tests.{le-ltb}
use lib.Dec.{eqb, ltb}
use lib.ListN.{get_or}
use Rattle.std.specs.Prelude.{Option, Some, None, Result, Ok, Err}
use Rattle.std.specs.Result.{MatchResult}
use Rattle.words.specs.Numbers.{number_of}
use Rattle.words.specs.Names.{zone_row, row_of}
use Rattle.words.specs.declared.Zone.{Zone}
use Rattle.words.specs.declared.Zone.TheVariants.{FZ, IZ, SC, SCAC, CPZ, AZ, EZ, EC, MTZ, MFZ}
use Rattle.text_lines.specs.Faults.{numbered}
use Rattle.text_lines.specs.Orders.{unfit, beyond, all_ones, with_number, limited, either, firsts, sizes, bytes_order, zone_order}
use Rattle.text_lines.specs.declared.Order.{Order}
use Rattle.text_lines.specs.declared.Order.TheVariants.{Image}
use Rattle.text_lines.specs.declared.Change.TheVariants.{Fill}
use Rattle.text_lines.specs.declared.faults.Fault.{Fault}

-- The order that a number up to a limit makes.
abbrev pub of_number : (ℕ → Order) → ℕ → List ℕ → Result Order ℕ
of_number f limit w = with_number (number_of false w) (λ n. cond (ltb limit n) (Err beyond) (Ok (f n)))

pub not_limited : (f : ℕ → Order) (limit k : ℕ) (w : List ℕ) → Err k ≡ limited limit w → Err k ≡ of_number f limit w
unfolding limited with_number
not_limited f limit k w e = go (number_of false w) e
  where
    at : (t : Bool) (n : ℕ) → Err k ≡ cond t (Err beyond) (Ok n) → Err k ≡ cond t (Err beyond) (Ok (f n))
    at true n q = let z : k ≡ beyond = cc in rw z refl
    at false n q = cc

    go :
        (m : Option ℕ) → Err k ≡ with_number m (λ n. cond (ltb limit n) (Err beyond) (Ok n))
        → Err k ≡ with_number m (λ n. cond (ltb limit n) (Err beyond) (Ok (f n)))
    go (Some n) q = at (ltb limit n) n q
    go None q = let z : k ≡ unfit = cc in rw z refl

pub is_limited : (f : ℕ → Order) (limit x : ℕ) (w : List ℕ) → Ok x ≡ limited limit w → Ok (f x) ≡ of_number f limit w
unfolding limited with_number
is_limited f limit x w e = go (number_of false w) e
  where
    at : (t : Bool) (n : ℕ) → Ok x ≡ cond t (Err beyond) (Ok n) → Ok (f x) ≡ cond t (Err beyond) (Ok (f n))
    at true n q = cc
    at false n q = let z : x ≡ n = cc in rw z refl

    go :
        (m : Option ℕ) → Ok x ≡ with_number m (λ n. cond (ltb limit n) (Err beyond) (Ok n))
        → Ok (f x) ≡ with_number m (λ n. cond (ltb limit n) (Err beyond) (Ok (f n)))
    go (Some n) q = at (ltb limit n) n q
    go None q = cc

-- Where it is neither word, something else.
pub or_else :
    {Q : Fault → Type 0} (row a b : ℕ) (this that : Order) (rest : Result Order ℕ) (r o : Result Order Fault)
    → numbered r ≡ either row a b this that → MatchResult r (λ x. o ≡ Ok x) Q → ((e : Fault) → Q e → numbered o ≡ rest)
    → numbered o ≡ cond (eqb row a) (Ok this) (cond (eqb row b) (Ok that) rest)
unfolding either numbered
or_else {Q = Q} row a b this that rest r o e m q = go (eqb row a) (eqb row b) r e m
  where
    go :
        (t u : Bool) (s : Result Order Fault) → numbered s ≡ cond t (Ok this) (cond u (Ok that) (Err unfit))
        → MatchResult s (λ x. o ≡ Ok x) Q → numbered o ≡ cond t (Ok this) (cond u (Ok that) rest)
    go true u (Ok x) p h = rw h p
    go false true (Ok x) p h = rw h p
    go false false (Ok x) p h = cc
    go true u (Err k) p h = cc
    go false true (Err k) p h = cc
    go false false (Err k) p h = q k h

zone_below : (z : Zone) → zone_row z ≤ 9
unfolding zone_row
zone_below FZ = omega arith
zone_below IZ = omega arith
zone_below SC = omega arith
zone_below SCAC = omega arith
zone_below CPZ = omega arith
zone_below AZ = omega arith
zone_below EZ = omega arith
zone_below EC = omega arith
zone_below MTZ = omega arith
zone_below MFZ = omega arith

pub zone_filled :
    (z : Zone) (object first count : ℕ) (w : List ℕ) (o : Result Order ℕ) → object ≡ 21 + zone_row z
    → first ≡ get_or firsts (zone_row z) 0 → count ≡ get_or sizes (zone_row z) 0
    → o
    ≡ cond (eqb (row_of w) 19) (Ok (Image (Fill first count all_ones)))
    (cond (eqb (row_of w) 20) (Ok (Image (Fill first count 0))) (bytes_order first count w))
    → o ≡ zone_order object w
unfolding zone_order
zone_filled z object first count w o at f n e =
    let below = zone_below z in
    let same : object - 21 ≡ zone_row z = omega arith in
    let low : 21 ≤ object = omega arith in
    let high : object ≤ 30 = omega arith in
    rw (same, le-ltb object 21 low, le-ltb 30 object high, ← f, ← n) e
