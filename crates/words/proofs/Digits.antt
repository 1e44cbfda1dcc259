-- The digits of a word from a place on.
use Prim.Native.Nat.{ℕ, ◌+◌, ◌*◌, ◌≤◌, ◌<◌}
use mathlib.Core.Path.{◌≡◌, refl}
use mathlib.Core.Bool.{cond}
use mathlib.Core.List.{List, ◌∷◌}
use native.Mathlib.Numerals.{add-one}
use borrow.Author.Tests.{le-leb, lt-leb}
use lib.Dec.{leb}
use lib.ListN.{length, get_or, drop, drop_of_length-le}
use lib.Seq.{drop-cons}
use Rattle.std.specs.Prelude.{Some, None}
use Rattle.words.specs.Numbers.{digit_of, limit, number_from}

-- The digits from place i on, after those that come to v, come to what all of them come to.
pub record Underway (base : ℕ) (w : List ℕ) (v i : ℕ) : Type 0 where
  pub same : number_from base v (drop i w) ≡ number_from base 0 w

pub begun : {base : ℕ} {w : List ℕ} → Underway base w 0 0
begun = record { same = refl }

module _ {base : ℕ} {w : List ℕ} {v i : ℕ} (u : Underway base w v i) where
  pub at_end : length w ≤ i → Some v ≡ number_from base 0 w
  unfolding number_from
  at_end h = rw (drop_of_length-le w h) at u.same

  module _ (h : i < length w) where
    first : number_from base v (get_or w i 0 ∷ drop (i + 1) w) ≡ number_from base 0 w
    first = rw (drop-cons w i 0 h, ← add-one i) at u.same

    here :
        cond (leb base (digit_of (get_or w i 0))) None
        (cond (leb limit v) None (number_from base (v * base + digit_of (get_or w i 0)) (drop (i + 1) w)))
        ≡ number_from base 0 w
    unfolding number_from
    here = first

    pub no_digit : base ≤ digit_of (get_or w i 0) → None ≡ number_from base 0 w
    no_digit p = rw (le-leb _ _ p) at here

    pub too_large : digit_of (get_or w i 0) < base → limit ≤ v → None ≡ number_from base 0 w
    too_large p q = rw (lt-leb _ _ p, le-leb _ _ q) at here

    pub one_more : digit_of (get_or w i 0) < base → v < limit → Underway base w (v * base + digit_of (get_or w i 0)) (i + 1)
    one_more p q = record { same = rw (lt-leb _ _ p, lt-leb _ _ q) at here }
