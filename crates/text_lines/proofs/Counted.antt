-- The words of a line and their number.
use Prim.Native.Nat.{ℕ, ◌+◌, ◌≤◌, ◌<◌}
use mathlib.Core.Path.{◌≡◌, refl}
use mathlib.Core.Bool.{Bool, true, false, cond, not}
use mathlib.Core.List.{List, [], ◌∷◌}
use native.Mathlib.Omega.{arith}
use borrow.Author.Tests.{ne_eqb, lt-ltb, le-ltb}
use denote.Ref.{Bor}
use lib.Dec.{eqb, ltb}
use lib.ListN.{length}
use Rattle.std.specs.Prelude.{Some, None, Result, Ok, Err, unwrap_or}
use Rattle.std.specs.List.{position_or_len}
use Rattle.words.specs.Names.{verb_row}
use Rattle.words.specs.declared.Verb.{Verb}
use Rattle.words.specs.declared.Verb.TheVariants as verb
use Rattle.text_lines.specs.Orders.{unknown, unfit, words_of, order_of, word_count}
use Rattle.text_lines.specs.declared.Order.{Order}
use Rattle.text_lines.specs.declared.Order.TheVariants.{Nothing}

abbrev pub empty : Bor (List ℕ) → Bool
empty w = eqb (length w.now) 0

-- The first word that is empty says how many stand before it.
pub words_counted :
    (a b c d : Bor (List ℕ))
    → unwrap_or
    (cond (ltb (position_or_len empty (a ∷ b ∷ c ∷ d ∷ [])) 4) (Some (position_or_len empty (a ∷ b ∷ c ∷ d ∷ []))) None) 4
    ≡ word_count a.now b.now c.now d.now
unfolding word_count
words_counted a b c d = go (empty a) (empty b) (empty c) (empty d)
  where
    spot : Bool → Bool → Bool → Bool → ℕ
    spot s t u v = cond (not s) (1 + cond (not t) (1 + cond (not u) (1 + cond (not v) (1 + 0) 0) 0) 0) 0

    go :
        (s t u v : Bool)
        → unwrap_or (cond (ltb (spot s t u v) 4) (Some (spot s t u v)) None) 4 ≡ cond s 0 (cond t 1 (cond u 2 (cond v 3 4)))
    go true t u v = refl
    go false true u v = refl
    go false false true v = refl
    go false false false true = refl
    go false false false false = refl

pub verb_below : (v : Verb) → verb_row v ≤ 14
unfolding verb_row
verb_below verb.Reset = omega arith
verb_below verb.Write = omega arith
verb_below verb.Erase = omega arith
verb_below verb.Blow = omega arith
verb_below verb.Power = omega arith
verb_below verb.Fus = omega arith
verb_below verb.Image = omega arith
verb_below verb.Cut = omega arith
verb_below verb.Walk = omega arith
verb_below verb.Lines = omega arith
verb_below verb.Fuses = omega arith
verb_below verb.Show = omega arith
verb_below verb.Open = omega arith
verb_below verb.Byte = omega arith
verb_below verb.Zone = omega arith

pub none_there : (verb : ℕ) (object value : List ℕ) → order_of verb 0 object value ≡ Ok Nothing
unfolding order_of
none_there verb object value = refl

module _ (verb count : ℕ) (object value : List ℕ) (some : count ≡ 0 → ⊥) where
  pub no_verb : 14 < verb → order_of verb count object value ≡ Err unknown
  unfolding order_of
  no_verb h = rw (ne_eqb count 0 some, lt-ltb 14 verb h) refl

  pub miscounted : verb ≤ 14 → (count ≡ words_of verb → ⊥) → order_of verb count object value ≡ Err unfit
  unfolding order_of words_of
  miscounted h d = rw (ne_eqb count 0 some, le-ltb 14 verb h) (go _ _ _ (ltb verb 4) (ltb verb 13) d)
    where
      go :
          (x y z : Result Order ℕ) (t u : Bool) → (count ≡ cond t 1 (cond u 2 3) → ⊥)
          → cond t (cond (eqb count 1) x (Err unfit)) (cond u (cond (eqb count 2) y (Err unfit)) (cond (eqb count 3) z (Err unfit)))
          ≡ Err unfit
      go x y z true u e = rw (ne_eqb count 1 e) refl
      go x y z false true e = rw (ne_eqb count 2 e) refl
      go x y z false false e = rw (ne_eqb count 3 e) refl
