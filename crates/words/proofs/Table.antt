-- The tables of names in the code have them in their rows.
use Prim.Native.Nat.{ℕ, suc, ◌+◌}
use mathlib.Core.Path.{◌≡◌, refl, sym, ap, ◌∙◌}
use mathlib.Core.Bool.{Bool, true, false, cond, ◌&&◌}
use mathlib.Core.List.{List, [], ◌∷◌, map}
use native.Mathlib.Nat.{zero-add}
use native.Mathlib.Omega.{arith}
use denote.Ref.{Bor}
use borrow.Author.Tests.{eq-eqb, ne_eqb}
use lib.ListN.{length}
use Rattle.std.proofs.lemmas.Bool.{eqb-true, and_parts, false_from_ne_true, true≢false}
use Rattle.std.proofs.lemmas.Slice.Eq.{bytes_eq-Decides}
use lib.Dec.{eqb}
use Rattle.std.specs.Prelude.{Option, Some, None}
use Rattle.std.specs.List.{find}
use Rattle.std.specs.Option.{MatchOption, IsSomeAnd, option_map}
use Rattle.std.specs.Str.{bytes_eq}
use Rattle.words.specs.declared.Name.{Name}
use Rattle.words.specs.Names.{index_of, names, row, row_in, row_of}

-- A line of a table: a word and the name that it is.
abbrev pub Line : Type 0
Line = Bor (List ℕ) × Name

-- These lines are those from row k on.
unfoldable pub in_rows : ℕ → List Line → Bool
in_rows k [] = eqb k 31
in_rows k (p ∷ ps) = eqb (row p.1) k && in_rows (suc k) ps

-- What the lines that are found say: the name of the first of them.
pub taken :
    {Q : Bor Line → Name → Type 0} (o : Option (Bor Line)) (r : Option Name)
    → MatchOption o (r ≡ None) (λ x. IsSomeAnd r (Q x)) → ((x : Bor Line) (n : Name) → Q x n → n ≡ x.now.1)
    → r ≡ option_map (λ (p : Line). p.1) (option_map (λ (x : Bor Line). x.now) o)
taken None r e q = e
taken (Some x) (Some n) e q = ap Some (q x n e)
taken (Some x) None e q = absurd e

found_from :
    (w : List ℕ) (k : ℕ) (ps : List Line) → in_rows k ps ≡ true
    → row_in (option_map (λ (p : Line). p.1) (find (λ p. bytes_eq p.0.now w) ps)) ≡ k + index_of w (map (λ p. p.0.now) ps)
unfolding in_rows row_in index_of
found_from w k [] e = omega (arith, eqb-true k 31 e)
found_from w k (p ∷ ps) e =
    let (here, after) = and_parts (eqb (row p.1) k) (in_rows (suc k) ps) e in
    go (bytes_eq p.0.now w) (eqb-true (row p.1) k here) (found_from w (suc k) ps after)
  where
    go :
        (t : Bool) → row p.1 ≡ k
        → row_in (option_map (λ (p : Line). p.1) (find (λ p. bytes_eq p.0.now w) ps)) ≡ suc k + index_of w (map (λ p. p.0.now) ps)
        → row_in (option_map (λ (p : Line). p.1) (cond t (Some p) (find (λ p. bytes_eq p.0.now w) ps)))
        ≡ k + cond t 0 (suc (index_of w (map (λ p. p.0.now) ps)))
    go true r h = omega (arith, r)
    go false r h = omega (arith, h)

pub found :
    (w : List ℕ) (rest ps : List Line) → rest ≡ ps → in_rows 0 ps ≡ true
    → row_in (option_map (λ (p : Line). p.1) (find (λ p. bytes_eq p.0.now w) rest)) ≡ index_of w (map (λ p. p.0.now) ps)
found w rest ps e h = rw e (omega (arith, found_from w 0 ps h))

-- What comes first, if it is kept, in front of the rest.
unfoldable kept : {A : Type 0} → Bool → A → List A → List A
kept true x xs = x ∷ xs
kept false x xs = xs

-- The words of a length, each with its row, where the first of all is in row n.
unfoldable pub rows_of_length : ℕ → ℕ → List (List ℕ) → List (List ℕ × ℕ)
unfolding kept
rows_of_length k n [] = []
rows_of_length k n (x ∷ xs) = kept (eqb (length x) k) (x, n) (rows_of_length k (suc n) xs)

-- The row beside a word, 31 where the word is not there.
unfoldable pub row_beside : List ℕ → List (List ℕ × ℕ) → ℕ
row_beside w [] = 31
row_beside w (p ∷ ps) = cond (bytes_eq p.0 w) p.1 (row_beside w ps)

other_length : (x w : List ℕ) → eqb (length x) (length w) ≡ false → bytes_eq x w ≡ false
other_length x w e = false_from_ne_true (bytes_eq x w) (λ t. true≢false (sym (eq-eqb _ _ (ap length ((bytes_eq-Decides x w).0 t))) ∙ e))

beside_kept :
    (w : List ℕ) (t : Bool) (p : List ℕ × ℕ) (ps : List (List ℕ × ℕ))
    → row_beside w (kept t p ps) ≡ cond t (cond (bytes_eq p.0 w) p.1 (row_beside w ps)) (row_beside w ps)
unfolding kept row_beside
beside_kept w true p ps = refl
beside_kept w false p ps = refl

-- Among the words of its own length a word has the row that it has among all.
beside_own_length :
    (w : List ℕ) (n : ℕ) (xs : List (List ℕ)) → n + length xs ≡ 31
    → row_beside w (rows_of_length (length w) n xs) ≡ n + index_of w xs
unfolding rows_of_length row_beside index_of
beside_own_length w n [] e = omega (arith, e)
beside_own_length w n (x ∷ xs) e =
    rw (beside_kept w (eqb (length x) (length w)) (x, n) (rows_of_length (length w) (suc n) xs))
    (go (eqb (length x) (length w)) (bytes_eq x w) (other_length x w) (beside_own_length w (suc n) xs (omega (arith, e))))
  where
    go :
        (t b : Bool) → (t ≡ false → b ≡ false)
        → row_beside w (rows_of_length (length w) (suc n) xs) ≡ suc n + index_of w xs
        → cond t (cond b n (row_beside w (rows_of_length (length w) (suc n) xs))) (row_beside w (rows_of_length (length w) (suc n) xs))
        ≡ n + cond b 0 (suc (index_of w xs))
    go true true f h = omega arith
    go true false f h = omega (arith, h)
    go false true f h = absurd (true≢false (f refl))
    go false false f h = omega (arith, h)

-- What is found in lines is in the row beside the word.
pub found_beside :
    (w : List ℕ) (ps : List Line)
    → row_in (option_map (λ (p : Line). p.1) (find (λ p. bytes_eq p.0.now w) ps)) ≡ row_beside w (map (λ p. (p.0.now, row p.1)) ps)
unfolding row_in row_beside
found_beside w [] = refl
found_beside w (p ∷ ps) = go (bytes_eq p.0.now w) (found_beside w ps)
  where
    go :
        (t : Bool)
        → row_in (option_map (λ (p : Line). p.1) (find (λ p. bytes_eq p.0.now w) ps)) ≡ row_beside w (map (λ p. (p.0.now, row p.1)) ps)
        → row_in (option_map (λ (p : Line). p.1) (cond t (Some p) (find (λ p. bytes_eq p.0.now w) ps)))
        ≡ cond t (row p.1) (row_beside w (map (λ p. (p.0.now, row p.1)) ps))
    go true h = refl
    go false h = h

-- A word of a length, looked up in the rows of the words of that length.
pub row_of_length :
    (w : List ℕ) {k : ℕ} (rs : List (List ℕ × ℕ)) → length w ≡ k → rs ≡ rows_of_length k 0 names → row_beside w rs ≡ row_of w
unfolding row_of names
row_of_length w rs l e = rw (e, ← l) (beside_own_length w 0 names refl ∙ zero-add (row_of w))

-- No name is of another length than 2 to 5.
no_rows :
    (k : ℕ) → (k ≡ 2 → ⊥) → (k ≡ 3 → ⊥) → (k ≡ 4 → ⊥) → (k ≡ 5 → ⊥) → rows_of_length k 0 names ≡ []
unfolding names rows_of_length
no_rows k a b c d =
    rw (ne_eqb 2 k (λ e. a (sym e)), ne_eqb 3 k (λ e. b (sym e)), ne_eqb 4 k (λ e. c (sym e)), ne_eqb 5 k (λ e. d (sym e))) refl

pub none_of_length :
    (w : List ℕ) → (length w ≡ 2 → ⊥) → (length w ≡ 3 → ⊥) → (length w ≡ 4 → ⊥) → (length w ≡ 5 → ⊥) → row_in None ≡ row_of w
unfolding row_of row_in row_beside names
none_of_length w a b c d =
    rw (no_rows (length w) a b c d) at (beside_own_length w 0 names refl ∙ zero-add (row_of w))
