-- The lines of a text, one after the other.
use Prim.Native.Nat.{ℕ, ◌+◌, ◌≤◌, ◌<◌}
use mathlib.Core.Path.{◌≡◌, refl, ◌∙◌}
use mathlib.Core.Bool.{Bool, true, false, cond}
use mathlib.Core.List.{List, [], ◌∷◌}
use native.Mathlib.Numerals.{add-one}
use native.Mathlib.Omega.{arith}
use lib.Dec.{eqb}
use lib.ListN.{length, get_or, drop, drop_of_length-le}
use lib.Seq.{drop-cons}
use denote.Param.Members.{Mut}
use denote.Ref.{Bor}
use Rattle.std.specs.Fn.{CalledAt}
use Rattle.std.specs.Slice.Iter as slice
use Rattle.std.specs.Iterator.Adapters.{enumerate_source, enumerate_count, enumerate_steps}
use Rattle.std.specs.declared.iter.Enumerate.{Enumerate}
use Rattle.std.proofs.lemmas.Iterator.{YieldsList}
use Rattle.std.proofs.lemmas.Iterator.Consumers.{YieldsList-at, YieldsList-from_enumerate}
use Rattle.std.proofs.lemmas.Iterator.Splits.{YieldsList-from_slice_split}
use Rattle.std.proofs.Common.{zero-add, ap}
use Rattle.std.proofs.lemmas.List.FromFn.{length-enumerate_from, get_or-enumerate_from}
use Rattle.std.specs.List.{slice_split, onto_first, enumerate_from}
use Rattle.words.specs.Scan.{joined, lines_of}
use Rattle.text_lines.specs.Orders.{line_order}
use Rattle.text.specs.Sheet.{Sheet, Outcome, Went, Stopped, blank_sheet, obeyed}
use Rattle.text.specs.Meaning.{Whole, Amiss, onward, reading, meaning}

-- The lines are the parts of the text at each LF.
pub lines_split : (s : List ℕ) → lines_of s ≡ slice_split (λ b. eqb b 10) s
unfolding lines_of joined
lines_split [] = refl
lines_split (b ∷ s) = rw (lines_split s) (go (eqb b 10) (slice_split (λ c. eqb c 10) s))
  where
    go : (t : Bool) (ls : List (List ℕ)) → cond t ([] ∷ ls) (joined b ls) ≡ cond t ([] ∷ ls) (onto_first b ls)
    go true ls = refl
    go false [] = refl
    go false (l ∷ ls) = refl

-- Line l is the next, and k says so.
pub record Turn (text : List ℕ) (n k : ℕ) (l : List ℕ) : Type 0 where
  pub within : n < length (lines_of text)
  pub number : k ≡ n
  pub line : l ≡ get_or (lines_of text) n l

-- The parts with their numbers.
abbrev pub parts : List ℕ → List (ℕ × List ℕ)
parts text = enumerate_from 0 (slice_split (λ b. eqb b 10) text)

-- What the code goes over: the parts at each LF, and their numbers.
pub given :
    {F : Type 0} {g : Mut F (Bor ℕ × Unit {0}) Bool} {f : F} {cut : _} {e s : Enumerate _} (text : List ℕ) → s ≡ e
    → enumerate_source e ≡ cut → enumerate_count e ≡ 0 → slice.split_rest cut ≡ text → slice.split_done cut ≡ false
    → slice.split_callee cut ≡ f → ((x : ℕ) (b : Bool) (q : F) → CalledAt g f x b q → (q ≡ f) × (b ≡ eqb x 10))
    → YieldsList (enumerate_steps (slice.split_steps g)) (λ p. (p.0, p.1.now)) s (parts text)
given text same source count rest done callee test =
    YieldsList-at same
    (YieldsList-from_enumerate (YieldsList-at source (YieldsList-from_slice_split _ (λ b. eqb b 10) text rest done callee test)) count)

pub turn :
    (text : List ℕ) (n k : ℕ) (l : List ℕ)
    → (n < length (parts text)) × (◌≡◌ {A = ℕ × List ℕ} (k, l) (get_or (parts text) n (k, l))) → Turn text n k l
turn text n k l (h, e) =
    let ls = slice_split (λ b. eqb b 10) text in
    let within : n < length ls = omega (arith, length-enumerate_from 0 ls) in
    let at : ◌≡◌ {A = ℕ × List ℕ} (k, l) (0 + n, get_or ls n l) = e ∙ get_or-enumerate_from 0 ls n (k, l) within in
    record {
      within = rw (lines_split text) within;
      number = ap (λ (p : ℕ × List ℕ). p.0) at ∙ zero-add n;
      line = rw (lines_split text) (ap (λ (p : ℕ × List ℕ). p.1) at);
    }

pub all_read : (text : List ℕ) (n : ℕ) → n ≡ length (parts text) → length (lines_of text) ≤ n
all_read text n e =
    let ls = slice_split (λ b. eqb b 10) text in
    rw (lines_split text) (omega (arith, length-enumerate_from 0 ls, e))

-- n lines are read, and the rest comes to what the whole comes to.
pub record Underway (text : List ℕ) (s : Sheet) (n : ℕ) : Type 0 where
  pub same : reading (n + 1) s (drop n (lines_of text)) ≡ meaning text

pub begun : (text : List ℕ) → Underway text blank_sheet 0
unfolding meaning
begun text = record { same = refl }

module _ {text : List ℕ} {s : Sheet} {n : ℕ} (u : Underway text s n) where
  pub at_end : length (lines_of text) ≤ n → Whole s ≡ meaning text
  unfolding reading
  at_end h = rw (drop_of_length-le (lines_of text) h) at u.same

  -- Line l is read, and what its order comes to decides.
  module _ {k : ℕ} {l : List ℕ} (t : Turn text n k l) where
    first : reading (n + 1) s (l ∷ drop (n + 1) (lines_of text)) ≡ meaning text
    first = rw (drop-cons (lines_of text) n l t.within, ← t.line, ← add-one n) at u.same

    at_line :
        (o : Outcome) → o ≡ obeyed (line_order l) s
        → onward (n + 1) o (λ t. reading (n + 1 + 1) t (drop (n + 1) (lines_of text))) ≡ meaning text
    unfolding reading
    at_line o e = rw (e, add-one (n + 1)) first

    pub amiss : (refusal : ℕ) → Stopped refusal ≡ obeyed (line_order l) s → Amiss (k + 1) refusal ≡ meaning text
    unfolding onward
    amiss refusal e = rw t.number (at_line (Stopped refusal) e)

    pub again : (s' : Sheet) → Went s' ≡ obeyed (line_order l) s → Underway text s' (n + 1)
    unfolding onward
    again s' e = record { same = at_line (Went s') e }
