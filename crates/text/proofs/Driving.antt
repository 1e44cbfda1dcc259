-- What the maker wrote after the steps so far is the sheet's new steps.
use Prim.Native.Nat.{ℕ, ◌+◌, ◌-◌, ◌≤◌}
use mathlib.Core.Path.{◌≡◌, refl, sym, ◌∙◌}
use mathlib.Core.Bool.{Bool, true, false, cond}
use mathlib.Core.List.{List, ◌++◌, append_assoc}
use native.Mathlib.Nat.{lt_irrefl}
use native.Mathlib.Omega.{arith}
use borrow.Author.Tests.{eqb-true, eqb-false, ltb-false}
use borrow.Rule.Slice.PartMut.{mid_of, put_mid}
use lib.Dec.{eqb, ltb}
use lib.ListN.{length, get_or, take, drop, length-append, length-drop}
use lib.Seq.{length-take-le, take_at}
use Rattle.rules.specs.Maker.{act_refusal}
use Rattle.rules.specs.Refusals.{longest}
use Rattle.maker.specs.Act.{made, in_buffer, Acted}
use Rattle.std.specs.Prelude.{Result, Ok, Err}
use Rattle.text_lines.specs.declared.Act.{Act}
use Rattle.text_steps.specs.Steps.{steps_of, refusal_of}
use Rattle.text.specs.Sheet.{Sheet, Went, Stopped, present, added, attempts_at, driven}

-- So many steps were written, and there was room for them.
pub record Fitted (xs : List ℕ) (room n : ℕ) : Type 0 where
  pub counted : n ≡ length xs
  pub roomy : length xs ≤ room

fits : (refusal room : ℕ) (xs : List ℕ) → act_refusal refusal xs room ≡ 0 → length xs ≤ room
unfolding act_refusal
fits refusal room xs e = ltb-false room (length xs) (go (eqb refusal 0) (ltb room (length xs)) refl e)
  where
    go : (t u : Bool) → eqb refusal 0 ≡ t → cond t (cond u 22 0) refusal ≡ 0 → u ≡ false
    go true false p q = refl
    go true true p q = absurd (lt_irrefl 0 (omega (arith, q)))
    go false u p q = absurd (eqb-false refusal 0 p q)

pub wrote : (refusal room n : ℕ) (xs : List ℕ) → made refusal xs room ≡ Ok n → Fitted xs room n
unfolding made
wrote refusal room n xs e = go (eqb (act_refusal refusal xs room) 0) refl e
  where
    go :
        (t : Bool) → eqb (act_refusal refusal xs room) 0 ≡ t
        → cond t (Ok (length xs)) (Err (act_refusal refusal xs room)) ≡ Ok n → Fitted xs room n
    go true z q = record { counted = cc; roomy = fits refusal room xs (eqb-true (act_refusal refusal xs room) 0 z) }
    go false z q = cc

-- The steps after those so far.
joined :
    (a xs rest post : List ℕ) (k n : ℕ) → length a ≡ k → n ≡ length xs
    → take (k + n) (a ++ ((xs ++ rest) ++ post)) ≡ a ++ xs
joined a xs rest post k n e f =
    rw (append_assoc xs rest post, ← append_assoc a xs (rest ++ post))
    (take_at (a ++ xs) (rest ++ post) (k + n) (length-append a xs ∙ omega (arith, e, f)))

module _ (act : Act) (image steps : List ℕ) (fuses count : ℕ) where
  -- The sheet with the steps so far.
  abbrev pub so_far : Sheet
  so_far = record { image = image; fuses = fuses; steps = take count steps }

  -- The part of the array after them.
  abbrev pub free : List ℕ
  free = mid_of count (longest - count) steps

  -- The act's steps, and its refusal, after them.
  abbrev pub act_steps : List ℕ
  act_steps = steps_of act (present (take count steps)) (get_or image attempts_at 0)

  abbrev pub its_refusal : ℕ
  its_refusal = refusal_of act (present (take count steps)) (get_or image attempts_at 0)

  -- What the maker did there: it answered r and left `after`.
  pub record Turn (r : Result ℕ ℕ) (after : List ℕ) : Type 0 where
    pub full : length steps ≡ longest
    pub within : count ≤ longest
    pub acted : Acted its_refusal act_steps free r after

pub turn :
    (act : Act) (image steps : List ℕ) (fuses count lines : ℕ) (r : Result ℕ ℕ) (after : List ℕ)
    → length steps ≡ longest → count ≤ longest → lines ≡ present (take count steps)
    → (let attempts = get_or image attempts_at 0 in
    Acted (refusal_of act lines attempts) (steps_of act lines attempts) (mid_of count (longest - count) steps) r after)
    → Turn act image steps fuses count r after
turn act image steps fuses count lines r after f w e a = record { full = f; within = w; acted = rw e at a }

module _ {act : Act} {image steps : List ℕ} {fuses count : ℕ} {r : Result ℕ ℕ} {after : List ℕ}
    (t : Turn act image steps fuses count r after) where
  sofar : length (take count steps) ≡ count
  sofar = length-take-le count steps (omega (arith, t.full, t.within))

  free_length : length (free act image steps fuses count) ≡ longest - count
  free_length = length-take-le (longest - count) (drop count steps) (omega (arith, length-drop count steps, t.full))

  reached :
      driven act (so_far act image steps fuses count)
      ≡ added r (act_steps act image steps fuses count) (so_far act image steps fuses count)
  unfolding driven
  reached = rw (sofar, t.acted.answer, free_length) refl

  pub came_to_a_stop : {k : ℕ} → r ≡ Err k → Stopped k ≡ driven act (so_far act image steps fuses count)
  unfolding added
  came_to_a_stop e = sym (reached ∙ rw e refl)

  module _ (n : ℕ) (e : r ≡ Ok n) where
    fitted : Fitted (act_steps act image steps fuses count) (length (free act image steps fuses count)) n
    fitted = wrote _ _ n _ (sym t.acted.answer ∙ e)

    pub more_fits : count + n ≤ longest
    more_fits = omega (arith, fitted.counted, fitted.roomy, free_length, t.within)

    pub came_on :
        Went (record { image = image; fuses = fuses; steps = take (count + n) (put_mid count (longest - count) steps after) })
        ≡ driven act (so_far act image steps fuses count)
    unfolding added in_buffer
    came_on =
        let b : after ≡ act_steps act image steps fuses count ++ drop n (free act image steps fuses count) =
        t.acted.bytes ∙ rw e refl in
        let j :
        take (count + n) (put_mid count (longest - count) steps after) ≡ take count steps ++ act_steps act image steps fuses count =
        rw b (joined (take count steps) _ _ _ count n sofar fitted.counted) in
        rw (j, reached, e) refl
