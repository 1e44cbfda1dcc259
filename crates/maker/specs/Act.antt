-- 01, "The step maker": what an act answers, and what the lent buffer holds afterwards.
use Rattle.std.specs.Prelude.{ℕ, ◌≡◌, cond, List, ◌++◌, eqb, length, drop, Result, Ok, Err}
use Rattle.rules.specs.Maker.{act_refusal}

-- The refusal in an answer, 0 where it is none, and its count.
unfoldable pub refusal_in : Result ℕ ℕ → ℕ
refusal_in (Ok n) = 0
refusal_in (Err k) = k

unfoldable pub count_of : Result ℕ ℕ → ℕ
count_of (Ok n) = n
count_of (Err k) = 0

-- The answer of an act with these steps in so much room; `refused` is its own refusal, by 21 or 23, and 0 if none.
unfoldable pub made : ℕ → List ℕ → ℕ → Result ℕ ℕ
unfolding act_refusal
made refused steps room =
    let k = act_refusal refused steps room in
    cond (eqb k 0) (Ok (length steps)) (Err k)

-- "Nothing is then written, count 0; else bytes after the count stay."
unfoldable pub in_buffer : Result ℕ ℕ → List ℕ → List ℕ → List ℕ
unfolding refusal_in count_of
in_buffer r steps buffer = cond (eqb (refusal_in r) 0) (steps ++ drop (count_of r) buffer) buffer

-- An act's promise: the answer, and every byte of the buffer.
pub record Acted (refused : ℕ) (steps buffer : List ℕ) (r : Result ℕ ℕ) (after : List ℕ) : Type 0 where
  pub answer : r ≡ made refused steps (length buffer)
  pub bytes : after ≡ in_buffer r steps buffer
