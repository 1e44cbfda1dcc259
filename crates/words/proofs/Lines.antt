-- The first line of a text, and the lines after it.
use Prim.Native.Nat.{ℕ, suc, ◌-◌}
use mathlib.Core.Path.{◌≡◌, refl}
use mathlib.Core.Bool.{Bool, true, false, cond}
use mathlib.Core.List.{List, [], ◌∷◌}
use native.Mathlib.Omega.{arith}
use lib.Dec.{eqb, eqb-suc-suc, eqb-zero-suc}
use lib.ListN.{length, take, drop, length-drop}
use lib.Seq.{take_all}
use Rattle.words.specs.Scan.{stops_at, ahead_of, up_to, joined, lines_of}
use Rattle.words.specs.declared.Stop.TheVariants.{LineEnd}

-- A part up to the end is what is left.
pub rest_of : (n : ℕ) (s : List ℕ) → take (length s - n) (drop n s) ≡ drop n s
rest_of n s = take_all (length s - n) (drop n s) (omega (arith, length-drop n s))

-- The lines after the first, which has n bytes.
abbrev pub lines_after : ℕ → List ℕ → List (List ℕ)
lines_after n s = cond (eqb n (length s)) [] (lines_of (drop (suc n) s))

pub lines_first : (s : List ℕ) → lines_of s ≡ up_to LineEnd s ∷ lines_after (ahead_of LineEnd s) s
unfolding lines_of joined up_to ahead_of
lines_first [] = refl
lines_first (b ∷ s) = go (stops_at LineEnd b) (lines_first s)
  where
    go :
        (t : Bool) → lines_of s ≡ take (ahead_of LineEnd s) s ∷ lines_after (ahead_of LineEnd s) s
        → cond t ([] ∷ lines_of s) (joined b (lines_of s))
        ≡ take (cond t 0 (suc (ahead_of LineEnd s))) (b ∷ s) ∷ lines_after (cond t 0 (suc (ahead_of LineEnd s))) (b ∷ s)
    go true e = rw (eqb-zero-suc (length s)) refl
    go false e = rw (eqb-suc-suc (ahead_of LineEnd s) (length s), e) refl
