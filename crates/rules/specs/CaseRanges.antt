-- What a claim goes over, and lists that repeat.
use Rattle.std.specs.Prelude.{ℕ, zero, suc, ◌-◌, Bool, true, ◌&&◌, List, [], ◌∷◌, ◌++◌}

-- It holds of each of the `count` numbers from `first` on.
unfoldable pub each_from : ℕ → ℕ → (ℕ → Bool) → Bool
each_from first zero f = true
each_from first (suc count) f = f first && each_from (suc first) count f

-- Of each number from `low` to `high`.
unfoldable pub each_in : ℕ → ℕ → (ℕ → Bool) → Bool
unfolding each_from
each_in low high f = each_from low (suc high - low) f

-- Of each member of a list.
unfoldable pub each_of : {A : Type 0} → List A → (A → Bool) → Bool
each_of [] f = true
each_of (x ∷ xs) f = f x && each_of xs f

-- A list so many times.
unfoldable pub times : {A : Type 0} → ℕ → List A → List A
times zero xs = []
times (suc n) xs = xs ++ times n xs
