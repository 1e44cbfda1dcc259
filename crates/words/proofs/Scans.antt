-- How many bytes stand before the first at which a scan stops.
use Prim.Native.Nat.{ℕ, suc, ◌≤◌, ◌<◌}
use mathlib.Core.Path.{◌≡◌, refl}
use mathlib.Core.Bool.{Bool, true, false, cond}
use mathlib.Core.List.{List, [], ◌∷◌}
use native.Mathlib.Omega.{arith}
use lib.ListN.{length}
use Rattle.std.specs.Prelude.{Option, unwrap_or}
use Rattle.std.specs.Option.{MatchOption}
use Rattle.std.specs.List.{HoldsAt, AllWithin}
use Rattle.std.proofs.lemmas.Iterator.{index_from_first}
use Rattle.words.specs.Scan.{stops_at, ahead_of}
use Rattle.words.specs.declared.Stop.{Stop}

-- The first that is found is the one that the definition counts to.
pub ahead_found :
    (x : Stop) (s : List ℕ) (r : Option ℕ)
    → MatchOption r (AllWithin (λ b. stops_at x b ≡ false) s 0 (length s))
    (λ i. (i < length s) × HoldsAt (λ b. stops_at x b ≡ true) s i × AllWithin (λ b. stops_at x b ≡ false) s 0 i)
    → ahead_of x s ≡ unwrap_or r (length s)
unfolding ahead_of
ahead_found x s r found =
    index_from_first (ahead_of x) (λ b. stops_at x b ≡ true) (λ b. stops_at x b ≡ false) refl (λ b l e. rw e refl)
    (λ b l e. rw e (omega arith)) s r found

pub ahead_le : (x : Stop) (s : List ℕ) → ahead_of x s ≤ length s
unfolding ahead_of
ahead_le x [] = omega arith
ahead_le x (b ∷ s) = go (stops_at x b) (ahead_le x s)
  where
    go : (t : Bool) → ahead_of x s ≤ length s → cond t 0 (suc (ahead_of x s)) ≤ suc (length s)
    go true h = omega arith
    go false h = omega arith
