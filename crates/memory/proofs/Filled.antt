-- Bytes put one behind the other in a lent buffer that is filled from its start on.
use Prim.Native.Nat.{ℕ, ◌≤◌}
use mathlib.Core.Path.{◌≡◌, refl, ◌∙◌}
use mathlib.Core.List.{List, [], ◌++◌, append_assoc}
use lib.ListN.{length, take}
use Rattle.memory.specs.declared.lent.Filling.{Filling}
use Rattle.memory.specs.Buffer.{Put}
use Rattle.memory.specs.Filled.{Filled}
use Rattle.memory.proofs.Buffer.{then, nothing_put, read_back}
use Rattle.memory.proofs.Determined.{put_determined}

pub nothing_filled : (t : Filling) → Filled t [] t
nothing_filled t = record { lent = refl; put = nothing_put t.out.now t.at }

pub then_filled : {t u v : Filling} {a b : List ℕ} → Filled t a u → Filled u b v → Filled t (a ++ b) v
then_filled p q = record { lent = q.lent ∙ p.lent; put = then p.put q.put }

-- In the middle of putting `all`: `rest` is not put yet.
pub record Underway (before : Filling) (all rest : List ℕ) (now : Filling) : Type 0 where
  pub front : List ℕ
  pub split : front ++ rest ≡ all
  pub filled : Filled before front now

pub begun : (t : Filling) (all : List ℕ) → Underway t all all t
begun t all = record { front = []; split = refl; filled = nothing_filled t }

module _ {t u v : Filling} {all rest : List ℕ} where
  pub further : {b : List ℕ} → Underway t all (b ++ rest) u → Filled u b v → Underway t all rest v
  further {b} w p = record { front = w.front ++ b; split = append_assoc w.front b rest ∙ w.split; filled = then_filled w.filled p }

  -- What is left is put at once.
  pub ended : Underway t all rest u → Filled u rest v → Filled t all v
  ended w p = rw w.split at (then_filled w.filled p)

-- What fills a buffer from its start on.
module _ {t u : Filling} {bytes before : List ℕ} (f : Filled t bytes u) (lent : t.out.now ≡ before) (start : t.at ≡ 0) where
  pub put_at_start : Put before 0 bytes u.at u.out.now
  put_at_start = rw (lent, start) at f.put

  -- Where there is room for it, it is all so far.
  pub so_far : length bytes ≤ length before → take u.at u.out.now ≡ bytes
  so_far h = read_back h put_at_start

-- Two answers that this allows coincide.
pub filled_determined :
    (before : Filling) (bytes : List ℕ) (after after' : Filling) → Filled before bytes after → Filled before bytes after' →
    (after.at ≡ after'.at) × (after.out.now ≡ after'.out.now)
filled_determined before bytes after after' p q = put_determined _ _ _ _ _ _ _ p.put q.put
