-- What a text comes to in a buffer.
use Prim.Native.Nat.{ℕ, ◌≤◌, ◌<◌}
use native.Mathlib.Omega.{arith}
use mathlib.Core.Path.{◌≡◌, refl}
use mathlib.Core.Bool.{Bool, true, false}
use mathlib.Core.List.{List}
use lib.Dec.{ltb}
use lib.ListN.{length}
use borrow.Author.Tests.{lt-ltb, le-ltb, ltb-false}
use Rattle.memory.specs.declared.lent.Filling.{Filling}
use Rattle.memory.specs.Buffer.{Put}
use Rattle.memory.specs.Filled.{Filled}
use Rattle.memory.proofs.Buffer.{at_start}
use Rattle.memory.proofs.Filled.{put_at_start}
use Rattle.std.specs.Prelude.{Option, Some, None}
use Rattle.report.specs.Buffer.{told, held, Made, Enough}

pub made :
    {text before after : List ℕ} {n k : ℕ} → n ≡ length text → n ≤ length before → Put before 0 text k after →
    Made text before (Some n) after
unfolding told held
made {text} {before} e h p =
    let fits : length text ≤ length before = omega arith in
    rw e
    record {
      answered = rw (le-ltb (length before) (length text) fits);
      lent = at_start fits p;
    }

-- By what fills the buffer from its start on, `o` being what the buffer then holds.
pub filled :
    {text before o : List ℕ} {t u : Filling} {n : ℕ} → n ≡ length text → n ≤ length before → t.out.now ≡ before → t.at ≡ 0 →
    Filled t text u → o ≡ u.out.now → Made text before (Some n) o
filled e h lent start f d = rw d (made e h (put_at_start f lent start))

pub too_small : {text before : List ℕ} → length before < length text → Made text before None before
unfolding told held
too_small {text} {before} h = record { answered = rw (lt-ltb (length before) (length text) h); lent = refl }

pub never_small :
    {text before after : List ℕ} {r : Option ℕ} {enough : ℕ} → length text ≤ enough → Made text before r after →
    Enough enough (length before) r
unfolding told Enough
never_small {text} {before} {after} {r} h m room small =
    let e : r ≡ Some (length text) = rw (le-ltb (length before) (length text) (omega arith)) at m.answered in
    let z : ◌≡◌ {A = ℕ} 0 1 = cc in
    omega arith

-- A text that was written lies within its buffer.
pub written_fits :
    {text before after : List ℕ} {r : Option ℕ} (n : ℕ) → Made text before r after → r ≡ Some n → n ≤ length before
unfolding told
written_fits {text} {before} {after} {r} n m e = go (ltb (length before) (length text)) refl
  where
    go : (t : Bool) → ltb (length before) (length text) ≡ t → n ≤ length before
    go true q =
        let small : r ≡ None = rw q at m.answered in
        cc
    go false q =
        let whole : r ≡ Some (length text) = rw q at m.answered in
        let same : n ≡ length text = cc in
        omega (arith, ltb-false (length before) (length text) q)

-- So does it in the buffer that it was written to.
pub written_within :
    {text before after : List ℕ} {n : ℕ} → length after ≡ length before → Made text before (Some n) after → n ≤ length after
written_within same m = omega (arith, written_fits _ m refl)
