-- Bytes put one behind the other, and what they come to at the start of a buffer.
use Prim.Native.Nat.{ℕ, suc, ◌+◌, ◌≤◌, ◌<◌}
use native.Mathlib.Nat.{add-zero, zero-add}
use native.Mathlib.Numerals.{add-one}
use native.Mathlib.Omega.{arith}
use native.Mathlib.Decide.{dec_lt}
use mathlib.Core.Path.{◌≡◌, refl, sym, ap, ◌∙◌}
use mathlib.Core.List.{List, [], ◌∷◌, ◌++◌, append-nil}
use lib.ListN.{length, set, take, drop, length-append, drop_of_length-le}
use lib.Seq.{sets, sets-eq, set_out, length-sets, take_at, take-suc}
use Rattle.std.proofs.Common.{take-append-drop, slice_index_or}
use Rattle.memory.specs.Buffer.{Put}

sets_append : (l : List ℕ) (i : ℕ) (a b : List ℕ) → sets (sets l i a) (i + length a) b ≡ sets l i (a ++ b)
sets_append l i [] b = rw add-zero
sets_append l i (x ∷ a) b =
    let e : i + suc (length a) ≡ suc i + length a = omega arith in
    rw e (sets_append (set l i x) (suc i) a b)

sets_out : (l : List ℕ) (i : ℕ) (a : List ℕ) → length l ≤ i → sets l i a ≡ l
sets_out l i [] h = refl
sets_out l i (x ∷ a) h = rw (set_out l i x h) (sets_out l (suc i) a (omega arith))

-- Without room nothing is put.
pub no_room : {l : List ℕ} {at : ℕ} (a : List ℕ) → length l ≤ at → Put l at a at l
no_room {l} {at} a h = record { place = omega arith; stored = sym (sets_out l at a h) }

pub nothing_put : (l : List ℕ) (at : ℕ) → Put l at [] at l
nothing_put l at = record { place = omega arith; stored = refl }

one_put : (l : List ℕ) (at x : ℕ) → at < length l → Put l at (x ∷ []) (at + 1) (set l at x)
one_put l at x h = record { place = omega arith; stored = refl }

module _ {l m : List ℕ} {at n : ℕ} {a : List ℕ} (p : Put l at a n m) where
  pub same_room : length m ≡ length l
  same_room = ap length p.stored ∙ length-sets l at a

  -- Behind bytes that did not fit there is no room, nor where they would have ended.
  behind : (b : List ℕ) → sets m n b ≡ sets m (at + length a) b
  behind b = go (dec_lt (length l) (at + length a))
    where
      go : Dec (length l < at + length a) → sets m n b ≡ sets m (at + length a) b
      go (yes h) =
          sets_out m n b (omega (arith, p.place, same_room)) ∙ sym (sets_out m (at + length a) b (omega (arith, same_room)))
      go (no h) =
          let e : n ≡ at + length a = omega (arith, p.place) in
          rw e

  -- Bytes behind them.
  pub then : {b o : List ℕ} {k : ℕ} → Put m n b k o → Put l at (a ++ b) k o
  then {b} q =
      record {
        place = omega (arith, p.place, q.place, same_room, length-append a b);
        stored = q.stored ∙ (behind b ∙ rw p.stored (sets_append l at a b));
      }

-- The first k bytes are put: where there is no room behind them they are all that is, else one more follows.
module _ {l m : List ℕ} {at n : ℕ} (a : List ℕ) (k : ℕ) (p : Put l at (take k a) n m) where
  pub all_put : length m ≤ n → Put l at a n m
  all_put h = rw (take-append-drop k a) at (then p (no_room (drop k a) h))

  pub one_more : k < length a → n < length m → Put l at (take (k + 1) a) (n + 1) (set m n (slice_index_or a k 0))
  one_more h room =
      let next : take (k + 1) a ≡ take k a ++ (slice_index_or a k 0 ∷ []) = rw add-one (take-suc a k 0 h) in
      rw (sym next) at (then p (one_put m n (slice_index_or a k 0) room))

-- Bytes that fit stand at the start of the buffer.
module _ {bytes before after : List ℕ} {n : ℕ} (h : length bytes ≤ length before) (p : Put before 0 bytes n after) where
  pub whole : n ≡ length bytes
  whole = omega (arith, p.place)

  pub at_start : after ≡ bytes ++ drop (length bytes) before
  at_start = p.stored ∙ (sets-eq bytes before 0 (omega arith) ∙ rw (zero-add (length bytes)))

  pub read_back : take n after ≡ bytes
  read_back = rw at_start (take_at bytes _ n (sym whole))

-- Bytes that fill the buffer are all that it holds.
pub filled_up : {bytes before after : List ℕ} {n : ℕ} → length bytes ≡ length before → Put before 0 bytes n after → after ≡ bytes
filled_up {bytes} {before} e p =
    let past : length before ≤ length bytes = omega arith in
    at_start (omega arith) p ∙ rw (drop_of_length-le before past, append-nil)
