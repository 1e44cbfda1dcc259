-- A line in a buffer that it may not fit: a front of it stands there, and is told.
use Rattle.std.proofs.Common.{◌≡◌, Result, Ok, Err, Option, ℕ, ◌≤◌, List, ◌++◌, length, take, drop, refl, sym, ◌∙◌, arith, take_all, take-take, take-append-drop, length-take, length-take-le}
use native.Mathlib.Decide.{dec_le}
use lib.Seq.{sets}
use Rattle.memory.specs.Buffer.{Put}
use Rattle.memory.proofs.Buffer.{then, no_room, same_room, filled_up, whole, read_back}
use Rattle.memory.proofs.Determined.{put_determined}
use Rattle.console.specs.Told.{Told}
use Rattle.console.specs.Ends.{AsFarAs}

cut : {room after bytes : List ℕ} {n : ℕ} → length room ≤ length bytes → Put room 0 bytes n after → take n after ≡ take n bytes
cut {room} {after} {bytes} {n} over p =
    let kept = take (length room) bytes in
    let rest = drop (length room) bytes in
    let full : length kept ≡ length room = length-take-le (length room) bytes over in
    let stored = sets room 0 kept in
    let first : Put room 0 kept (length room) stored = record { place = omega arith; stored = refl } in
    let both : Put room 0 (kept ++ rest) (length room) stored =
    then first (no_room rest (omega (arith, same_room first))) in
    let whole_line : Put room 0 bytes (length room) stored = rw (take-append-drop (length room) bytes) at both in
    let same = put_determined room 0 bytes n (length room) after stored p whole_line in
    rw (same.0, same.1, filled_up full first) (take_all _ _ (omega arith))

-- At its front stand the bytes, as many as there is room for.
pub at_front : {room after bytes : List ℕ} {n : ℕ} → Put room 0 bytes n after → take n after ≡ take n bytes
at_front {room} {after} {bytes} {n} p = go (dec_le (length bytes) (length room))
  where
    go : Dec (length bytes ≤ length room) → take n after ≡ take n bytes
    go (yes h) = read_back h p ∙ sym (take_all n bytes (omega (arith, whole h p)))
    go (no h) = cut (omega arith) p

pub told :
    {A E : Type 0} (whole : Result A E) (before after : Option (List ℕ)) (line : List ℕ) (n : ℕ)
    → AsFarAs whole before after (take n line) → Told before after line
told (Ok done) before after line n h = (n, h)
told (Err e) before after line n (k, h) = go (dec_le k n)
  where
    go : Dec (k ≤ n) → Told before after line
    go (yes l) = (k, rw (take-take k n line l) at h)
    go (no l) = (n, rw (take_all k (take n line) (omega (arith, length-take n line))) at h)
