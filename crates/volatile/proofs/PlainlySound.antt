-- A half that passes the few tests is no made-up state.
use Prim.Native.Nat.{ℕ, ◌≤◌, ◌<◌}
use native.Mathlib.Omega.{arith}
use mathlib.Core.Path.{◌≡◌, refl}
use mathlib.Core.Bool.{Bool, true, false, not, ◌&&◌, ◌||◌}
use lib.Dec.{ltb}
use borrow.Author.Tests.{ltb-false, le-ltb, not-true}
use Rattle.memory.specs.Image.{digit}
use Rattle.memory.proofs.Below.{and_left, and_right}
use Rattle.rules.specs.Lines.{high, place}
use Rattle.rules.specs.Refusals.{made_up}
use Rattle.theorems.proofs.Tests.{all, below₂}
use Rattle.volatile.specs.declared.Volatile.{Volatile}
use Rattle.volatile.specs.Packed.{unpacked, made_up_word, wired, plainly_sound}

-- What the tests of the words leave of 9's clauses.
clear : ℕ → ℕ → Bool
clear l f =
    digit 0 l &&
    (not (digit 4 f && not (digit 2 l)) &&
    (not (digit 3 f && not (digit 2 l)) && (not (digit 2 l && (digit 3 l && not (digit 3 f))) && (not (digit 6 f) && not (digit 5 f)))))

cleared_by : (l f : ℕ) → l < 64 → f < 32 → (not (wired l f) || clear l f) ≡ true
unfolding all wired clear digit
cleared_by = below₂ 64 32 (λ l f. not (wired l f) || clear l f) refl

-- Booleans taken apart, from the outermost.
both : (a b : Bool) → (a && b) ≡ true → (a ≡ true) × (b ≡ true)
both a b e = (and_left a b e, and_right a b e)

module _ (v : Volatile) where
  clear_sound : v.lines < 64 → v.flags < 32 → v.address ≤ 1519 → clear v.lines v.flags ≡ true → made_up_word v ≡ false
  unfolding clear made_up_word made_up unpacked high place
  clear_sound l f a e =
      let vcc = both (digit 0 v.lines) _ e in
      let latch = both (not (digit 4 v.flags && not (digit 2 v.lines))) _ vcc.1 in
      let under_way = both (not (digit 3 v.flags && not (digit 2 v.lines))) _ latch.1 in
      let started = both (not (digit 2 v.lines && (digit 3 v.lines && not (digit 3 v.flags)))) _ under_way.1 in
      let matched = both (not (digit 6 v.flags)) _ started.1 in
      rw (
        le-ltb 127 v.flags (omega arith),
        le-ltb 63 v.lines (omega arith),
        le-ltb 1519 v.address a,
        not-true (digit 4 v.flags && not (digit 2 v.lines)) latch.0,
        not-true (digit 3 v.flags && not (digit 2 v.lines)) under_way.0,
        vcc.0,
        not-true (digit 2 v.lines && (digit 3 v.lines && not (digit 3 v.flags))) started.0,
        not-true (digit 6 v.flags) matched.0,
        not-true (digit 5 v.flags) matched.1,
      )

  pub plainly_sound_lem : plainly_sound v ≡ true → made_up_word v ≡ false
  unfolding plainly_sound
  plainly_sound_lem e =
      let lines = both (not (ltb 63 v.lines)) _ e in
      let flags = both (not (ltb 31 v.flags)) _ lines.1 in
      let rest = both (not (ltb 1519 v.address)) _ flags.1 in
      let l = ltb-false 63 v.lines (not-true _ lines.0) in
      let f = ltb-false 31 v.flags (not-true _ flags.0) in
      let small : v.lines < 64 = omega arith in
      let few : v.flags < 32 = omega arith in
      clear_sound small few (ltb-false 1519 v.address (not-true _ rest.0))
      (rw rest.1 at (cleared_by v.lines v.flags small few))
