-- A walk: what CLK's fall does where nothing is compared and nothing comes of the arrival, and what the pin shows there.
use Prim.Native.Nat.{ℕ, ◌+◌, ◌-◌, ◌≤◌, ◌<◌}
use native.Mathlib.Omega.{arith}
use native.Mathlib.Decide.{dec_lt}
use mathlib.Core.Path.{◌≡◌, refl, sym, ap, ◌∙◌}
use mathlib.Core.Bool.{Bool, true, false, not, ◌||◌, beq, false≢true}
use lib.Dec.{eqb}
use Rattle.std.specs.Prelude.{Option, Some, None}
use lib.Bits.{bit_and}
use borrow.Author.Tests.{ne_eqb, le-ltb, not-true}
use Rattle.memory.specs.Image.{digit, bit}
use Rattle.memory.proofs.Below.{all, below}
use Rattle.rules.specs.Zones.{between, zone}
use Rattle.rules.specs.Rights.{Held, held, level1, may_read}
use Rattle.rules.specs.Match.{compared, following, ends_match, arrived}
use Rattle.rules.specs.Steps.{with_volatile, unlatched, clocked}
use Rattle.theorems.proofs.Tests.{beq_true, below_then, neither_left, neither_right}
use Rattle.volatile.specs.Packed.{unpacked, Given, card_of, gone_on}
use Rattle.volatile.proofs.Between.{over}
use Rattle.volatile.proofs.Readable.{az_readable, sv_or_r1}
use Rattle.shown.specs.Shown.{plain_at, Reads, Shows}

-- A test of the addresses holds at all of `count` from `low` on, by one computed test.
over_range :
    (low count : ℕ) (t : Bool) → all count (λ (k : ℕ). beq (plain_at (low + k)) t) ≡ true → (a : ℕ) → low ≤ a → a < low + count →
    plain_at a ≡ t
over_range low count t e a h k =
    let there : low + (a - low) ≡ a = omega arith in
    beq_true (plain_at a) t (rw there at (below count (λ (k : ℕ). beq (plain_at (low + k)) t) e (a - low) (omega arith)))

-- None is past the last.
pub past_last : (a : ℕ) → 1520 ≤ a → plain_at a ≡ false
unfolding plain_at
past_last a h =
    rw (le-ltb a 80 (omega arith), over 105 175 a (omega arith), over 178 1198 a (omega arith), over 1233 1359 a (omega arith))
    (over 1361 1519 a (omega arith))

-- What the pin shows, by the rights to read.
module _ (a flags : ℕ) where
  -- Around the address, by one computed test.
  module _ (low count : ℕ) where
    pub no_walk_in : all count (λ (k : ℕ). beq (plain_at (low + k)) false) ≡ true → low ≤ a → a < low + count → plain_at a ≡ false
    no_walk_in e h k = over_range low count false e a h k

    module _ (e : all count (λ (k : ℕ). beq (plain_at (low + k)) true) ≡ true) (h : low ≤ a) (k : a < low + count) where
      pub shown : {bit : Bool} → ((h : Held) → may_read h (zone a) ≡ bit) → Reads a flags bit
      shown f = record { plain = over_range low count true e a h k; read = λ fuses v _ _. f (held fuses v) }

  -- AZ is read with SV or R1.
  module _ (low : 178 ≤ a) (top : a < 1199) where
    in_az : plain_at a ≡ true
    unfolding all plain_at between
    in_az = over_range 178 1021 true refl a low (omega arith)

    pub az_shown : Reads a flags (not (eqb (bit_and flags 5) 0))
    unfolding held
    az_shown =
        record {
          plain = in_az;
          read =
              λ fuses v sv r1.
              rw (az_readable (held fuses v) a (omega arith) (omega arith), sv, r1) (sym (sv_or_r1 flags));
        }

-- Demand 1: one answer alone tells what the pin shows.
pub shows_determined : (a flags : ℕ) (r r' : Option Bool) → Shows a flags r → Shows a flags r' → r ≡ r'
unfolding unpacked
shows_determined a flags (Some b) (Some b') p q =
    let some = unpacked (record { lines = 0; address = a; flags = flags }) in
    ap Some (sym (p.read 0 some refl refl) ∙ q.read 0 some refl refl)
shows_determined a flags (Some b) None p q = absurd (false≢true (sym q ∙ p.plain))
shows_determined a flags None (Some b) p q = absurd (false≢true (sym p ∙ q.plain))
shows_determined a flags None None p q = refl

-- An address that a walk comes to is none at which something comes of the arrival, and the one before it is none that is compared.
unfoldable quiet_from : ℕ → Bool
quiet_from a =
    let b = a + 1 in
    not (eqb b 104 || (eqb b 176 || (eqb b 177 || (eqb b 1232 || (eqb b 1360 || (between 80 95 a || between 1200 1231 a))))))

below_last : (a : ℕ) → plain_at (a + 1) ≡ true → a < 1519
below_last a e = go (dec_lt a 1519)
  where
    go : Dec (a < 1519) → a < 1519
    go (yes h) = h
    go (no h) = absurd (false≢true (sym (past_last (a + 1) (omega arith)) ∙ e))

quiet_from_lem : (a : ℕ) → plain_at (a + 1) ≡ true → quiet_from a ≡ true
unfolding all plain_at quiet_from between
quiet_from_lem a e = below_then 1519 (λ (x : ℕ). plain_at (x + 1)) quiet_from refl a (below_last a e) e

record Quiet (a : ℕ) : Type 0 where
  not_104 : eqb (a + 1) 104 ≡ false
  not_176 : eqb (a + 1) 176 ≡ false
  not_177 : eqb (a + 1) 177 ≡ false
  not_1232 : eqb (a + 1) 1232 ≡ false
  not_1360 : eqb (a + 1) 1360 ≡ false
  uncoded : between 80 95 a ≡ false
  unkeyed : between 1200 1231 a ≡ false

quiet : (a : ℕ) → plain_at (a + 1) ≡ true → Quiet a
unfolding quiet_from
quiet a e = let q = quiet_from_lem a e in search (not-true, neither_left, neither_right) depth 9

uncompared :
    (l1 sv latch stored : Bool) (a : ℕ) (matched : Bool) → plain_at (a + 1) ≡ true → compared l1 sv latch stored a matched ≡ matched
unfolding compared
uncompared l1 sv latch stored a matched plain = rw ((quiet a plain).uncoded, (quiet a plain).unkeyed)

counted : (a : ℕ) → plain_at (a + 1) ≡ true → following a ≡ a + 1
unfolding following
counted a plain = rw (ne_eqb a 1519 (omega (arith, below_last a plain)))

pub plain_clocked :
    (g : Given) (n : ℕ) → plain_at (g.half.address + 1) ≡ true →
    clocked n (card_of g) ≡ with_volatile (card_of g) (gone_on n (g.half.address + 1) (unpacked g.half))
unfolding clocked arrived unlatched ends_match gone_on unpacked
plain_clocked g n plain =
    let a = g.half.address in
    let flags = g.half.flags in
    let level = level1 (held g.fuses (unpacked g.half)) in
    let q = quiet a plain in
    rw (
      uncompared level (digit 0 flags) (digit 4 flags) (bit g.memory a) a (digit 6 flags) plain,
      counted a plain,
      ne_eqb (a + 1) 0 (omega arith),
      q.not_104,
      q.not_176,
      q.not_177,
      q.not_1232,
      q.not_1360,
    )
