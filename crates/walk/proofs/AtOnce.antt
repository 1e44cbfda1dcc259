-- A walk told at once: the tests before it let no other step pass, and what it tells is the step's own.
use Prim.Native.Nat.{ℕ, ◌+◌, ◌/◌, ◌<◌}
use native.Mathlib.Omega.{arith}
use mathlib.Core.Path.{◌≡◌, refl, sym, ap, ◌∙◌}
use mathlib.Core.Bool.{Bool, true, false, cond, not, ◌&&◌, ◌||◌}
use lib.Dec.{eqb, ltb}
use lib.Bits.{bit_and, bit_xor, xor_comm, and_le_r}
use Rattle.std.specs.Prelude.{Some}
use Rattle.std.proofs.lemmas.Option.{cond_some}
use borrow.Author.Tests.{eqb-true, eq-eqb, ltb-true, le-ltb, leb-true, not-true}
use Rattle.memory.specs.Image.{digit, bit}
use Rattle.memory.proofs.Below.{all, and_left, and_right}
use Rattle.rules.specs.Halves as Halves
use Rattle.rules.specs.Lines.{CLK, VCC, PGM, place, mask, high}
use Rattle.rules.specs.Zones.{zone}
use Rattle.rules.specs.Rights.{held, may_read}
use Rattle.rules.specs.Steps.{clk_rises, with_volatile, next, driven, pin_value, pin}
use Rattle.theorems.proofs.Tests.{below_then, below₂}
use Rattle.volatile.specs.declared.Volatile.{Volatile}
use Rattle.volatile.specs.Packed.{packed, unpacked, Given, card_of, with_half, wired, plainly_sound, gone_on}
use Rattle.volatile.proofs.Packing.{unpacked_packed}
use Rattle.volatile.proofs.Sums.{ready}
use Rattle.refusals.specs.Before.{given_refusal}
use Rattle.refusals.proofs.Laws.{none_refused, ready_at}
use Rattle.shown.specs.Shown.{plain_at, Reads}
use Rattle.walk.specs.declared.Walked.{Walked}
use Rattle.volatile.specs.Inner.{Ready, Steps}
use Rattle.walk.specs.Calls.{calm, walked_to, walks, walk_to, walk_of}
use Rattle.walk.specs.Inside.{walked_half, Calm}
use Rattle.edge_laws.proofs.Turned.{Turned, small_step, turned_by_mask}
use Rattle.edge_laws.proofs.ByLine.{Goes, goes_to, clk_rises_lem, clk_walks}
use Rattle.shown.proofs.Plain.{plain_clocked}

-- The address of the half after a walk.
pub comes_there : (v : Volatile) (n : ℕ) → (walked_half v n).address ≡ walked_to v.address n
unfolding walked_half walked_to packed clk_rises gone_on unpacked
comes_there v n = go (digit 2 n)
  where
    go :
        (up : Bool)
        → (cond up (clk_rises n (unpacked v)) (gone_on n (v.address + 1) (unpacked v))).address ≡ cond up v.address (v.address + 1)
    go true = refl
    go false = refl

-- VCC on, RST and PGM low, and no bit that is no line.
pub record Still (n : ℕ) : Type 0 where
  pub small : n < 64
  pub ready_lines : bit_and n 11 ≡ 1
  pub vcc : high VCC n ≡ true
  pub rst : digit 1 n ≡ false
  pub pgm : high PGM n ≡ false

unfoldable still_at : ℕ → Bool
still_at n = ltb n 64 && (eqb (bit_and n 11) 1 && (digit 0 n && (not (digit 1 n) && not (digit 3 n))))

still_byte : (n : ℕ) → n < 256 → bit_and n 203 ≡ 1 → still_at n ≡ true
unfolding all digit still_at
still_byte n h e = below_then 256 (λ x. eqb (bit_and x 203) 1) still_at refl n h (eq-eqb (bit_and n 203) 1 e)

still : (n : ℕ) → n < 256 → bit_and n 203 ≡ 1 → Still n
unfolding high place still_at
still n h e = let a = still_byte n h e in search (and_left, and_right, ltb-true, eqb-true, not-true) depth 7

-- The flags of a walk stand with these levels, and no programming is under way.
unfoldable flags_calm : ℕ → ℕ → Bool
flags_calm levels flags = digit 0 levels && (not (digit 3 levels) && (eqb (flags / 8) 0 || eqb (flags / 8) (bit_and levels 4 / 2)))

calm_wired :
    (levels flags : ℕ) → levels < 64 → flags < 32 →
    (not (flags_calm levels flags) || (wired levels flags && not (digit 3 flags))) ≡ true
unfolding all flags_calm wired digit
calm_wired = below₂ 64 32 (λ l f. not (flags_calm l f) || (wired l f && not (digit 3 f))) refl

-- Flags that are divided to 0 or to a digit of the levels are few.
few_flags : (levels flags : ℕ) → (eqb (flags / 8) 0 || eqb (flags / 8) (bit_and levels 4 / 2)) ≡ true → flags < 32
few_flags levels flags = go (eqb (flags / 8) 0) refl
  where
    go : (t : Bool) → eqb (flags / 8) 0 ≡ t → (t || eqb (flags / 8) (bit_and levels 4 / 2)) ≡ true → flags < 32
    go true e _ = omega (arith, eqb-true (flags / 8) 0 e)
    go false e q = omega (arith, eqb-true (flags / 8) (bit_and levels 4 / 2) q, and_le_r levels 4)

module _ {g : Given} {n : ℕ} (c : Calm g n) where
  abbrev l : ℕ
  l = g.half.lines

  abbrev flags : ℕ
  flags = g.half.flags

  levels : Still n
  levels = still n c.byte c.still

  clock_alone : bit_xor l n ≡ 4
  unfolding calm
  clock_alone = eqb-true (bit_xor l n) 4 (and_left (eqb (bit_xor l n) 4) _ c.turns)

  small : l < 64
  small = small_step n l levels.small (rw (xor_comm n l, clock_alone) (omega arith))

  plain_flags : (eqb (flags / 8) 0 || eqb (flags / 8) (bit_and l 4 / 2)) ≡ true
  unfolding calm
  plain_flags = and_right (eqb (bit_xor l n) 4) _ c.turns

  t : Turned CLK l n
  unfolding mask place
  t = turned_by_mask CLK l n small clock_alone

  calm_here : flags_calm l flags ≡ true
  unfolding flags_calm high place
  calm_here = rw (sym (t.others VCC refl) ∙ levels.vcc, sym (t.others PGM refl) ∙ levels.pgm) plain_flags

  wired_idle : (wired l flags && not (digit 3 flags)) ≡ true
  wired_idle = rw calm_here at (calm_wired l flags small (few_flags l flags plain_flags))

  unrefused : given_refusal g ≡ 0
  unfolding plainly_sound
  unrefused =
      none_refused g c.sized c.fused
      (rw (
        le-ltb 63 l (omega (arith, small)),
        le-ltb 31 flags (omega (arith, few_flags l flags plain_flags)),
        le-ltb 1519 g.half.address (omega (arith, c.address)),
      )
      (and_left (wired l flags) _ wired_idle))

  is_ready : Ready g (pin (card_of g))
  is_ready = ready_at g (pin (card_of g)) unrefused refl

  idle : (unpacked g.half).programming ≡ false
  unfolding unpacked
  idle = not-true (digit 3 flags) (and_right (wired l flags) _ wired_idle)

  -- The half after CLK's rise or fall.
  abbrev after : Bool → Halves.Volatile
  after up = cond up (clk_rises n (unpacked g.half)) (gone_on n (g.half.address + 1) (unpacked g.half))

  goes_by : (up : Bool) → digit 2 n ≡ up → plain_at (after up).address ≡ true → Goes is_ready n (after up)
  unfolding high place gone_on
  goes_by true e _ = clk_rises_lem is_ready n t levels.vcc e
  goes_by false e plain =
      clk_walks is_ready n t levels.vcc e idle levels.rst (after false) (plain_clocked g n plain)

  walk_goes : plain_at (walked_half g.half n).address ≡ true → Goes is_ready n (after (digit 2 n))
  unfolding walked_half packed
  walk_goes plain = goes_by (digit 2 n) refl plain

  -- What the pin shows after it.
  as_held :
      (u : Halves.Volatile) {b : Bool} → Reads u.address (packed u).flags b →
      may_read (held g.fuses u) (zone u.address) ≡ b
  unfolding unpacked
  as_held u reads =
      reads.read g.fuses u (ap (λ (v : Halves.Volatile). v.sv) (sym (unpacked_packed u)))
      (ap (λ (v : Halves.Volatile). v.r1) (sym (unpacked_packed u)))

  pin_by :
      (up : Bool) {b : Bool} → Reads (after up).address (packed (after up)).flags b →
      pin (with_volatile (card_of g) (after up)) ≡ pin_value b (bit g.memory (after up).address)
  unfolding pin driven clk_rises gone_on
  pin_by true reads = rw (ready n _ levels.ready_lines, levels.pgm, as_held (after true) reads)
  pin_by false reads = rw (ready n _ levels.ready_lines, as_held (after false) reads)

  -- What a walk comes to.
  pub walked :
      {b : Bool} → Reads (walked_half g.half n).address (walked_half g.half n).flags b →
      walk_to (next (card_of g) n) ≡
      Some (record { volatile = walked_half g.half n; pin = pin_value b (bit g.memory (walked_half g.half n).address) })
  unfolding walked_half packed
  walked reads = rw ((walk_goes reads.plain).there, pin_by (digit 2 n) reads)

  steps_so :
      plain_at (walked_to g.half.address n) ≡ true →
      Steps g (pin (card_of g)) n (with_half g (packed (next (card_of g) n).volatile)) (pin (next (card_of g) n)) 0
  steps_so plain =
      let goes = walk_goes (ap plain_at (comes_there g.half n) ∙ plain) in
      rw goes.there (goes_to is_ready n (with_volatile (card_of g) (after (digit 2 n))) goes.none goes.there)

-- The tests, taken apart.
module _ (g : Given) (n : ℕ) where
  all_pass : n < 256 → walks g n ≡ true → Calm g n × (plain_at (walked_to g.half.address n) ≡ true)
  unfolding walks
  all_pass byte e = search (and_left, and_right, eqb-true, ltb-true, leb-true)

  -- A walk's half and pin are the step's.
  pub walk_steps :
      {w : Walked} → n < 256 → Some w ≡ walk_of g n →
      (given_refusal g ≡ 0) × Steps g (pin (card_of g)) n (with_half g w.volatile) w.pin 0
  unfolding walk_of
  walk_steps {w} byte is =
      let led = cond_some (walks g n) _ w (sym is) in
      let p = all_pass byte led.0 in
      (unrefused p.0, rw (← led.1) (steps_so p.0 p.1))
