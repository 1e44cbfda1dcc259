-- CLK's fall on a walk, as a run tells it.
use Prim.Native.Nat.{ℕ, ◌+◌}
use mathlib.Core.Path.{◌≡◌, refl, sym, ◌∙◌}
use mathlib.Core.Bool.{Bool, true, false, not}
use lib.Bits.{bit_and}
use borrow.Author.Tests.{eq-eqb, not-true}
use Rattle.memory.specs.Image.{bit}
use Rattle.memory.proofs.Below.{and_left, and_right}
use Rattle.rules.specs.Halves as Halves
use Rattle.rules.specs.Lines.{VCC, RST, CLK, high}
use Rattle.rules.specs.Steps.{with_volatile, driven, pin_value, pin}
use Rattle.volatile.specs.Packed.{packed, unpacked, Given, card_of, with_half, gone_on}
use Rattle.volatile.specs.Inner.{Ready, Steps}
use Rattle.volatile.proofs.Sums.{lines_ready, ready}
use Rattle.edge_laws.proofs.Turned.{Turned}
use Rattle.edge_laws.proofs.ByLine.{goes_to, clk_walks}
use Rattle.shown.specs.Shown.{Reads}
use Rattle.shown.proofs.Plain.{plain_clocked}

-- VCC is on and RST low.
walking : (n : ℕ) → bit_and n 11 ≡ 1 → (high VCC n ≡ true) × (high RST n ≡ false)
walking n e =
    let on = sym (lines_ready n) ∙ eq-eqb (bit_and n 11) 1 e in
    (and_left (high VCC n) _ on, not-true (high RST n) (and_left (not (high RST n)) _ (and_right (high VCC n) _ on)))

module _ {g : Given} {p : ℕ} (ready-card : Ready g p) (n : ℕ) (t : Turned CLK g.half.lines n) where
  abbrev a : ℕ
  a = g.half.address + 1

  abbrev after : Halves.Volatile
  after = gone_on n a (unpacked g.half)

  walk_pin :
      (b : Bool) → bit_and n 11 ≡ 1 → Reads a g.half.flags b →
      pin (with_volatile (card_of g) after) ≡ pin_value b (bit g.memory a)
  unfolding pin driven gone_on unpacked
  walk_pin b lines reads = rw (ready n _ lines, reads.read g.fuses after refl refl)

  -- CLK falls on a walk.
  pub walks :
      {b : Bool} → high CLK n ≡ false → (unpacked g.half).programming ≡ false → bit_and n 11 ≡ 1 → Reads a g.half.flags b →
      Steps g p n (with_half g (packed after)) (pin_value b (bit g.memory a)) 0
  walks {b} low programming lines reads =
      let on = walking n lines in
      let goes = clk_walks ready-card n t on.0 low programming on.1 after (plain_clocked g n reads.plain) in
      rw (walk_pin b lines reads) at (goes_to ready-card n (with_volatile (card_of g) after) goes.none goes.there)
