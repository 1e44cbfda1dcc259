-- What the code hands on where CLK's fall counts, in the definitions' terms.
use Prim.Native.Nat.{ℕ}
use mathlib.Core.Path.{◌≡◌}
use Rattle.rules.specs.Halves as Halves
use Rattle.rules.specs.Rights.{held, level1}
use Rattle.rules.specs.Match.{following, arrived}
use Rattle.rules.specs.Steps.{unlatched, clocked}
use Rattle.volatile.specs.Packed.{packed, unpacked, Given, card_of, compared_here}
use Rattle.edge_laws.proofs.ByLine.{pin_at, pin_handed_back}
use Rattle.card.specs.Moves.{moved, moved_to}

module _ (g : Given) (n : ℕ) where
  abbrev pub clocked_half : Halves.Volatile
  clocked_half =
      let w = unpacked g.half in
      arrived g.memory g.fuses (following g.half.address)
      (unlatched n (compared_here g.memory (level1 (held g.fuses w)) w) w)

  pub clocks : moved (packed clocked_half) (pin_at g (packed clocked_half)) ≡ moved_to (clocked n (card_of g))
  unfolding clocked compared_here unpacked
  clocks = rw (pin_handed_back (clocked n (card_of g)))
