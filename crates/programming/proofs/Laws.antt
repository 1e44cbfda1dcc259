-- The card after CLK's fall in programming, by its parts.
use Prim.Native.Nat.{ℕ}
use mathlib.Core.Path.{◌≡◌, refl}
use Rattle.rules.specs.Halves.{EC_EN, unblown}
use Rattle.rules.specs.Rights.{held, level1}
use Rattle.rules.specs.Programming.{operation_now, memory_after, fuses_after, turns, opens, key_opens}
use Rattle.rules.specs.Steps.{programmed}
use Rattle.volatile.specs.Packed.{packed, unpacked, Given, given, handed_back, programmed_card, programmed_half}

pub by_parts :
    (g : Given) (n : ℕ) →
    (let op = operation_now g.fuses (unpacked g.half) in
    let l1 = level1 (held g.fuses (unpacked g.half)) in
    let turned = turns op g.memory g.half.address in
    given (memory_after op g.half.address g.memory) (fuses_after op g.fuses)
    (packed (programmed_half l1 (unblown EC_EN g.fuses) turned n (unpacked g.half)))) ≡
    handed_back (programmed_card g n)
unfolding programmed_card programmed programmed_half opens key_opens unpacked
by_parts g n = refl
