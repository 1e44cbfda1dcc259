use Rattle.std.proofs.Common.{◌≡◌, ◌-◌, ◌≤◌, length, take, drop}
use Rattle.std.specs.Io.KnownBytes.{Appends}
use Rattle.console.proofs.write_whole.Given as goal

abbrev pub invariant-loop-rest : goal.invariant-loop-rest
invariant-loop-rest g l =
    let done = length l.text - length l.rest in
    (length l.rest ≤ length l.text) × (l.rest ≡ drop done l.text) ×
    Appends (g.W.Write.contents l.initial.to) (g.W.Write.contents l.to) (take done l.text)

abbrev pub decreases-loop-rest : goal.decreases-loop-rest
decreases-loop-rest g l = length l.rest
