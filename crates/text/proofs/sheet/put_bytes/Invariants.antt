use Rattle.std.proofs.Common.{◌≡◌, ◌+◌, ◌-◌}
use lib.Seq.{sets}
use Rattle.text.specs.Sheet.{bytes_of}
use Rattle.text.proofs.sheet.put_bytes.Given as goal

-- What is left to put comes to what the whole comes to.
abbrev pub invariant-loop-i : goal.invariant-loop-i
invariant-loop-i l =
    sets l.image (l.first + l.i) (bytes_of (l.count - l.i) l.x) ≡ sets l.initial.image l.first (bytes_of l.count l.x)
