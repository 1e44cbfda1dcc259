use Prim.Native.Nat.{◌-◌, ◌%◌}
use mathlib.Core.Path.{sym}
use Rattle.memory.specs.Image.{bit}
use Rattle.memory.proofs.Laws.{digit_shift, bit_past}
use Rattle.memory.proofs.read_bit.Goals as goal

pub returns-then-i-image : goal.returns-then-i-image
unfolding bit
returns-then-i-image c = sym (digit_shift (7 - c.args.a % 8) _)

pub returns-else-i-image : goal.returns-else-i-image
returns-else-i-image c = sym (bit_past c.args.image.now c.args.a c.if-i-image.false)
