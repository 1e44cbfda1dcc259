use mathlib.Core.Path.{sym}
use Rattle.memory.proofs.Laws.{digit_shift, digit_past}
use Rattle.memory.proofs.is_set.Goals as goal

pub returns-then-k-lt32 : goal.returns-then-k-lt32
returns-then-k-lt32 c = sym (digit_shift c.args.k c.args.x)

pub returns-else-k-lt32 : goal.returns-else-k-lt32
returns-else-k-lt32 c = sym (digit_past 32 c.args.k c.args.x c.ranges.x.fits c.if-k-lt32.false)
