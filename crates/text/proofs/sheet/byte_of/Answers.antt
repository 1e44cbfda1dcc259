use mathlib.Core.Path.{sym}
use Rattle.text.proofs.Bytes.{byte_past}
use Rattle.text.proofs.sheet.byte_of.Goals as goal

pub returns-else-k-lt8 : goal.returns-else-k-lt8
returns-else-k-lt8 c = sym (byte_past c.args.x c.args.k c.ranges.x.fits c.if-k-lt8.false)
