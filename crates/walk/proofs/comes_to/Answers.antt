use mathlib.Core.Path.{sym}
use Rattle.walk.proofs.AtOnce.{comes_there, walked}
use Rattle.walk.proofs.comes_to.Goals as goal

pub returns-in_err-shown : goal.returns-in_err-shown
returns-in_err-shown c =
    rw (← comes_there c.args.v c.args.n, ← c.clocks-next.ensures, c.in_err-shown.ensures) c.from_residual.ensures

pub returns : goal.returns
returns c =
    let moved = c.clocks-next.ensures in
    let reads = rw moved at c.in_ok-shown.ensures in
    rw (
      c.pin_value.ensures,
      c.read_bit-bit.ensures,
      moved,
      ← comes_there c.args.v c.args.n,
      reads.plain,
    )
    (sym (walked c.requires reads))
