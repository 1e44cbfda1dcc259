use Rattle.memory.proofs.Filled.{then_filled}
use Rattle.decimal.proofs.Digits.{more_digits}
use Rattle.decimal.proofs.+put_decimal.Goals as goal

-- The front digits, and the last behind them.
pub returns : goal.returns
returns t c = rw (more_digits c.args.x c.if-x-lt10.false) (then_filled c.put_decimal.ensures c.put_digit-2.ensures)
