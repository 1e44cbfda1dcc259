use Rattle.memory.proofs.Filled.{so_far}
use Rattle.decimal.proofs.Digits.{at_most_twenty}
use Rattle.console.proofs.Output.number.Goals as goal

pub returns-clause-written : goal.returns-clause-written
returns-clause-written g c =
    let text = c.of-text.ensures in
    let digits = so_far c.put_decimal.ensures text.bytes text.start (at_most_twenty c.args.n c.ranges.n.fits) in
    rw (c.so_far.ensures, digits) at c.say.ensures.written
