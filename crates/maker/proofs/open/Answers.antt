use native.Mathlib.Omega.{arith}
use Rattle.std.proofs.Common.{rules}
use Rattle.std.proofs.lemmas.Result.{err_from_is_err_and}
use Rattle.memory.proofs.Filled.{then_filled}
use Rattle.rules.specs.Numbers.{number, numbered}
use Rattle.maker.proofs.Acting.{barred, short, filled}
use Rattle.maker.proofs.Opening.{open_halves, none_left, some_left, length_opening}
use Rattle.maker.proofs.open.Goals as goal

pub returns-then-attempts-eq0 : goal.returns-then-attempts-eq0
unfolding number numbered
returns-then-attempts-eq0 c = barred _ _ _ 22 (none_left c.args.attempts c.ranges.attempts.fits c.if-attempts-eq0.true)

pub returns-in_err-fits : goal.returns-in_err-fits
unfolding number numbered
returns-in_err-fits c =
    let a = c.args in
    let byte = c.ranges.attempts.fits in
    let p = err_from_is_err_and c.from_residual.result c.from_residual.ensures.1 in
    let e = c.in_err-fits.ensures in
    rw (p.1, p.2, e.0)
    (short _ _ _ (some_left a.attempts byte (omega arith)) _ (length_opening a.fus a.code a.attempts byte) e.1)

pub returns : goal.returns
unfolding numbered
returns c =
    let a = c.args in
    let byte = c.ranges.attempts.fits in
    let to = c.of-to.ensures in
    let both = then_filled c.put_code.ensures c.put_try.ensures in
    let steps = rw (← open_halves a.fus a.code a.attempts byte) at both in
    filled _ _ _ (some_left a.attempts byte (omega arith)) _ (length_opening a.fus a.code a.attempts byte) c.in_ok-fits.ensures
    to.bytes to.start steps (search rules)
