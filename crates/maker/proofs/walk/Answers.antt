use Prim.Native.Nat.{◌*◌}
use mathlib.Core.Path.{refl}
use borrow.Author.Tests.{lt-ltb, le-ltb}
use Rattle.std.proofs.Common.{rules}
use Rattle.std.proofs.lemmas.Result.{err_from_is_err_and}
use Rattle.rules.specs.Maker.{walk_refusal}
use Rattle.rules.specs.Numbers.{number, numbered}
use Rattle.theorems.proofs.MakerLaws.{length_walk}
use Rattle.maker.proofs.Acting.{barred, short, filled}
use Rattle.maker.proofs.walk.Goals as goal

pub returns-then-n-gt-LAST : goal.returns-then-n-gt-LAST
unfolding walk_refusal number numbered
returns-then-n-gt-LAST c = barred _ _ _ 20 (rw (lt-ltb _ _ c.if-n-gt-LAST.true) refl)

pub returns-in_err-fits : goal.returns-in_err-fits
unfolding walk_refusal number numbered
returns-in_err-fits c =
    let a = c.args in
    let p = err_from_is_err_and c.from_residual.result c.from_residual.ensures.1 in
    let e = c.in_err-fits.ensures in
    rw (p.1, p.2, e.0) (short _ _ _ (rw (le-ltb _ _ c.if-n-gt-LAST.false) refl) (2 * a.n) (length_walk a.fus a.n) e.1)

pub returns : goal.returns
unfolding walk_refusal numbered
returns c =
    let a = c.args in
    let to = c.of-to.ensures in
    filled _ _ _ (rw (le-ltb _ _ c.if-n-gt-LAST.false) refl) (2 * a.n) (length_walk a.fus a.n) c.in_ok-fits.ensures
    to.bytes to.start c.put_walk.ensures (search rules)
