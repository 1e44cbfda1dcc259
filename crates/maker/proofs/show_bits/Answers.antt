use Prim.Native.Nat.{◌+◌, ◌*◌}
use mathlib.Core.Path.{refl}
use Rattle.std.proofs.Common.{rules}
use Rattle.std.proofs.lemmas.Result.{err_from_is_err_and}
use Rattle.rules.specs.Numbers.{number, numbered}
use Rattle.theorems.proofs.MakerLaws.{length_show}
use Rattle.maker.proofs.Acting.{short, filled}
use Rattle.maker.proofs.show_bits.Goals as goal

pub returns-in_err-fits : goal.returns-in_err-fits
unfolding number numbered
returns-in_err-fits c =
    let a = c.args in
    let p = err_from_is_err_and c.from_residual.result c.from_residual.ensures.1 in
    let e = c.in_err-fits.ensures in
    rw (p.1, p.2, e.0) (short 0 _ _ refl (3 * a.width + 1) (length_show a.fus a.width a.x) e.1)

pub returns : goal.returns
unfolding numbered
returns c =
    let a = c.args in
    let to = c.of-to.ensures in
    filled 0 _ _ refl (3 * a.width + 1) (length_show a.fus a.width a.x) c.in_ok-fits.ensures to.bytes to.start c.put_show.ensures
    (search rules)
