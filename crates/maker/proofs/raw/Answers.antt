use mathlib.Core.Path.{refl}
use Rattle.std.proofs.lemmas.Result.{err_from_is_err_and}
use Rattle.rules.specs.Numbers.{number, numbered}
use Rattle.maker.proofs.Acting.{short, wrote}
use Rattle.maker.proofs.raw.Goals as goal

pub returns-in_err-fits : goal.returns-in_err-fits
unfolding number numbered
returns-in_err-fits c =
    let p = err_from_is_err_and c.from_residual.result c.from_residual.ensures.1 in
    let e = c.in_err-fits.ensures in
    rw (p.1, p.2, e.0) (short 0 _ _ refl _ refl e.1)

pub returns : goal.returns
unfolding numbered
returns c = wrote 0 _ _ refl _ refl c.in_ok-fits.ensures c.put.ensures
