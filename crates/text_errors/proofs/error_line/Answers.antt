use Prim.Native.Nat.{◌≤◌, ◌<◌}
use native.Mathlib.Omega.{arith}
use mathlib.Core.Path.{ap, ◌∙◌}
use lib.ListN.{length}
use Rattle.memory.proofs.Buffer.{whole}
use Rattle.memory.proofs.Filled.{so_far}
use Rattle.report.proofs.Laws.{made, too_small, never_small}
use Rattle.text_errors.specs.ErrorLine.{error_line, enough}
use Rattle.text_errors.proofs.Laws.{not_long}
use Rattle.text_errors.proofs.error_line.Goals as goal

pub returns-then-out-said : goal.returns-then-out-said
returns-then-out-said c =
    let line = error_line c.args.line c.args.refusal in
    let fits : length line ≤ enough = not_long _ _ c.ranges.line.fits (omega (arith, c.ranges)) in
    let to = c.of-to.ensures in
    let said = c.so_far-said.ensures ∙ so_far c.put_line.ensures to.bytes to.start fits in
    let less : length c.args.out.now < length line = omega (arith, ap length said) in
    let small = too_small less in
    record { text = small; enough = never_small fits small }

pub returns : goal.returns
returns c =
    let line = error_line c.args.line c.args.refusal in
    let fits : length line ≤ enough = not_long _ _ c.ranges.line.fits (omega (arith, c.ranges)) in
    let to = c.of-to.ensures in
    let said = c.so_far-said.ensures ∙ so_far c.put_line.ensures to.bytes to.start fits in
    let room : length line ≤ length c.args.out.now = omega (arith, ap length said) in
    let put = rw said at c.put.ensures in
    let all = made (whole room put) (omega (arith, whole room put)) put in
    record { text = all; enough = never_small fits all }
