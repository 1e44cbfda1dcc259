use Prim.Native.Nat.{◌<◌, ◌^◌}
use native.Mathlib.Omega.{arith}
use mathlib.Core.Path.{refl}
use lib.ListN.{replicate}
use Rattle.report.specs.Lines.{four_lines}
use Rattle.report.specs.Buffer.{Made}
use Rattle.report.proofs.Laws.{never_small}
use Rattle.fresh_run.proofs.Laws.{from_fresh, text_of, not_long}
use Rattle.fresh_run.proofs.report.Goals as goal

pub returns : goal.returns
returns c =
    let args = c.args in
    let ran = c.run-ran in
    let left = c.tries_left-left in
    let refusal = c.number_if_any in
    let lines = c.four_lines in
    let answered = rw c.fresh.ensures at ran.ensures in
    let f = from_fresh args.memory.now args.fuses args.steps.now (replicate 4096 0) refl answered in
    let done-fits : ran.result.done < 2 ^ 64 = omega (arith, ran.type_inv) in
    let refusal-fits : refusal.result < 2 ^ 64 = omega (arith, refusal.type_inv) in
    let left-fits : left.result < 2 ^ 64 = omega (arith, left.type_inv) in
    let lines-told : Made (four_lines ran.result.done args.given refusal.result _ _) _ _ _ = lines.ensures in
    let made = rw (left.ensures, refusal.ensures, text_of _ _ _ _ args.given f) at lines-told in
    let short = not_long _ _ _ _ _ done-fits c.ranges.given.fits refusal-fits left-fits ran.auto.answers in
    record { text = made; memory = f.memory; enough = never_small short lines.ensures }
