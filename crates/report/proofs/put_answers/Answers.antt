use Rattle.std.proofs.Common.{◌≤◌, ◌<◌, map, length, arith}
use lib.ListN.{length-map, drop_of_length-le, get_or-map}
use lib.Seq.{drop-cons}
use native.Mathlib.Numerals.{add-one}
use Rattle.memory.proofs.Filled.{further, ended, nothing_filled, then_filled}
use Rattle.decimal.specs.Decimal.{digit}
use Rattle.report.specs.Lines.{answers_line}
use Rattle.report.proofs.put_answers.Goals as goal

-- A turn puts one digit.
pub loop-a-preserved : goal.loop-a-preserved
loop-a-preserved c =
    let answers = c.args.answers.now in
    let i = c.loop-a.a-index in
    let all = map digit answers in
    let there : i < length all = omega (arith, length-map answers digit) in
    let one = rw (← get_or-map digit answers i 0) at c.put_digit.ensures in
    further (rw (drop-cons all i (digit 0) there, ← add-one i) at c.loop-a.invariant) one

pub returns : goal.returns
unfolding answers_line
returns c =
    let all = map digit c.args.answers.now in
    let past : length all ≤ c.loop-a.a-index = omega (arith, length-map c.args.answers.now digit) in
    then_filled (ended (rw (drop_of_length-le all past) at c.loop-a.invariant) (nothing_filled _)) c.put.ensures
