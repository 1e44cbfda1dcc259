use Rattle.std.proofs.Common.{◌∙◌, arith}
use Rattle.words.specs.Numbers.{digit_in}
use Rattle.words.proofs.Digits.{begun, at_end, no_digit, too_large, one_more}
use Rattle.words.proofs.numeral_from.Goals as goal
use Rattle.words.proofs.numeral_from.Goals.{then-base-d-via-then-base-d, then-base-d-via-else-base-d+then-value-ge-LIMIT}

pub loop-b-init : goal.loop-b-init
loop-b-init c = begun

pub returns-in_err-d : goal.returns-in_err-d
unfolding digit_in
returns-in_err-d c = c.from_residual.ensures ∙ no_digit c.loop-b.invariant c.loop-b-test.true (omega (arith, c.in_err-d.ensures.value))

pub returns-then-base-d : goal.returns-then-base-d
unfolding digit_in
returns-then-base-d c =
    let d = c.in_ok-d.ensures.value in
    let u = c.loop-b.invariant in
    let h = c.loop-b-test.true in
    elim c.then-base-d.branch [
      | then-base-d-via-then-base-d w ↦ no_digit u h (omega (arith, d, w.if-base-d.true))
      | then-base-d-via-else-base-d+then-value-ge-LIMIT w ↦ too_large u h (omega (arith, d, w.if-base-d.false)) w.if-value-ge-LIMIT.true
    ]

pub loop-b-preserved : goal.loop-b-preserved
unfolding digit_in
loop-b-preserved c =
    let d = c.in_ok-d.ensures.value in
    rw d (one_more c.loop-b.invariant c.loop-b-test.true (omega (arith, d, c.if-base-d.false)) c.if-value-ge-LIMIT.false)

pub returns : goal.returns
returns c = at_end c.loop-b.invariant c.loop-b-test.false
