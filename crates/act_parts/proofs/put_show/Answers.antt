use mathlib.Core.Path.{◌≡◌}
use native.Mathlib.Omega.{arith}
use Rattle.memory.proofs.Filled.{further, ended}
use Rattle.rules.specs.Maker.{show}
use Rattle.act_parts.proofs.Lists.{show_first}
use Rattle.act_parts.proofs.put_show.Goals as goal

-- A bit, and the bits after it.
pub loop-k-preserved : goal.loop-k-preserved
loop-k-preserved c =
    let a = c.args in
    let at = c.loop-k in
    let rest = rw (show_first a.fus at.k a.x c.loop-k-test.true) at at.invariant in
    further rest (rw (c.bit.ensures, c.is_set.ensures) at c.put.ensures)

-- After the last bit I/O 1 is left.
pub returns : goal.returns
unfolding show
returns c =
    let e : c.loop-k.k ≡ 0 = omega arith in
    ended (rw e at c.loop-k.invariant) (rw c.idle.ensures.value at c.put-2.ensures)
