use native.Mathlib.Omega.{arith}
use Rattle.memory.proofs.Buffer.{all_put, one_more}
use Rattle.memory.proofs.put.Goals as goal

pub returns-then-out-next : goal.returns-then-out-next
returns-then-out-next c = all_put _ _ c.loop-b.invariant c.if-out-next.true

pub loop-b-preserved : goal.loop-b-preserved
loop-b-preserved c = one_more _ _ c.loop-b.invariant c.loop-b-test.true (omega (arith, c.if-out-next.false))
