use Rattle.std.proofs.Common.{rules}
use Rattle.console.proofs.Known.{consumed_more}
use Rattle.console.proofs.read_full.Goals as goal

pub loop-done-preserved : goal.loop-done-preserved
loop-done-preserved g c =
    let more = c.in_ok-n.ensures in
    (search rules, search rules, consumed_more _ _ _ _ _ _ _ c.loop-done.invariant.1 (search rules) c.loop-done.invariant.2 more.bytes.0)
