use Rattle.std.proofs.Common.{◌+◌, ◌≤◌}
use Rattle.replay.proofs.records.Given as goal

abbrev pub invariant-loop-nth : goal.invariant-loop-nth
invariant-loop-nth g l = l.same + l.other + 1 ≤ l.nth
