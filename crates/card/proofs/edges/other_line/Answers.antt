use native.Mathlib.Omega.{arith}
use Rattle.edge_laws.proofs.ByLine.{over_63, same_step, many_lines}
use Rattle.rules.specs.Numbers.{number}
use Rattle.card.proofs.edges.other_line.Goals as goal

pub returns-then-n-gt63 : goal.returns-then-n-gt63
unfolding number
returns-then-n-gt63 c = over_63 c.requires.ready _ c.if-n-gt63.true

pub returns-then-d-eq0 : goal.returns-then-d-eq0
returns-then-d-eq0 c = same_step c.requires.ready _ c.if-d-eq0.true

pub returns : goal.returns
unfolding number
returns c =
    many_lines c.requires.ready _ (omega arith) c.if-d-eq0.false c.if-d-eq1.false
    c.if-d-eq2.false c.requires.clock c.requires.program c.requires.io c.if-d-eq32.false
