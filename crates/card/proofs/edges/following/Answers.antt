use Rattle.rules.specs.Match.{following}
use borrow.Author.Tests.{ne_eqb}
use Rattle.card.proofs.edges.following.Goals as goal

pub returns-then-a-eq-LAST : goal.returns-then-a-eq-LAST
unfolding following
returns-then-a-eq-LAST c = rw c.if-a-eq-LAST.true

pub returns : goal.returns
unfolding following
returns c = rw (ne_eqb c.args.a 1519 c.if-a-eq-LAST.false)
