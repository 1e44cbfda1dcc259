use Rattle.rules.specs.Lines.{PGM, place, mask}
use Rattle.edge_laws.proofs.ByLine.{turned, pgm_refused, pgm_goes, reads}
use Rattle.rules.specs.Numbers.{number}
use Rattle.card.proofs.edges.program.Goals as goal

pub returns-then-n-eq-VCC_CLK_PGM : goal.returns-then-n-eq-VCC_CLK_PGM
unfolding number mask place
returns-then-n-eq-VCC_CLK_PGM c =
    let ready = c.requires.ready in
    pgm_refused ready _ (turned ready _ PGM c.requires.line) c.if-n-eq-VCC_CLK_PGM.true

pub returns : goal.returns
unfolding number mask place
returns c =
    let ready = c.requires.ready in
    rw (c.read.ensures, c.follows.ensures)
    (reads ready _ (pgm_goes ready _ (turned ready _ PGM c.requires.line) c.if-n-eq-VCC_CLK_PGM.false))
