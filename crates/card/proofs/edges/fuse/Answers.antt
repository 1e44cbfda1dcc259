use mathlib.Core.Path.{sym, ◌∙◌}
use Rattle.rules.specs.Lines.{FUS, high, place, mask}
use Rattle.volatile.specs.Packed.{unpacked}
use Rattle.edge_laws.proofs.ByLine.{turned, fus_refused, fus_goes, reads}
use Rattle.rules.specs.Numbers.{number}
use Rattle.card.proofs.edges.fuse.Goals as goal

pub returns-then-is_set : goal.returns-then-is_set
unfolding number high place mask unpacked
returns-then-is_set c =
    let ready = c.requires.ready in
    fus_refused ready _ (turned ready _ FUS c.requires.line) (sym c.is_set.ensures ∙ c.if-is_set.true)

pub returns : goal.returns
unfolding number high place mask unpacked
returns c =
    let ready = c.requires.ready in
    rw (c.read.ensures, c.follows.ensures)
    (reads ready _ (fus_goes ready _ (turned ready _ FUS c.requires.line) (sym c.is_set.ensures ∙ c.if-is_set.false)))
