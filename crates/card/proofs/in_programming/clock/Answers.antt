use mathlib.Core.Path.{sym, ◌∙◌}
use Rattle.rules.specs.Lines.{CLK, high, place, mask}
use Rattle.volatile.specs.Packed.{unpacked}
use Rattle.edge_laws.proofs.ByLine.{turned, clk_refused, clk_programs}
use Rattle.rules.specs.Numbers.{number}
use Rattle.card.proofs.in_programming.clock.Goals as goal

pub returns-then-is_set : goal.returns-then-is_set
unfolding number high place mask unpacked
returns-then-is_set c =
    let t = turned c.requires.ready _ CLK c.requires.line in
    clk_refused c.requires.ready _ t c.requires.programming (sym c.is_set.ensures ∙ c.if-is_set.true)

pub returns : goal.returns
unfolding number high place mask unpacked
returns c =
    let t = turned c.requires.ready _ CLK c.requires.line in
    rw (c.with_fuses.ensures, c.read.ensures)
    (clk_programs c.requires.ready _ t c.requires.programming (sym c.is_set.ensures ∙ c.if-is_set.false) c.clock_falls-done.ensures)
