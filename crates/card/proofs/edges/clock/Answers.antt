use mathlib.Core.Path.{sym, ◌∙◌}
use Rattle.rules.specs.Lines.{CLK, high, place, mask}
use Rattle.edge_laws.proofs.ByLine.{turned, clk_unpowered, clk_unpowered_kept, clk_rises_lem, clk_rises_kept, keeps}
use Rattle.card.proofs.edges.clock.Goals as goal

pub clock_falls-requires : goal.clock_falls-requires
clock_falls-requires c =
    let low = sym c.is_set.ensures ∙ c.if-not-is_set.true in
    record { ready = c.requires.ready; idle = c.requires.idle; line = c.requires.line; low = low }

pub returns-then-is_set : goal.returns-then-is_set
unfolding high place mask
returns-then-is_set c =
    let ready = c.requires.ready in
    let t = turned ready _ CLK c.requires.line in
    let vcc = sym c.is_set-2.ensures ∙ c.if-is_set.true in
    let clk = sym c.is_set.ensures ∙ c.if-not-is_set.false in
    rw c.clock_rises.ensures
    (keeps ready _ (clk_rises_lem ready _ t vcc clk) (clk_rises_kept ready _ t vcc clk))

pub returns : goal.returns
unfolding high place mask
returns c =
    let ready = c.requires.ready in
    let t = turned ready _ CLK c.requires.line in
    let vcc = sym c.is_set-2.ensures ∙ c.if-is_set.false in
    rw c.follows.ensures (keeps ready _ (clk_unpowered ready _ t vcc) (clk_unpowered_kept ready _ t vcc))
