use mathlib.Core.Path.{sym, ◌∙◌}
use Rattle.rules.specs.Lines.{VCC, high, place, mask}
use Rattle.edge_laws.proofs.ByLine.{turned, vcc_off, vcc_refused, vcc_rises, reads}
use Rattle.rules.specs.Numbers.{number}
use Rattle.card.proofs.edges.power.Goals as goal

pub returns-then-not-is_set : goal.returns-then-not-is_set
unfolding number high place mask
returns-then-not-is_set c =
    let ready = c.requires.ready in
    let off = sym c.is_set.ensures ∙ c.if-not-is_set.true in
    rw c.power_falls.ensures (vcc_off ready _ (turned ready _ VCC c.requires.line) off)

pub returns-then-n-ne0 : goal.returns-then-n-ne0
unfolding number high place mask
returns-then-n-ne0 c =
    let ready = c.requires.ready in
    let on = sym c.is_set.ensures ∙ c.if-not-is_set.false in
    vcc_refused ready _ (turned ready _ VCC c.requires.line) on c.if-n-ne0.true

pub returns : goal.returns
unfolding number high place mask
returns c =
    let ready = c.requires.ready in
    let on = sym c.is_set.ensures ∙ c.if-not-is_set.false in
    rw (c.read.ensures, c.follows.ensures)
    (reads ready _ (vcc_rises ready _ (turned ready _ VCC c.requires.line) on c.if-n-ne0.false))
