use mathlib.Core.Path.{sym, ◌∙◌}
use Rattle.rules.specs.Lines.{RST, high, place, mask}
use Rattle.volatile.specs.Packed.{unpacked}
use Rattle.edge_laws.proofs.ByLine.{turned, rst_in_programming, rst_follows, rst_refused, rst_falls_lem, reads}
use Rattle.rules.specs.Numbers.{number}
use Rattle.card.proofs.edges.reset.Goals as goal

pub returns-then-is_set : goal.returns-then-is_set
unfolding number high place mask unpacked
returns-then-is_set c =
    let ready = c.requires.ready in
    rst_in_programming ready _ (turned ready _ RST c.requires.line) (sym c.is_set.ensures ∙ c.if-is_set.true)

pub returns-then-n-ne1 : goal.returns-then-n-ne1
unfolding number high place mask unpacked
returns-then-n-ne1 c =
    let ready = c.requires.ready in
    let t = turned ready _ RST c.requires.line in
    let programming = sym c.is_set.ensures ∙ c.if-is_set.false in
    rw (c.read.ensures, c.follows.ensures) (reads ready _ (rst_follows ready _ t programming c.if-n-ne1.true))

pub returns-then-is_set-2 : goal.returns-then-is_set-2
unfolding number high place mask unpacked
returns-then-is_set-2 c =
    let ready = c.requires.ready in
    let t = turned ready _ RST c.requires.line in
    let programming = sym c.is_set.ensures ∙ c.if-is_set.false in
    let clk = sym c.is_set-2.ensures ∙ c.if-is_set-2.true in
    rst_refused ready _ t programming c.if-n-ne1.false clk

pub returns : goal.returns
unfolding number high place mask unpacked
returns c =
    let ready = c.requires.ready in
    let t = turned ready _ RST c.requires.line in
    let programming = sym c.is_set.ensures ∙ c.if-is_set.false in
    let clk = sym c.is_set-2.ensures ∙ c.if-is_set-2.false in
    rw (c.read-2.ensures, c.reset_falls.ensures) (reads ready _ (rst_falls_lem ready _ t programming c.if-n-ne1.false clk))
