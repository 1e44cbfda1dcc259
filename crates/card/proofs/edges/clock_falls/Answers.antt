use native.Mathlib.Omega.{arith}
use mathlib.Core.Path.{sym, ◌∙◌}
use Rattle.rules.specs.Lines.{CLK, high, place, mask}
use Rattle.volatile.specs.Packed.{unpacked}
use Rattle.edge_laws.proofs.ByLine.{turned, address_within, keeps}
use Rattle.edge_laws.proofs.ByLine.{clk_unpowered, clk_unpowered_kept, clk_reset, clk_reset_kept, clk_counts}
use Rattle.card.proofs.Walks.{walks}
use Rattle.card.proofs.edges.clock_falls.Goals as goal

pub overflow_add-a : goal.overflow_add-a
overflow_add-a c = omega (arith, address_within c.requires.ready)

pub returns : goal.returns
unfolding high place mask unpacked
returns c =
    let ready = c.requires.ready in
    let idle = c.requires.idle in
    let t = turned ready _ CLK c.requires.line in
    let down = c.requires.low in
    rw (c.pin_value.ensures, c.goes_on.ensures, c.read_bit-bit.ensures)
    (walks ready _ t down idle c.if-n-eq1.true c.in-Some.ensures)

pub returns-then-not-is_set : goal.returns-then-not-is_set
unfolding high place mask unpacked
returns-then-not-is_set c =
    let ready = c.requires.ready in
    let idle = c.requires.idle in
    let t = turned ready _ CLK c.requires.line in
    let down = c.requires.low in
    let vcc = sym c.is_set.ensures ∙ c.if-not-is_set.true in
    rw c.follows.ensures (keeps ready _ (clk_unpowered ready _ t vcc) (clk_unpowered_kept ready _ t vcc))

pub returns-then-is_set : goal.returns-then-is_set
unfolding high place mask unpacked
returns-then-is_set c =
    let ready = c.requires.ready in
    let idle = c.requires.idle in
    let t = turned ready _ CLK c.requires.line in
    let down = c.requires.low in
    let vcc = sym c.is_set.ensures ∙ c.if-not-is_set.false in
    let rst = sym c.is_set-2.ensures ∙ c.if-is_set.true in
    rw (c.unlatched.ensures, c.is_set-matched.ensures)
    (keeps ready _ (clk_reset ready _ t vcc down idle rst) (clk_reset_kept ready _ t vcc down idle rst))

pub clock_counts-requires : goal.clock_counts-requires
clock_counts-requires c =
    address_within c.requires.ready

pub returns-2 : goal.returns-2
unfolding high place mask unpacked
returns-2 c =
    let ready = c.requires.ready in
    let idle = c.requires.idle in
    let t = turned ready _ CLK c.requires.line in
    let down = c.requires.low in
    let vcc = sym c.is_set.ensures ∙ c.if-not-is_set.false in
    let rst = sym c.is_set-2.ensures ∙ c.if-is_set.false in
    rw c.clock_counts.ensures (clk_counts ready _ t vcc down idle rst)
