use Rattle.std.proofs.Common.{rules, tests, sym, ap, ◌∙◌}
use Rattle.words.specs.Names.{row, row_in, row_of, level_row}
use Rattle.text_lines.specs.Orders.{all_ones, bytes_order}
use Rattle.text_lines.specs.declared.Order.TheVariants.{Image}
use Rattle.text_lines.specs.declared.Change.TheVariants.{Fill}
use Rattle.text_lines.proofs.Choices.{or_else, zone_filled}
use Rattle.text_lines.proofs.zone.Goals as goal

pub returns : goal.returns
unfolding row row_in level_row
returns c =
    let zone = c.in-Some-Zone in
    let place = c.place-first in
    let first = place.result.0 in
    let count = place.result.1 in
    zone_filled zone.zone _ first count c.args.w.now _ (sym zone.ensures ∙ ap row zone.field-0-is)
    place.ensures.first place.ensures.count
    (or_else (row_of c.args.w.now) 19 20 (Image (Fill first count all_ones)) (Image (Fill first count 0)) (bytes_order first count c.args.w.now)
    c.either.result c.or_else.result (rw (c.filling.ensures, c.filling-2.ensures) at c.either.ensures) c.or_else.ensures
    (λ e q. search (rules, tests)))
