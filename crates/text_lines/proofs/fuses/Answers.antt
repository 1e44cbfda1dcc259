use Rattle.std.proofs.Common.{◌≡◌, rules, Err, ◌∙◌}
use Rattle.text_lines.specs.Faults.{number, numbered}
use Rattle.text_lines.specs.Orders.{fuses_order}
use Rattle.text_lines.specs.declared.Order.TheVariants.{Image}
use Rattle.text_lines.specs.declared.Change.TheVariants.{Fuses}
use Rattle.text_lines.proofs.Choices.{not_limited, is_limited}
use Rattle.text_lines.proofs.fuses.Goals as goal

pub returns-in_err-at_most : goal.returns-in_err-at_most
unfolding numbered fuses_order
returns-in_err-at_most c =
    let r : numbered c.from_residual.result ≡ Err (number c.in_err-at_most.field-0.0) = search rules in
    r ∙ not_limited (λ n. Image (Fuses n)) _ _ _ c.in_err-at_most.ensures

pub returns : goal.returns
unfolding numbered fuses_order
returns c = is_limited (λ n. Image (Fuses n)) _ _ _ c.in_ok-at_most.ensures
