use Rattle.std.proofs.Common.{arith, sym, ◌∙◌}
use Rattle.words.proofs.Bounds.{hex_below}
use Rattle.text_lines.proofs.open_by.Goals as goal

pub overflow_cast-result : goal.overflow_cast-result
overflow_cast-result c = omega (arith, hex_below _ 4 _ c.in-4.is (sym c.numeral.ensures ∙ c.in_ok-code.ensures.ok_part))
