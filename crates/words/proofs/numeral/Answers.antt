use Rattle.std.proofs.Common.{sym, ◌∙◌, refl}
use Rattle.words.specs.Numbers.{number_of}
use Rattle.words.proofs.numeral.Goals as goal
use Rattle.words.proofs.numeral.Goals.{then-hex, else-hex}

pub returns-then-is_empty : goal.returns-then-is_empty
unfolding number_of
returns-then-is_empty c = rw (sym c.is_empty.ensures ∙ c.if-is_empty.true) refl

pub returns : goal.returns
unfolding number_of
returns c =
    rw (sym c.is_empty.ensures ∙ c.if-is_empty.false)
    (elim c.if-hex.branch [
      | then-hex w ↦ rw (w.if-hex.true, ← w.numeral_from-is) c.numeral_from.ensures
      | else-hex w ↦ rw (w.if-hex.false, ← w.numeral_from-is) c.numeral_from.ensures
    ])
