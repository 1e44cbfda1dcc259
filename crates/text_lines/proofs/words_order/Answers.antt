use Rattle.text_lines.specs.Orders.{words_order}
use Rattle.text_lines.proofs.words_order.Goals as goal

pub returns : goal.returns
unfolding words_order
returns c =
    let counted = rw (c.first_word-more.ensures, c.after_word.ensures) at c.word_count.ensures in
    rw (
      counted,
      c.name_of.ensures,
      c.first_word-value.ensures,
      c.first_word-object.ensures,
      c.first_word-first.ensures,
      c.after_word-third.ensures,
      c.after_word-second.ensures,
    )
    at c.ordered.ensures
