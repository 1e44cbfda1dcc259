use Rattle.std.proofs.Common.{◌≡◌, sym, ◌∙◌, rules}
use Rattle.words.specs.Names.{verb_row, row, row_in}
use Rattle.text_lines.specs.Faults.{number, numbered}
use Rattle.text_lines.proofs.Counted.{miscounted, verb_below}
use Rattle.text_lines.proofs.ordered.Goals as goal

pub returns-then-count-words_of : goal.returns-then-count-words_of
unfolding number numbered row row_in
returns-then-count-words_of c =
    let verb = c.in-Some-Verb in
    let at : row_in c.args.first ≡ verb_row verb.verb = search rules in
    rw at
    (sym
    (miscounted _ _ _ _ c.if-count-eq0.false (verb_below verb.verb) (λ e. c.if-count-words_of.true (e ∙ sym c.words_of.ensures))))
