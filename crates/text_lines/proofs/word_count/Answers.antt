use Rattle.std.proofs.Common.{rules, tests, ◌∙◌}
use Rattle.std.proofs.lemmas.Iterator.{YieldsList-from_slice}
use Rattle.std.proofs.lemmas.Iterator.Search.{position_from_yields_List}
use Rattle.text_lines.proofs.Counted.{empty, words_counted}
use Rattle.text_lines.proofs.word_count.Goals as goal

pub returns : goal.returns
returns c =
    let found =
    position_from_yields_List empty _ _ c.position.result c.position.ensures.ran (YieldsList-from_slice _ c.iter.ensures.rest)
    (λ x b q k. search (rules, tests)) in
    c.unwrap_or.ensures ∙ rw found (words_counted c.args.verb c.args.object c.args.value c.args.more)
