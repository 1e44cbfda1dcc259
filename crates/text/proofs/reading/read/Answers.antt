use Rattle.std.proofs.Common.{rules, tests, [], ◌∷◌, length-append}
use Rattle.std.proofs.lemmas.Iterator.Consumers.{YieldsList-turn, YieldsList-end}
use Rattle.text_lines.specs.Faults.{numbered}
use Rattle.text.specs.Held.{outcome_of, reading_of}
use Rattle.text.proofs.LineByLine.{begun, given, turn, amiss, again, at_end, all_read}
use Rattle.text.proofs.reading.read.Goals as goal

pub loop-k-init : goal.loop-k-init
loop-k-init c = rw c.blank-sheet.ensures (begun _)

pub returns-in-Err : goal.returns-in-Err
unfolding reading_of outcome_of numbered
returns-in-Err c =
    let at =
    YieldsList-turn
    (given c.args.text.now c.into_iter-k-iterator.ensures.into_iter_gives
    c.enumerate-k-items.ensures.source c.enumerate-k-items.ensures.count
    c.split.ensures.rest c.split.ensures.done c.split.ensures.closure (λ x b q k. search (rules, tests)))
    c.loop-k.yielded _ c.loop-k.yielded_by _ _ (c.in-Some.k, c.in-Some.line) c.in-Some.is c.next.ensures.steps in
    amiss c.loop-k.invariant (turn _ _ _ _ at) _ c.in-Err.ensures

pub loop-k-preserved : goal.loop-k-preserved
unfolding outcome_of numbered
loop-k-preserved c =
    let at =
    YieldsList-turn
    (given c.args.text.now c.into_iter-k-iterator.ensures.into_iter_gives
    c.enumerate-k-items.ensures.source c.enumerate-k-items.ensures.count
    c.split.ensures.rest c.split.ensures.done c.split.ensures.closure (λ x b q k. search (rules, tests)))
    c.loop-k.yielded _ c.loop-k.yielded_by _ _ (c.in-Some.k, c.in-Some.line) c.in-Some.is c.next.ensures.steps in
    rw (length-append c.loop-k.yielded ((c.in-Some.k, c.in-Some.line) ∷ []))
    (again c.loop-k.invariant (turn _ _ _ _ at) _ c.in_default.ensures)

pub returns : goal.returns
unfolding reading_of
returns c =
    let all =
    YieldsList-end
    (given c.args.text.now c.into_iter-k-iterator.ensures.into_iter_gives
    c.enumerate-k-items.ensures.source c.enumerate-k-items.ensures.count
    c.split.ensures.rest c.split.ensures.done c.split.ensures.closure (λ x b q k. search (rules, tests)))
    c.loop-k.yielded _ c.loop-k.yielded_by _ _ c.in-None.is c.next.ensures.steps in
    at_end c.loop-k.invariant (all_read c.args.text.now _ all.1)
