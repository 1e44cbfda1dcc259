use Rattle.std.proofs.Common.{rules, tests, ◌≡◌, true, false, sym, ◌∙◌}
use Rattle.std.proofs.lemmas.Iterator.{YieldsList-from_slice, IsFirst-from_position}
use Rattle.words.specs.Scan.{stops_at}
use Rattle.words.proofs.Scans.{ahead_found}
use Rattle.words.proofs.ahead.Goals as goal

pub returns : goal.returns
returns c =
    let stop = c.args.stop in
    let found =
    IsFirst-from_position _ _ c.position.result (λ b. stops_at stop b ≡ true) (λ b. stops_at stop b ≡ false) c.position.ensures.ran
    (YieldsList-from_slice c.args.s.now cc) (λ x q k. search (rules, tests)) (λ x q k. search (rules, tests)) in
    c.unwrap_or.ensures ∙ sym (ahead_found _ _ _ found)
