use Rattle.std.proofs.Common.{rules, tests, refl, Bool}
use Rattle.std.proofs.lemmas.Iterator.Search.{find_from_yields_List}
use Rattle.std.proofs.lemmas.Iterator.{YieldsList-from_slice}
use Rattle.std.specs.Str.{bytes_eq}
use Rattle.words.proofs.Table.{Line, taken}
use Rattle.words.proofs.name_in.Goals as goal

pub returns : goal.returns
returns c =
    let test : Line → Bool = λ p. bytes_eq p.0.now c.args.w.now in
    let first =
    find_from_yields_List test _ _ c.find.result c.find.ensures.ran (YieldsList-from_slice c.iter.result.rest.now cc)
    (λ x b q k. search (rules, tests)) in
    let its_name = taken c.find.result c.map.result c.map.ensures.cases (λ x n q. search (rules, tests)) in
    rw (its_name, first, c.iter.ensures.rest) refl
