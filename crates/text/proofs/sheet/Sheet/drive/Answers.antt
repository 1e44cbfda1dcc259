use Rattle.std.proofs.Common.{◌≡◌, ◌≤◌, refl, rules, length, arith}
use Rattle.std.proofs.lemmas.Result.{err_from_is_err_and}
use Rattle.text_lines.specs.Faults.{numbered}
use Rattle.text.specs.Held.{sheet_of, outcome_of}
use Rattle.text.proofs.Driving.{turn, more_fits, came_on, came_to_a_stop}
use Rattle.text.proofs.sheet.Sheet.drive.Goals as goal

pub returns-in_err-made : goal.returns-in_err-made
unfolding numbered sheet_of outcome_of
returns-in_err-made c =
    let s = c.args.self.now in
    let full : length s.steps ≡ 4096 = search rules in
    let within : s.count ≤ 4096 = search rules in
    let t = turn c.args.act s.image s.steps s.fuses s.count _ _ _ full within c.present-lines.ensures c.make.ensures in
    let p = err_from_is_err_and c.from_residual.result c.from_residual.ensures.1 in
    rw (p.1, p.2) (came_to_a_stop t (rw c.in_err-made.was refl))

pub overflow_add-self : goal.overflow_add-self
unfolding numbered
overflow_add-self c =
    let s = c.args.self.now in
    let full : length s.steps ≡ 4096 = search rules in
    let within : s.count ≤ 4096 = search rules in
    let t = turn c.args.act s.image s.steps s.fuses s.count _ _ _ full within c.present-lines.ensures c.make.ensures in
    omega (arith, more_fits t c.in_ok-made.made (rw c.in_ok-made.was refl))

pub invariant_of-self-2 : goal.invariant_of-self-2
unfolding numbered
invariant_of-self-2 c =
    let s = c.args.self.now in
    let full : length s.steps ≡ 4096 = search rules in
    let within : s.count ≤ 4096 = search rules in
    let t = turn c.args.act s.image s.steps s.fuses s.count _ _ _ full within c.present-lines.ensures c.make.ensures in
    record { within = more_fits t c.in_ok-made.made (rw c.in_ok-made.was refl) }

pub returns : goal.returns
unfolding numbered sheet_of outcome_of
returns c =
    let s = c.args.self.now in
    let full : length s.steps ≡ 4096 = search rules in
    let within : s.count ≤ 4096 = search rules in
    let t = turn c.args.act s.image s.steps s.fuses s.count _ _ _ full within c.present-lines.ensures c.make.ensures in
    came_on t c.in_ok-made.made (rw c.in_ok-made.was refl)
