use mathlib.Core.Path.{refl}
use Rattle.std.proofs.lemmas.Result.{err_from_is_err_and}
use Rattle.rules.specs.Numbers.{numbered as numbered_refusal}
use Rattle.text_lines.specs.Faults.{number, numbered}
use Rattle.maker.specs.Act.{made, in_buffer}
use Rattle.text_steps.specs.Steps.{refusal_of}
use Rattle.text_steps.proofs.make.Goals as goal

pub returns-then-not-starts_at : goal.returns-then-not-starts_at
unfolding refusal_of made in_buffer number numbered
returns-then-not-starts_at c = rw (← c.starts_at.ensures, c.if-not-starts_at.true) (record { answer = refl; bytes = refl })

pub returns-in_err-made : goal.returns-in_err-made
unfolding refusal_of number numbered numbered_refusal
returns-in_err-made c =
    let p = err_from_is_err_and c.from_residual.result c.from_residual.ensures.1 in
    rw (p.1, p.2, ← c.starts_at.ensures, c.if-not-starts_at.false) c.in_err-made.ensures

pub returns : goal.returns
unfolding refusal_of numbered numbered_refusal
returns c = rw (← c.starts_at.ensures, c.if-not-starts_at.false) c.in_ok-made.ensures
