use Prim.Native.Nat.{◌/◌, ◌%◌}
use native.Mathlib.Omega.{arith}
use mathlib.Core.Path.{sym}
use lib.Seq.{set_out}
use Rattle.memory.specs.Image.{written}
use Rattle.memory.proofs.Laws.{masked, one_small}
use Rattle.memory.proofs.write_bit.Goals as goal

pub overflow_sub-image : goal.overflow_sub-image
overflow_sub-image c = one_small c.args.a

pub returns-then-i-image : goal.returns-then-i-image
unfolding written
returns-then-i-image c =
    let a = c.args.a in
    rw (masked _ (a % 8) (c.slice_known-1.given (a / 8)).fits (omega arith))

pub returns-else-i-image : goal.returns-else-i-image
unfolding written
returns-else-i-image c = sym (set_out c.args.image.now (c.args.a / 8) _ c.if-i-image.false)
