use mathlib.Core.Path.{sym, ◌∙◌}
use native.Mathlib.Omega.{arith}
use lib.ListN.{drop, length-drop}
use lib.Seq.{length-take-le}
use Rattle.memory.specs.Image.{bytes}
use Rattle.memory.proofs.Buffer.{filled_up}
use Rattle.rules.specs.File.{memory_at, memory_section}
use Rattle.file.proofs.copy_memory.Goals as goal

pub returns : goal.returns
unfolding memory_section
returns c =
    let section =
    length-take-le bytes (drop memory_at c.args.file.now) (simp length-drop (omega (arith, c.requires.bytes_in_bounds)))
    in
    filled_up (section ∙ sym c.requires.memory_len) c.put.ensures
