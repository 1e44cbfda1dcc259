-- A lent buffer that is filled from its start on.
use Rattle.std.specs.Prelude.{ℕ, ◌≡◌, List}
use Rattle.memory.specs.declared.lent.Filling.{Filling}
use Rattle.memory.specs.Buffer.{Put}

-- These bytes stand behind those so far, in the same buffer.
pub record Filled (before : Filling) (bytes : List ℕ) (after : Filling) : Type 0 where
  pub lent : after.out.ghost_name ≡ before.out.ghost_name
  pub put : Put before.out.now before.at bytes after.at after.out.now
