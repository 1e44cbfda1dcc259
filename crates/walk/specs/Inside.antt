-- A walk by its parts: the half, and what the tests let pass.
use Rattle.std.specs.Prelude.{ℕ, ◌+◌, ◌≤◌, ◌<◌, ◌≡◌, true, cond, length}
use Rattle.std.specs.Int.Bits.{bit_and}
use Rattle.memory.specs.Image.{bytes, digit}
use Rattle.rules.specs.Steps.{clk_rises}
use Rattle.volatile.specs.declared.Volatile.{Volatile}
use Rattle.volatile.specs.Packed.{packed, unpacked, Given, gone_on}
use Rattle.walk.specs.Calls.{calm}

-- The half after CLK's rise or fall on a walk.
unfoldable pub walked_half : Volatile → ℕ → Volatile
unfolding packed
walked_half v n = packed (cond (digit 2 n) (clk_rises n (unpacked v)) (gone_on n (v.address + 1) (unpacked v)))

-- A card and a step that walk, if the address is one at which a walk can be.
pub record Calm (g : Given) (n : ℕ) : Type 0 where
  pub byte : n < 256
  pub still : bit_and n 203 ≡ 1
  pub turns : calm g.half n ≡ true
  pub address : g.half.address < 1519
  pub sized : length g.memory ≡ bytes
  pub fused : g.fuses ≤ 7
