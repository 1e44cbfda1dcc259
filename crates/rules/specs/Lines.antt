-- 01, "Steps": a step is a byte of line levels.
use Rattle.std.specs.Prelude.{ℕ, ◌+◌, ◌-◌, ◌^◌, Bool, cond, eqb}
use Rattle.memory.specs.Image.{digit}

-- "VCC 1, RST 2, CLK 4, PGM 8, I/O 16 (1 = the host lets go), FUS 32"
pub data Line : Type 0 where
  VCC RST CLK PGM IO FUS : Line

unfoldable pub place : Line → ℕ
place VCC = 0
place RST = 1
place CLK = 2
place PGM = 3
place IO = 4
place FUS = 5

unfoldable pub mask : Line → ℕ
unfolding place
mask x = 2 ^ place x

-- The line x is high at these levels.
unfoldable pub high : Line → ℕ → Bool
unfolding place
high x levels = digit (place x) levels

-- "At most one line may differ from the present ones": how a step differs from them.
pub data Edge : Type 0 where
  Same : Edge
  Rises : Line → Edge
  Falls : Line → Edge
  Many : Edge

-- The levels with the line x turned over, and no other.
unfoldable pub turned : Line → ℕ → ℕ
unfolding high mask
turned x levels = cond (high x levels) (levels - mask x) (levels + mask x)

unfoldable pub change : Line → ℕ → Edge
unfolding high
change x levels = cond (high x levels) (Falls x) (Rises x)

unfoldable pub edge : ℕ → ℕ → Edge
unfolding turned change
edge levels n =
    cond (eqb n levels) Same
    (cond (eqb n (turned VCC levels)) (change VCC levels)
    (cond (eqb n (turned RST levels)) (change RST levels)
    (cond (eqb n (turned CLK levels)) (change CLK levels)
    (cond (eqb n (turned PGM levels)) (change PGM levels)
    (cond (eqb n (turned IO levels)) (change IO levels)
    (cond (eqb n (turned FUS levels)) (change FUS levels) Many))))))
