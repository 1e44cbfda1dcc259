-- What a walk is, and what it comes to.
use Rattle.std.specs.Prelude.{ℕ, ◌+◌, ◌/◌, Bool, cond, ◌&&◌, ◌||◌, eqb, ltb, leb, length, Option, Some, None}
use Rattle.std.specs.Int.Bits.{bit_and, bit_xor}
use Rattle.memory.specs.Image.{bytes, digit}
use Rattle.rules.specs.Halves.{Card}
use Rattle.rules.specs.Steps.{next, pin}
use Rattle.volatile.specs.declared.Volatile.{Volatile}
use Rattle.volatile.specs.Packed.{packed, Given, card_of}
use Rattle.shown.specs.Shown.{plain_at}
use Rattle.walk.specs.declared.Walked.{Walked}

-- CLK alone differs, and of the flags above R1 none is set, or the latch alone and CLK high.
unfoldable pub calm : Volatile → ℕ → Bool
calm v n = eqb (bit_xor v.lines n) 4 && (eqb (v.flags / 8) 0 || eqb (v.flags / 8) (bit_and v.lines 4 / 2))

-- The address after CLK's rise or fall.
unfoldable pub walked_to : ℕ → ℕ → ℕ
walked_to a n = cond (digit 2 n) a (a + 1)

-- A step that walks, n being a byte: CLK alone rises or falls, with VCC on, RST and PGM low, of a card that 10, 14 and 9 let pass, to
-- such an address.
unfoldable pub walks : Given → ℕ → Bool
unfolding calm plain_at walked_to
walks g n =
    eqb (bit_and n 203) 1 &&
    (calm g.half n &&
    (ltb g.half.address 1519 &&
    (eqb (length g.memory) bytes && (leb g.fuses 7 && plain_at (walked_to g.half.address n)))))

-- The half and the pin of such a step; nothing of any other.
abbrev pub walk_to : Card → Option Walked
walk_to c = Some (record { volatile = packed c.volatile; pin = pin c })

unfoldable pub walk_of : Given → ℕ → Option Walked
unfolding walks
walk_of g n = cond (walks g n) (walk_to (next (card_of g) n)) None
