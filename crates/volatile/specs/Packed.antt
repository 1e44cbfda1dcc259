-- The volatile half as the code holds it: three words, with the flags and the latch as the digits of one.
use Rattle.std.specs.Prelude.{ℕ, ◌+◌, ◌*◌, ◌/◌, ◌%◌, ◌^◌, Bool, true, false, cond, not, ◌&&◌, ◌||◌, List, eqb, ltb}
use Rattle.std.specs.Int.Bits.{bit_and}
use Rattle.memory.specs.Image.{digit, bit}
use Rattle.rules.specs.Halves.{Card, EC_EN, unblown}
use Rattle.rules.specs.Halves as Halves
use Rattle.rules.specs.Zones.{between}
use Rattle.rules.specs.Match.{compared}
use Rattle.rules.specs.Programming.{operation_now}
use Rattle.rules.specs.Refusals.{made_up}
use Rattle.rules.specs.Steps.{programmed}
use Rattle.volatile.specs.declared.Volatile.{Volatile}

-- A digit of a number: 1 for true.
abbrev pub one : Bool → ℕ
one true = 1
one false = 0

-- The word of the flags: SV 1, P1 2, R1 4, programming 8, latch 16, E1 32, match 64.
unfoldable pub word : Bool → Bool → Bool → Bool → Bool → Bool → Bool → ℕ
word sv p1 r1 programming latch e1 matched =
    one sv + 2 * (one p1 + 2 * (one r1 + 2 * (one programming + 2 * (one latch + 2 * (one e1 + 2 * one matched)))))

-- What a packed half stands for.
unfoldable pub unpacked : Volatile → Halves.Volatile
unpacked v =
    record {
      lines = v.lines;
      address = v.address;
      sv = digit 0 v.flags;
      p1 = digit 1 v.flags;
      r1 = digit 2 v.flags;
      e1 = digit 5 v.flags;
      matched = digit 6 v.flags;
      latch = digit 4 v.flags;
      programming = digit 3 v.flags;
    }

unfoldable pub packed : Halves.Volatile → Volatile
unfolding word
packed v =
    record {
      lines = v.lines;
      address = v.address;
      flags = word v.sv v.p1 v.r1 v.programming v.latch v.e1 v.matched;
    }

-- The card that a call is given: image and fuse byte, and the packed half.
pub record Given : Type 0 where
  pub memory : List ℕ
  pub fuses : ℕ
  pub half : Volatile

abbrev pub given : List ℕ → ℕ → Volatile → Given
given m fuses v = record { memory = m; fuses = fuses; half = v }

-- The card that it stands for, and back.
abbrev pub card_of : Given → Card
card_of g = record { memory = g.memory; fuses = g.fuses; volatile = unpacked g.half }

abbrev pub handed_back : Card → Given
handed_back c = record { memory = c.memory; fuses = c.fuses; half = packed c.volatile }

-- The same card with another half.
abbrev pub with_half : Given → Volatile → Given
with_half g v = record { memory = g.memory; fuses = g.fuses; half = v }

-- The card after CLK's fall in programming.
unfoldable pub programmed_card : Given → ℕ → Card
programmed_card g n = programmed (operation_now g.fuses (unpacked g.half)) n (card_of g)

-- 9 of a packed half. 01's clauses are `made_up`; a word with a flag that no card has is made up too, which is this packing's own clause.
unfoldable pub made_up_word : Volatile → Bool
unfolding unpacked
made_up_word v = ltb 127 v.flags || made_up (unpacked v)

-- Levels and flags of a powered half: latch and programming only with CLK high, and programming where CLK and PGM are high. The digits
-- of 0xa2a7 say which of the sixteen ways that CLK, PGM, programming and the latch stand together are such.
unfoldable pub wired : ℕ → ℕ → Bool
wired lines flags = eqb (bit_and lines 1) 1 && eqb (0xa2a7 / 2 ^ (lines / 4 % 4 + 4 * (flags / 8 % 4)) % 2) 1

-- A powered half outside match and E1, by a few tests of its words.
unfoldable pub plainly_sound : Volatile → Bool
unfolding wired
plainly_sound v = not (ltb 63 v.lines) && (not (ltb 31 v.flags) && (not (ltb 1519 v.address) && wired v.lines v.flags))

-- The volatile half after an operation that turned a 1 into 0, or did not.
unfoldable pub programmed_half : Bool → Bool → Bool → ℕ → Halves.Volatile → Halves.Volatile
unfolding between
programmed_half l1 ec_en turned n v =
    record {
      lines = n;
      address = v.address;
      sv = between 96 103 v.address && (v.matched && turned) || v.sv;
      p1 = v.p1;
      r1 = v.r1;
      e1 = between 1232 1359 v.address && (v.matched && (not l1 && (ec_en && turned))) || v.e1;
      matched = v.matched;
      latch = false;
      programming = false;
    }

-- The match that the compare at the present address gives.
unfoldable pub compared_here : List ℕ → Bool → Halves.Volatile → Bool
compared_here m l1 v = compared l1 v.sv v.latch (bit m v.address) v.address v.matched

-- The volatile half after CLK's fall where the address has gone on to a: the latch and programming are cleared, all else stays.
unfoldable pub gone_on : ℕ → ℕ → Halves.Volatile → Halves.Volatile
gone_on n a v =
    record {
      lines = n;
      address = a;
      sv = v.sv;
      p1 = v.p1;
      r1 = v.r1;
      e1 = v.e1;
      matched = v.matched;
      latch = false;
      programming = false;
    }

-- The word of the flags that an arrival sets.
unfoldable pub arrival_flags : List ℕ → ℕ → ℕ → Bool → ℕ
arrival_flags m fuses a matched =
    cond (eqb a 176) (cond (bit m 176) 2 0)
    (cond (eqb a 177) (cond (bit m 177) 4 0) (cond (eqb a 1232 && (not (unblown EC_EN fuses) && matched)) 32 0))

-- The word of the flag that an operation sets.
unfoldable pub opening_flags : ℕ → Bool → Bool → Bool → ℕ
unfolding between
opening_flags a l1 ec_en keyed =
    cond (between 96 103 a && keyed) 1 (cond (between 1232 1359 a && (keyed && (not l1 && ec_en))) 32 0)
