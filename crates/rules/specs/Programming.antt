-- 01, "Rights": what takes effect when CLK falls in programming, "under the flags and lines of that moment".
use Rattle.std.specs.Prelude.{ℕ, Bool, true, false, cond, not, ◌&&◌, List, eqb, leb}
use Rattle.std.specs.Bool.{beq}
use Rattle.memory.specs.Image.{bit, written, erased_word, filled}
use Rattle.rules.specs.declared.Zone.{Zone}
use Rattle.rules.specs.declared.Zone.TheVariants.{EC, MFZ}
use Rattle.rules.specs.declared.Zone.TheVariants.{Block, FuseMF, FuseECEN, FuseISS}
use Rattle.rules.specs.declared.Operation.{Operation}
use Rattle.rules.specs.declared.Operation.TheVariants.{Nothing, WriteBit, EraseWord, EraseZone}
use Rattle.rules.specs.declared.Operation.TheVariants.{WriteBlock, EraseBlock, BlowMF, BlowECEN, BlowISS}
use Rattle.rules.specs.Halves.{MF, EC_EN, ISS, unblown, blown, Volatile}
use Rattle.rules.specs.Lines.{RST, high}
use Rattle.rules.specs.Rights.{Held, held, level1, granted, rights, no}
use Rattle.rules.specs.Zones.{between, zone, row, is_fuse}

-- L2 erase in EC: "With EC_EN blown only at 1232."
unfoldable pub barred : Bool → Bool → ℕ → Zone → Bool
barred l1 ec_en a z = eqb (row z) (row EC) && (not l1 && (not ec_en && not (eqb a 1232)))

-- What the operation asks for: "latched 1 erases, 0 writes".
unfoldable pub asks : Bool → Bool → Bool → ℕ → Zone → ℕ
unfolding barred rights
asks l1 ec_en latch a z = cond latch (cond (barred l1 ec_en a z) no (rights l1 z).erase) (rights l1 z).write

-- Whether 01 carries the operation out. The fuses ask for RST high; "These need RST low; elsewhere or without the right, nothing
-- changes."
unfoldable pub may_program : Held → Bool → Bool → Bool → ℕ → Zone → Bool
unfolding asks granted level1 is_fuse
may_program h ec_en rst latch a z = beq rst (is_fuse z) && granted (asks (level1 h) ec_en latch a z) h

-- At the block word and at the fuses; nothing at a gap.
unfoldable pub effect_apart : Bool → Zone → Operation
effect_apart latch z =
    cond (eqb (row z) (row Block)) (cond latch EraseBlock WriteBlock)
    (cond (eqb (row z) (row FuseMF)) BlowMF
    (cond (eqb (row z) (row FuseECEN)) BlowECEN (cond (eqb (row z) (row FuseISS)) BlowISS Nothing)))

-- What the operation does at its place: in a zone of the memory the bit or the word, but in EC at level 2 the application zone's erase.
unfoldable pub effect : Bool → Bool → Zone → Operation
unfolding effect_apart
effect l1 latch z =
    cond (leb (row z) (row MFZ)) (cond latch (cond (eqb (row z) (row EC) && not l1) EraseZone EraseWord) WriteBit)
    (effect_apart latch z)

unfoldable pub operation : Held → Bool → Bool → Bool → ℕ → Operation
unfolding may_program effect zone
operation h ec_en rst latch a = cond (may_program h ec_en rst latch a (zone a)) (effect (level1 h) latch (zone a)) Nothing

-- The right and the operation of a moment: "under the flags and lines of that moment".
unfoldable pub may_program_now : ℕ → Volatile → Bool
may_program_now fuses v =
    may_program (held fuses v) (unblown EC_EN fuses) (high RST v.lines) v.latch v.address (zone v.address)

unfoldable pub operation_now : ℕ → Volatile → Operation
operation_now fuses v = operation (held fuses v) (unblown EC_EN fuses) (high RST v.lines) v.latch v.address

-- The operation on the image: bits 176 to 1199 are the bytes 22 to 149, the block's bits 16 to 1359 the bytes 2 to 169.
unfoldable pub memory_after : Operation → ℕ → List ℕ → List ℕ
memory_after Nothing a m = m
memory_after WriteBit a m = written m a
memory_after EraseWord a m = erased_word m a
memory_after EraseZone a m = filled 22 128 255 m
memory_after WriteBlock a m = filled 2 168 0 m
memory_after EraseBlock a m = filled 2 168 255 m
memory_after BlowMF a m = m
memory_after BlowECEN a m = m
memory_after BlowISS a m = m

-- The operation on the fuses.
unfoldable pub fuses_after : Operation → ℕ → ℕ
fuses_after Nothing f = f
fuses_after WriteBit f = f
fuses_after EraseWord f = f
fuses_after EraseZone f = f
fuses_after WriteBlock f = f
fuses_after EraseBlock f = f
fuses_after BlowMF f = blown MF f
fuses_after BlowECEN f = blown EC_EN f
fuses_after BlowISS f = blown ISS f

-- "a write that turns a 1 into 0"
unfoldable pub turns : Operation → List ℕ → ℕ → Bool
turns Nothing m a = false
turns WriteBit m a = bit m a
turns EraseWord m a = false
turns EraseZone m a = false
turns WriteBlock m a = false
turns EraseBlock m a = false
turns BlowMF m a = false
turns BlowECEN m a = false
turns BlowISS m a = false

-- "Opening: a write that turns a 1 into 0 at 96 to 103 while match holds sets SV."
unfoldable pub opens : Operation → List ℕ → ℕ → Bool → Bool
unfolding between
opens op m a matched = between 96 103 a && (matched && turns op m a)

-- "If not [blown], an L2 write turning a 1 into 0 in EC while match holds sets E1."
unfoldable pub key_opens : Operation → List ℕ → ℕ → Bool → Bool → Bool → Bool
unfolding between
key_opens op m a matched l1 ec_en = between 1232 1359 a && (matched && (not l1 && (ec_en && turns op m a)))
