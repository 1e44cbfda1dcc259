-- The steps of each act of a text, the maker's and those around them.
use Rattle.std.specs.Prelude.{ℕ, ◌+◌, ◌%◌, Bool, true, cond, List, [], ◌∷◌, ◌++◌, eqb, leb, take}
use Rattle.rules.specs.Lines.{CLK, PGM, IO, FUS, mask}
use Rattle.rules.specs.Maker.{io, idle, reset, walk, show, program, blow, open_card, walk_refusal, open_refusal}
use Rattle.text_lines.specs.declared.Act.{Act}
use Rattle.text_lines.specs.declared.Act.TheVariants.{Power, Fus, Lines, Cut, Reset, Walk, Show16, Show32, Open, Program, Blow}

-- FUS is high at these levels, which are at most 63.
unfoldable pub fus_at : ℕ → Bool
fus_at levels = leb 32 levels

-- The levels of all lines but FUS, whose mask is 32.
abbrev pub other_lines : ℕ → ℕ
other_lines levels = levels % 32

-- Idle, but for FUS: VCC on and I/O 1.
abbrev pub idle_lines : ℕ
idle_lines = 17

-- Switched off: all lines low but FUS.
unfoldable pub off : Bool → ℕ
unfolding mask
off fus = cond fus (mask FUS) 0

-- `power on`: I/O up, VCC up. `power off`: VCC down, I/O down.
unfoldable pub power : Bool → Bool → List ℕ
unfolding off idle mask
power fus on = (off fus + mask IO) ∷ cond on (idle fus) (off fus) ∷ []

-- `cut write`, `cut erase`: program d up to CLK's rise; then VCC falls, and CLK, PGM and I/O after it.
unfoldable pub cut : Bool → Bool → List ℕ
unfolding program off io mask
cut fus d =
    take 3 (program fus d) ++
    ((off fus + mask PGM + mask CLK + io d) ∷
    (off fus + mask PGM + io d) ∷
    (off fus + io d) ∷
    off fus ∷
    [])

-- The steps of an act at these levels, with the byte of bits 96 to 103 for `open`. `fus high` and `fus low` change FUS alone.
unfoldable pub steps_of : Act → ℕ → ℕ → List ℕ
steps_of (Power on) levels attempts = power (fus_at levels) on
steps_of (Fus high) levels attempts = (other_lines levels + off high) ∷ []
steps_of (Lines n) levels attempts = n ∷ []
steps_of (Cut d) levels attempts = cut (fus_at levels) d
steps_of Reset levels attempts = reset (fus_at levels)
steps_of (Walk n) levels attempts = walk (fus_at levels) n
steps_of (Show16 x) levels attempts = show (fus_at levels) 16 x
steps_of (Show32 x) levels attempts = show (fus_at levels) 32 x
steps_of (Open code) levels attempts = open_card (fus_at levels) code attempts
steps_of (Program d) levels attempts = program (fus_at levels) d
steps_of Blow levels attempts = blow (fus_at levels)

-- The maker's own refusal of an act, by 21 or 23.
unfoldable pub maker_refusal : Act → ℕ → ℕ
maker_refusal (Power on) attempts = 0
maker_refusal (Fus high) attempts = 0
maker_refusal (Lines n) attempts = 0
maker_refusal (Cut d) attempts = 0
maker_refusal Reset attempts = 0
maker_refusal (Walk n) attempts = walk_refusal n
maker_refusal (Show16 x) attempts = 0
maker_refusal (Show32 x) attempts = 0
maker_refusal (Open code) attempts = open_refusal attempts
maker_refusal (Program d) attempts = 0
maker_refusal Blow attempts = 0

-- "From idle": VCC on and I/O 1. `power on` starts where all but FUS is low; FUS and raw lines are changed anywhere.
unfoldable pub starts_at : Act → ℕ → Bool
starts_at (Power on) levels = eqb (other_lines levels) (cond on 0 idle_lines)
starts_at (Fus high) levels = true
starts_at (Lines n) levels = true
starts_at (Cut d) levels = eqb (other_lines levels) idle_lines
starts_at Reset levels = eqb (other_lines levels) idle_lines
starts_at (Walk n) levels = eqb (other_lines levels) idle_lines
starts_at (Show16 x) levels = eqb (other_lines levels) idle_lines
starts_at (Show32 x) levels = eqb (other_lines levels) idle_lines
starts_at (Open code) levels = eqb (other_lines levels) idle_lines
starts_at (Program d) levels = eqb (other_lines levels) idle_lines
starts_at Blow levels = eqb (other_lines levels) idle_lines

-- 75: the lines are not where the act starts.
abbrev pub elsewhere : ℕ
elsewhere = 75

-- The refusal of an act at these levels, 0 if none.
unfoldable pub refusal_of : Act → ℕ → ℕ → ℕ
refusal_of act levels attempts = cond (starts_at act levels) (maker_refusal act attempts) elsewhere
