-- The line on standard error.
use Rattle.std.specs.Prelude.{ℕ, List, [], ◌∷◌, ◌++◌, take, Result, Ok, Err, Option}
use Rattle.std.specs.Io.KnownBytes.{Keeps, Appends}
use Rattle.report.specs.Lines.{newline}
use Rattle.console.specs.declared.Output.{Output}
use Rattle.console.specs.declared.Output.TheVariants.{Open, Lost, Stopped}

-- `: `
abbrev pub colon : List ℕ
colon = 58 ∷ 32 ∷ []

-- `PROGRAM: what which`
unfoldable pub told_line : List ℕ → List ℕ → List ℕ → List ℕ
told_line program what which = program ++ (colon ++ (what ++ (which ++ newline)))

-- Of the line as much is written as standard error took, and nothing else.
abbrev pub Told : Option (List ℕ) → Option (List ℕ) → List ℕ → Type 0
Told before after line = (n : ℕ) × Appends before after (take n line)

-- The program told what fails, in one line.
abbrev pub TellsWhat : Option (List ℕ) → Option (List ℕ) → List ℕ → Type 0
TellsWhat before after program = (what : List ℕ) × Told before after (told_line program what [])

-- An input that cannot be read is told, and no other.
abbrev pub InputTold : {E : Type 0} → Result ℕ E → Option (List ℕ) → Option (List ℕ) → List ℕ → Type 0
InputTold (Ok n) before after program = Keeps before after
InputTold (Err e) before after program = TellsWhat before after program

-- A program that stops at its start tells why.
abbrev pub StartTold : Output → Option (List ℕ) → Option (List ℕ) → List ℕ → Type 0
StartTold Open before after program = Keeps before after
StartTold Lost before after program = ⊥
StartTold Stopped before after program = TellsWhat before after program

-- Why a program stops is told unless it stopped before or its output is lost.
abbrev pub StopTold : Output → Option (List ℕ) → Option (List ℕ) → List ℕ → Type 0
StopTold Open before after line = Told before after line
StopTold Lost before after line = Keeps before after
StopTold Stopped before after line = Keeps before after

-- A loss is told at the end, and nothing else.
abbrev pub EndTold : Output → Option (List ℕ) → Option (List ℕ) → List ℕ → Type 0
EndTold Open before after program = Keeps before after
EndTold Lost before after program = TellsWhat before after program
EndTold Stopped before after program = Keeps before after
