-- A program's input and output, as far as a contract can speak of them. Of the system's own it cannot say which bytes are read or written;
-- of a reader and a writer whose bytes are known it does.
use Rattle.std.specs.Prelude.{ℕ, ◌<◌, ◌≡◌, List, length, take, Result, Ok, Err, Option}
use Rattle.std.specs.Counts.{IsPrefixLen}
use Rattle.std.specs.Io.KnownBytes.{Keeps, Appends, Consumes, IsAtEnd}
use Rattle.console.specs.declared.Output.{Output}
use Rattle.console.specs.declared.Output.TheVariants.{Open, Lost, Stopped}

-- The bytes stand at the start of the buffer.
abbrev pub Taken : {E : Type 0} → Result ℕ E → List ℕ → Type 0
Taken (Ok n) buffer = IsPrefixLen n buffer
Taken (Err e) buffer = Unit

-- They are those that the input had next, all of them where the buffer has room for more. A read that failed gave none, but those before it
-- did.
abbrev pub Consumed : {E : Type 0} → Result ℕ E → Option (List ℕ) → Option (List ℕ) → List ℕ → Type 0
Consumed (Ok n) before after buffer = Consumes before after (take n buffer) × (n < length buffer → IsAtEnd after)
Consumed (Err e) before after buffer = (n : ℕ) × Consumes before after (take n buffer)

-- Before anything is said nothing is lost.
abbrev pub NotLost : Output → Type 0
NotLost Open = Unit
NotLost Lost = ⊥
NotLost Stopped = Unit

-- Saying something stops no program.
abbrev pub NotStopped : Output → Type 0
NotStopped Open = Unit
NotStopped Lost = Unit
NotStopped Stopped = ⊥

-- What is lost or stopped stays so.
abbrev pub Said : Output → Output → Type 0
Said Open after = NotStopped after
Said Lost after = after ≡ Lost
Said Stopped after = after ≡ Stopped

-- A front of the text is written, the whole of it where the write did not fail.
abbrev pub AsFarAs : {A E : Type 0} → Result A E → Option (List ℕ) → Option (List ℕ) → List ℕ → Type 0
AsFarAs (Ok done) before after text = Appends before after text
AsFarAs (Err e) before after text = (n : ℕ) × Appends before after (take n text)

-- A text that is said is written, or a front of it and the output is lost. Behind a loss or a stop nothing is written.
abbrev pub Written : Output → Output → Option (List ℕ) → Option (List ℕ) → List ℕ → Type 0
Written Open Open before after text = Appends before after text
Written Open Lost before after text = (n : ℕ) × Appends before after (take n text)
Written Open Stopped before after text = ⊥
Written Lost now before after text = Keeps before after
Written Stopped now before after text = Keeps before after

-- A program that stops, unless its output is lost.
unfoldable pub stopped : Output → Output
stopped Open = Stopped
stopped Lost = Lost
stopped Stopped = Stopped

-- The end of a program: a loss is told, and then it has stopped.
unfoldable pub ended : Output → Output
ended Open = Open
ended Lost = Stopped
ended Stopped = Stopped
