-- What the two edges leave beside the image.
use Rattle.std.specs.Prelude.{ℕ, List}
use Rattle.rules.specs.declared.Operation.{Operation}
use Rattle.rules.specs.Programming.{fuses_after, turns}
use Rattle.volatile.specs.declared.Volatile.{Volatile}
use Rattle.programming.specs.declared.Done.{Done}
use Rattle.programming.specs.declared.Programmed.{Programmed}

abbrev pub programmed : ℕ → Volatile → Programmed
programmed fuses v = record { fuses = fuses; volatile = v }

-- An operation: the fuses, and whether it was a write that turned a 1 into 0.
unfoldable pub done_by : Operation → List ℕ → ℕ → ℕ → Done
done_by op m fuses a = record { fuses = fuses_after op fuses; turned = turns op m a }
