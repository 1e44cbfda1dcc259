-- One step inside the card, by what its functions hand on.
use Rattle.std.specs.Prelude.{ℕ, List, Option, Some, None, Result, Ok, Err}
use Rattle.memory.specs.Image.{bit}
use Rattle.rules.specs.declared.Refusal.{Refusal}
use Rattle.rules.specs.Numbers.{number}
use Rattle.rules.specs.Halves.{Card}
use Rattle.rules.specs.Steps.{driven, pin_value, pin}
use Rattle.volatile.specs.declared.Volatile.{Volatile}
use Rattle.volatile.specs.Packed.{packed, unpacked, Given, given, with_half}
use Rattle.volatile.specs.Inner.{Ready, Steps}
use Rattle.card.specs.declared.moved.Moved.{Moved}
use Rattle.card.specs.declared.moved.Left.{Left}

-- A step that leaves image and fuses as they are. "A refused step changes nothing".
abbrev pub Moves : Given → ℕ → ℕ → Result Moved Refusal → Type 0
Moves g p n (Ok m) = Steps g p n (with_half g m.volatile) m.pin 0
Moves g p n (Err r) = Steps g p n g p (number r)

abbrev pub moved : Volatile → ℕ → Moved
moved v p = record { volatile = v; pin = p }

-- An accepted step has led to this card, whose image and fuses are as they were.
abbrev pub moved_to : Card → Moved
moved_to c = moved (packed c.volatile) (pin c)

-- A step that may change image and fuses.
abbrev pub Leaves : Given → ℕ → ℕ → Result Left Refusal → List ℕ → Type 0
Leaves g p n (Ok l) after = Steps g p n (given after l.fuses l.volatile) l.pin 0
Leaves g p n (Err r) after = Steps g p n (given after g.fuses g.half) p (number r)

abbrev pub left_by : Moved → ℕ → Left
left_by r fuses = record { fuses = fuses; volatile = r.volatile; pin = r.pin }

-- Where a half is named, a sound card's step leads to it and changes nothing else.
unfoldable pub QuickTo : Volatile → ℕ → Option Volatile → Type 0
QuickTo v n (Some after) =
    (g : Given) (p : ℕ) → Ready (with_half g v) p →
    Steps (with_half g v) p n (with_half g after) (pin_value (driven g.fuses (unpacked after)) (bit g.memory after.address)) 0
QuickTo v n None = Unit
