-- docs/TEXT.md, "Errors": the number of each.
use Rattle.std.specs.Prelude.{ℕ, Result, Ok, Err}
use Rattle.rules.specs.Numbers.{number as refusal_number}
use Rattle.text_lines.specs.declared.faults.Fault.{Fault}
use Rattle.text_lines.specs.declared.faults.Fault.TheVariants.{Unknown, Unfit, Beyond, AfterAStep, Elsewhere, NoRoom, TooLong, Maker}

unfoldable pub number : Fault → ℕ
unfolding refusal_number
number Unknown = 71
number Unfit = 72
number Beyond = 73
number AfterAStep = 74
number Elsewhere = 75
number NoRoom = 76
number TooLong = 77
number (Maker refusal) = refusal_number refusal

-- An answer with the number in the place of its fault.
unfoldable pub numbered : {A : Type 0} → Result A Fault → Result A ℕ
unfolding number
numbered (Ok x) = Ok x
numbered (Err fault) = Err (number fault)
