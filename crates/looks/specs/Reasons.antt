-- What the call that gives the reason tells.
use Rattle.std.specs.Prelude.{ℕ, cond, List, eqb, Result, Ok, Err}
use Rattle.rules.specs.declared.Reason.{Reason}
use Rattle.rules.specs.Reason.{reason, number}
use Rattle.volatile.specs.declared.Volatile.{Volatile}
use Rattle.volatile.specs.Packed.{given, unpacked}
use Rattle.refusals.specs.Before.{given_refusal}

-- 02, W1: "Refusals: 10, 14 and 9 as for a step, in that order."
unfoldable pub reason_answer : List ℕ → ℕ → Volatile → Result Reason ℕ
unfolding given_refusal reason unpacked
reason_answer m fuses v =
    let k = given_refusal (given m fuses v) in
    cond (eqb k 0) (Ok (reason fuses (unpacked v))) (Err k)

-- The reason's number, 255 where refused, so that no refusal reads as a right.
unfoldable pub reason_told : Result Reason ℕ → ℕ
reason_told (Ok r) = number r
reason_told (Err k) = 255
