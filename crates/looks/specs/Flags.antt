-- What the flags call tells.
use Rattle.std.specs.Prelude.{ℕ, false, cond, Result, Ok, Err}
use Rattle.volatile.specs.declared.Volatile.{Volatile}
use Rattle.volatile.specs.Packed.{unpacked, made_up_word}
use Rattle.looks.specs.declared.HeldFlags.{HeldFlags}

-- "A separate call reads flags, refusing by 9".
unfoldable pub flags_of : Volatile → Result HeldFlags ℕ
unfolding made_up_word unpacked
flags_of v =
    let held = unpacked v in
    cond (made_up_word v) (Err 9) (Ok (record { sv = held.sv; p1 = held.p1; r1 = held.r1; e1 = held.e1 }))

-- The flags SV, P1, R1 and E1 in the answer, none where refused.
unfoldable pub flags_held : Result HeldFlags ℕ → HeldFlags
flags_held (Ok held) = held
flags_held (Err k) = record { sv = false; p1 = false; r1 = false; e1 = false }
