-- What the calls that give the flags and the reason tell of some halves. `proofs.AgainstCases` computes it from the definitions.
--
-- A half by its levels, its address and its flags. Levels are sums as in 01: VCC 1, RST 2, CLK 4, PGM 8, I/O 16, FUS 32; so are flags:
-- SV 1, P1 2, R1 4, programming 8, latch 16, E1 32, match 64; no card has 128.
use Rattle.std.specs.Prelude.{Bool, true, false, [], ◌∷◌, take, Ok, Err}
use Rattle.rules.specs.declared.Reason.{Reason}
use Rattle.rules.specs.declared.Reason.TheVariants.{NoProgramming, SVMissing, RightIsThere}
use Rattle.rules.specs.CaseForms.{sample}
use Rattle.rules.specs.Numbers.{refused}
use Rattle.volatile.specs.Cases.{Gives, half}
use Rattle.looks.specs.declared.HeldFlags.{HeldFlags}
use Rattle.looks.specs.Flags.{flags_of, flags_held}
use Rattle.looks.specs.Reasons.{reason_answer, reason_told}

-- The flags SV, P1, R1 and E1.
abbrev pub held : Bool → Bool → Bool → Bool → HeldFlags
held sv p1 r1 e1 = record { sv = sv; p1 = p1; r1 = r1; e1 = e1 }

-- "A separate call reads flags, refusing by 9": SV, P1, R1 and E1, each alone; then programming, latch and match, which it leaves out.
abbrev pub FlagsTold : Type 0
FlagsTold =
    Gives flags_of
    ((half 17 0 1, Ok (held true false false false)) ∷
    (half 17 0 2, Ok (held false true false false)) ∷
    (half 17 0 4, Ok (held false false true false)) ∷
    (half 17 1232 32, Ok (held false false false true)) ∷
    (half 21 85 88, Ok (held false false false false)) ∷
    (half 16 0 0, Ok (held false false false false)) ∷
    (half 17 1231 32, Err 9) ∷
    (half 17 0 128, Err 9) ∷
    []) ×
    Gives (refused {A = HeldFlags}) ((Ok (held true true true true), 0) ∷ (Err 9, 9) ∷ (Err 1, 1) ∷ []) ×
    Gives flags_held
    ((Ok (held true false false false), held true false false false) ∷
    (Ok (held false true false false), held false true false false) ∷
    (Ok (held false false true false), held false false true false) ∷
    (Ok (held false false false true), held false false false true) ∷
    (Err 9, held false false false false) ∷
    [])

-- 02, W1: "Refusals: 10, 14 and 9 as for a step, in that order", each beside the next; what the reasons are is pinned in `rules`.
abbrev pub ReasonsTold : Type 0
ReasonsTold =
    Gives (λ room. reason_answer (take room sample) 8 (half 17 0 128)) ((173, Err 10) ∷ (174, Err 14) ∷ []) ×
    Gives (λ fuses. reason_answer sample fuses (half 17 0 128)) ((7, Err 9) ∷ (8, Err 14) ∷ []) ×
    Gives (reason_answer sample 7)
    ((half 17 1231 32, Err 9) ∷
    (half 17 0 127, Err 9) ∷
    (half 17 8 7, Ok NoProgramming) ∷
    (half 5 178 8, Ok SVMissing) ∷
    (half 5 178 11, Ok RightIsThere) ∷
    -- Bit 81 is a 0 already.
    (half 5 81 9, Ok RightIsThere) ∷
    []) ×
    Gives (refused {A = Reason}) ((Ok RightIsThere, 0) ∷ (Err 9, 9) ∷ (Err 10, 10) ∷ []) ×
    Gives reason_told ((Ok RightIsThere, 0) ∷ (Ok SVMissing, 5) ∷ (Err 9, 255) ∷ (Err 10, 255) ∷ [])
