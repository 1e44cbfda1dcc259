-- The results of some exported calls, each by its own promise: 01's answers as plain numbers, and what stands beside a refusal.
-- `proofs.AgainstCases` computes them from the definitions.
--
-- A half by its levels, its address and its flags: SV 1, P1 2, R1 4, programming 8, latch 16, E1 32, match 64.
use Rattle.std.specs.Prelude.{ℕ, ◌+◌, ◌*◌, ◌≡◌, true, false, List, [], ◌∷◌, ◌++◌, take, replicate, Ok, Err}
use Rattle.rules.specs.declared.Refusal.TheVariants.{ManyLines}
use Rattle.rules.specs.Maker.{reset, walk, walk_refusal}
use Rattle.rules.specs.CaseForms.{zero, no_answer, L1, L2, sample, card_file, session}
use Rattle.volatile.specs.Cases.{Gives, half}
use Rattle.looks.specs.Flags.{flags_of}
use Rattle.looks.specs.Reasons.{reason_answer}
use Rattle.exports.specs.Rendered.{of_walk, of_step, flag_bytes, reason_bytes, version, is_high}
use Rattle.exports.specs.Told.{ActTold, CardTold, SessionTold}

-- A walk and a step in the exported numbers, each part in its field. What the numbers are is pinned in `card`.
abbrev pub StepsTold : Type 0
StepsTold =
    (of_walk (record { volatile = half 21 0 16; pin = zero }) 5 ≡ record { half = half 21 0 16; fuses = 5; answer = zero; refusal = 0 }) ×
    (of_step (record { fuses = 5; volatile = half 17 0 7; answer = Ok zero }) ≡
    record { half = half 17 0 7; fuses = 5; answer = zero; refusal = 0 }) ×
    (of_step (record { fuses = 5; volatile = half 17 0 7; answer = Err ManyLines }) ≡
    record { half = half 17 0 7; fuses = 5; answer = no_answer; refusal = 2 })

-- The flags, each alone in its field, and none beside 9.
abbrev pub FlagsTold : Type 0
FlagsTold =
    Gives (λ v. flag_bytes (flags_of v))
    ((half 17 0 1, record { sv = 1; p1 = 0; r1 = 0; e1 = 0; refusal = 0 }) ∷
    (half 17 0 2, record { sv = 0; p1 = 1; r1 = 0; e1 = 0; refusal = 0 }) ∷
    (half 17 0 4, record { sv = 0; p1 = 0; r1 = 1; e1 = 0; refusal = 0 }) ∷
    (half 17 1232 32, record { sv = 0; p1 = 0; r1 = 0; e1 = 1; refusal = 0 }) ∷
    (half 17 0 135, record { sv = 0; p1 = 0; r1 = 0; e1 = 0; refusal = 9 }) ∷
    [])

-- 02, W1: each reason by its number, and 255 beside 10, 14 and 9.
abbrev pub ReasonsTold : Type 0
ReasonsTold =
    Gives (λ v. reason_bytes (reason_answer sample 7 v))
    ((half 5 178 11, record { reason = 0; refusal = 0 }) ∷
    (half 17 178 3, record { reason = 1; refusal = 0 }) ∷
    (half 5 1424 8, record { reason = 2; refusal = 0 }) ∷
    (half 7 178 8, record { reason = 3; refusal = 0 }) ∷
    (half 5 0 8, record { reason = 4; refusal = 0 }) ∷
    (half 5 178 8, record { reason = 5; refusal = 0 }) ∷
    (half 5 178 9, record { reason = 6; refusal = 0 }) ∷
    (half 21 1240 25, record { reason = 7; refusal = 0 }) ∷
    (half 5 1400 9, record { reason = 10; refusal = 0 }) ∷
    (half 5 178 128, record { reason = 255; refusal = 9 }) ∷
    []) ×
    Gives (λ fuses. reason_bytes (reason_answer sample fuses (half 37 1376 9)))
    ((7, record { reason = 0; refusal = 0 }) ∷
    (6, record { reason = 8; refusal = 0 }) ∷
    (8, record { reason = 255; refusal = 14 }) ∷
    []) ×
    (reason_bytes (reason_answer sample 3 (half 5 1392 9)) ≡ record { reason = 9; refusal = 0 }) ×
    (reason_bytes (reason_answer (take 173 sample) 7 (half 5 178 11)) ≡ record { reason = 255; refusal = 10 })

-- 0.1.1, put together as the header's ZHAV_VERSION is.
abbrev pub VersionTold : Type 0
VersionTold = version ≡ 0 * 10000 + (1 * 100 + 1)

-- An act: "Nothing is then written, count 0; else bytes after the count stay." FUS as a byte: 0 is low, anything else high.
abbrev pub ActsTold : Type 0
ActsTold =
    ActTold 0 (reset L1) (70 ∷ 71 ∷ 72 ∷ []) (record { count = 2; refusal = 0 }) (51 ∷ 49 ∷ 72 ∷ []) ×
    ActTold 0 (reset L1) (70 ∷ []) (record { count = 0; refusal = 22 }) (70 ∷ []) ×
    ActTold (walk_refusal 1520) (walk L2 1520) (70 ∷ []) (record { count = 0; refusal = 21 }) (70 ∷ []) ×
    Gives is_high ((0, false) ∷ (1, true) ∷ (2, true) ∷ (255, true) ∷ [])

-- The lent memory buffer before.
abbrev pub buffer : List ℕ
buffer = replicate 174 9

-- The openers: the fuses and, of a session, where its steps start and how many they are; every number is 0 beside a refusal.
abbrev pub FilesTold : Type 0
FilesTold =
    CardTold (card_file sample 5) buffer (record { fuses = 5; refusal = 0 }) sample ×
    CardTold (card_file sample 5) (take 173 buffer) (record { fuses = 0; refusal = 10 }) (take 173 buffer) ×
    CardTold (card_file sample 8) buffer (record { fuses = 0; refusal = 14 }) buffer ×
    SessionTold (session sample 5 (16 ∷ 17 ∷ 21 ∷ [])) buffer (record { first = 181; steps = 3; fuses = 5; refusal = 0 }) sample ×
    SessionTold (card_file sample 5) buffer (record { first = 0; steps = 0; fuses = 0; refusal = 15 }) buffer ×
    SessionTold (session sample 5 (16 ∷ []) ++ (17 ∷ [])) buffer (record { first = 0; steps = 0; fuses = 0; refusal = 17 }) buffer
