-- Where a walk leads, and which steps are none. `proofs.AgainstCases` computes the rows from the definitions.
--
-- A half by its levels, its address and its flags. Levels are sums as in 01: VCC 1, RST 2, CLK 4, PGM 8, I/O 16, FUS 32; so are flags:
-- SV 1, P1 2, R1 4, programming 8, latch 16, E1 32, match 64; no card has 128. Of `sample` bit 0 is 0, bits 1, 96 and 1240 are 1.
use Rattle.std.specs.Prelude.{ℕ, ◌≡◌, [], ◌∷◌, take, Option, Some, None}
use Rattle.rules.specs.CaseForms.{zero, one, released, sample}
use Rattle.volatile.specs.declared.Volatile.{Volatile}
use Rattle.volatile.specs.Packed.{given}
use Rattle.volatile.specs.Cases.{Gives, half}
use Rattle.walk.specs.declared.Walked.{Walked}
use Rattle.walk.specs.Calls.{walk_of}

-- A half and a pin.
abbrev pub walk : Volatile → ℕ → Option Walked
walk v p = Some (record { volatile = v; pin = p })

-- A walk: CLK's rise and fall where the pin shows a bit and where it shows nothing; no other step is one.
abbrev pub Walks : Type 0
Walks =
    Gives (λ v. walk_of (given sample 5 v) 21)
    ((half 17 0 0, walk (half 21 0 16) zero) ∷
    (half 17 1 5, walk (half 21 1 21) one) ∷
    (half 17 79 0, walk (half 21 79 16) one) ∷
    (half 17 104 0, None) ∷
    (half 17 1519 0, None) ∷
    -- A made-up half: a latch with CLK low.
    (half 17 0 16, None) ∷
    []) ×
    Gives (λ v. walk_of (given sample 5 v) 17)
    ((half 21 0 16, walk (half 17 1 0) one) ∷
    (half 21 0 7, walk (half 17 1 7) one) ∷
    (half 21 1198 0, None) ∷
    (half 21 500 16, walk (half 17 501 0) released) ∷
    (half 21 500 17, walk (half 17 501 1) one) ∷
    (half 21 1391 0, walk (half 17 1392 0) released) ∷
    -- Into the code, to 104, 176, 177, 1232 and 1360, past the last; with match, in programming.
    (half 21 79 0, None) ∷
    (half 21 103 0, None) ∷
    (half 21 175 0, None) ∷
    (half 21 176 0, None) ∷
    (half 21 1231 0, None) ∷
    (half 21 1359 0, None) ∷
    (half 21 1519 0, None) ∷
    (half 21 100 64, None) ∷
    (half 21 0 8, None) ∷
    []) ×
    -- CLK with RST high, with PGM high, with VCC off, with a bit that is no line; other lines, no line.
    (walk_of (given sample 5 (half 19 0 0)) 23 ≡ None) ×
    (walk_of (given sample 5 (half 25 0 0)) 29 ≡ None) ×
    (walk_of (given sample 5 (half 16 0 0)) 20 ≡ None) ×
    (walk_of (given sample 5 (half 81 0 0)) 85 ≡ None) ×
    Gives (walk_of (given sample 5 (half 17 0 0)))
    ((19, None) ∷ (1, None) ∷ (5, None) ∷ (17, None) ∷ []) ×
    (walk_of (given sample 7 (half 17 0 0)) 21 ≡ walk (half 21 0 16) zero) ×
    (walk_of (given sample 8 (half 17 0 0)) 21 ≡ None) ×
    (walk_of (given (take 173 sample) 5 (half 17 0 0)) 21 ≡ None)
