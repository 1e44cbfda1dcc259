-- 01, "Numbers a caller can get": the refusals before any step, of packed halves. `proofs.AgainstCases` computes them from the definitions.
--
-- A half by its levels, its address and its flags: SV 1, P1 2, R1 4, programming 8, latch 16, E1 32, match 64.
use Rattle.std.specs.Prelude.{◌≡◌, ◌∷◌, take}
use Rattle.rules.specs.CaseForms.{sample}
use Rattle.volatile.specs.Packed.{given}
use Rattle.volatile.specs.Cases.{half}
use Rattle.refusals.specs.Before.{given_refusal, given_run_refusal}

-- 10, 14, 9: everything is wrong at first, then one thing less from line to line.
abbrev pub BeforeAStep : Type 0
BeforeAStep =
    (given_refusal (given (take 173 sample) 8 (half 17 0 128)) ≡ 10) ×
    (given_refusal (given (0 ∷ sample) 8 (half 17 0 128)) ≡ 10) ×
    (given_refusal (given sample 8 (half 17 0 128)) ≡ 14) ×
    (given_refusal (given sample 7 (half 17 0 128)) ≡ 9) ×
    -- "match outside 81 to 103"
    (given_refusal (given sample 7 (half 17 80 64)) ≡ 9) ×
    (given_refusal (given sample 7 (half 17 81 64)) ≡ 0)

-- 10, 14, 9, 18, 19 of a run, by its count of steps and the room for answers.
abbrev pub BeforeARun : Type 0
BeforeARun =
    (given_run_refusal (given (take 173 sample) 8 (half 17 0 128)) 4097 0 ≡ 10) ×
    (given_run_refusal (given sample 8 (half 17 0 128)) 4097 0 ≡ 14) ×
    (given_run_refusal (given sample 7 (half 17 0 128)) 4097 0 ≡ 9) ×
    (given_run_refusal (given sample 7 (half 17 0 0)) 4097 0 ≡ 18) ×
    (given_run_refusal (given sample 7 (half 17 0 0)) 4097 4097 ≡ 18) ×
    (given_run_refusal (given sample 7 (half 17 0 0)) 4096 4095 ≡ 19) ×
    (given_run_refusal (given sample 7 (half 17 0 0)) 4096 4096 ≡ 0) ×
    (given_run_refusal (given sample 7 (half 17 0 0)) 0 0 ≡ 0)
