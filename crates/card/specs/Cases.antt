-- 01, "Steps" and "Numbers a caller can get": the results of some steps and runs, each by the call's own promise.
-- `proofs.AgainstCases` computes them from the definitions.
--
-- A half by its levels, its address and its flags. Levels are sums as in 01: VCC 1, RST 2, CLK 4, PGM 8, I/O 16, FUS 32; so are flags:
-- SV 1, P1 2, R1 4, programming 8, latch 16, E1 32, match 64; no card has 128. Of `sample` bit 0 is 0, bits 1, 96 and 1240 are 1.
use Rattle.std.specs.Prelude.{ℕ, List, [], ◌∷◌, take, replicate, set, Result, Ok, Err}
use Rattle.rules.specs.CaseForms.{zero, one, released, no_answer, sample}
use Rattle.volatile.specs.Packed.{Given, given}
use Rattle.volatile.specs.Cases.{half}
use Rattle.card.specs.Calls.{StepAnswered, StepTold, RunAnswered}

-- Of the first card the step makes the second and gets this answer.
abbrev pub StepsTo : Given → ℕ → Given → Result ℕ ℕ → Type 0
StepsTo c n d x = StepAnswered c n d x

-- "A refused step changes nothing and gives back the state as it came, with the number, marked as a refusal, in place of a pin answer".
abbrev pub StepRefused : Given → ℕ → ℕ → Type 0
StepRefused c n k = StepsTo c n c (Err k)

abbrev pub StepsAnswer : Type 0
StepsAnswer =
    -- CLK rises at 0 and at 1, RST rises, FUS falls.
    StepsTo (given sample 5 (half 17 0 0)) 21 (given sample 5 (half 21 0 16)) (Ok zero) ×
    StepsTo (given sample 5 (half 17 1 0)) 21 (given sample 5 (half 21 1 16)) (Ok one) ×
    StepsTo (given sample 5 (half 17 0 0)) 19 (given sample 5 (half 19 0 0)) (Ok released) ×
    StepsTo (given sample 5 (half 49 1240 103)) 17 (given sample 5 (half 17 1240 103)) (Ok one) ×
    -- "a write that turns a 1 into 0 at 96 to 103 while match holds sets SV", and one that blows ISS.
    StepsTo (given sample 5 (half 21 96 72)) 17 (given (set sample 12 127) 5 (half 17 96 65)) (Ok zero) ×
    StepsTo (given sample 7 (half 23 1504 9)) 19 (given sample 3 (half 19 1504 1)) (Ok released) ×
    -- An erase in IZ at level 1, which the fuses make.
    StepsTo (given (set sample 2 0) 7 (half 53 16 25)) 49 (given sample 7 (half 49 16 1)) (Ok one) ×
    -- 1, 2 and 3.
    StepRefused (given sample 5 (half 17 0 0)) 64 1 ×
    StepRefused (given sample 5 (half 17 0 7)) 22 2 ×
    StepRefused (given sample 5 (half 21 96 72)) 23 3 ×
    -- 10, 14 and 9 come first; the step is the write.
    StepRefused (given (take 173 sample) 8 (half 21 96 200)) 17 10 ×
    StepRefused (given sample 8 (half 21 96 200)) 17 14 ×
    StepRefused (given sample 5 (half 21 96 200)) 17 9 ×
    StepRefused (given sample 5 (half 17 0 128)) 64 9

-- A step in plain numbers: 1 stands in the answer's place beside a refusal.
abbrev pub StepsTold : Type 0
StepsTold =
    StepTold (given sample 5 (half 17 0 0)) 21 (given sample 5 (half 21 0 16)) zero 0 ×
    StepTold (given sample 7 (half 23 1504 9)) 19 (given sample 3 (half 19 1504 1)) released 0 ×
    StepTold (given sample 5 (half 17 0 7)) 22 (given sample 5 (half 17 0 7)) no_answer 2 ×
    StepTold (given sample 5 (half 21 96 200)) 17 (given sample 5 (half 21 96 200)) no_answer 9

-- Of the first card the steps, with these bytes for the answers, make the second; so many are done, this is the refusal, and those are the
-- bytes afterwards.
abbrev pub RunsTo : Given → List ℕ → List ℕ → Given → ℕ → ℕ → List ℕ → Type 0
RunsTo c steps answers d done k told =
    RunAnswered c steps answers d done k told

-- "a run refused by 9 or over has count 0", and nothing is changed.
abbrev pub RunRefused : Given → List ℕ → List ℕ → ℕ → Type 0
RunRefused c steps answers k = RunsTo c steps answers c 0 k answers

-- Three bytes for answers.
abbrev pub three : List ℕ
three = 70 ∷ 71 ∷ 72 ∷ []

abbrev pub RunsAnswer : Type 0
RunsAnswer =
    -- "one answer byte (0 or 1) per accepted step"
    RunsTo (given sample 5 (half 17 0 0)) (21 ∷ 17 ∷ 19 ∷ []) three (given sample 5 (half 19 1 0)) 3 0 (zero ∷ one ∷ released ∷ []) ×
    -- "stops at the first refused one, giving its number and the count done. The rest of the answers buffer keeps its bytes."
    RunsTo (given sample 5 (half 17 0 0)) (21 ∷ 17 ∷ 22 ∷ []) three (given sample 5 (half 17 1 0)) 2 2 (zero ∷ one ∷ 72 ∷ []) ×
    RunsTo (given sample 5 (half 17 0 0)) (64 ∷ 21 ∷ []) three (given sample 5 (half 17 0 0)) 0 1 three ×
    RunsTo (given sample 5 (half 17 0 0)) (21 ∷ []) three (given sample 5 (half 21 0 16)) 1 0 (zero ∷ 71 ∷ 72 ∷ []) ×
    -- "An empty run is done at once."
    RunsTo (given sample 5 (half 17 1 1)) [] three (given sample 5 (half 17 1 1)) 0 0 three ×
    -- The last steps of the write, and of the blow.
    RunsTo (given sample 5 (half 13 96 72)) (5 ∷ 21 ∷ 17 ∷ []) three (given (set sample 12 127) 5 (half 17 96 65)) 3 0
    (released ∷ released ∷ zero ∷ []) ×
    RunsTo (given sample 7 (half 23 1504 9)) (19 ∷ 17 ∷ []) three (given sample 3 (half 17 0 1)) 2 0 (released ∷ zero ∷ 72 ∷ []) ×
    -- 10, 14, 9, 18 and 19; the first step is the write.
    RunRefused (given (take 173 sample) 8 (half 21 96 200)) (replicate 4097 17) three 10 ×
    RunRefused (given sample 8 (half 21 96 200)) (replicate 4097 17) three 14 ×
    RunRefused (given sample 5 (half 21 96 200)) (replicate 4097 17) three 9 ×
    RunRefused (given sample 5 (half 21 96 72)) (replicate 4097 17) three 18 ×
    RunRefused (given sample 5 (half 21 96 72)) (17 ∷ 17 ∷ 17 ∷ 17 ∷ []) three 19
