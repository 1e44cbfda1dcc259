-- 01, "Numbers a caller can get", what the openers and the step maker refuse by, and what a number in an answer tells. There is no 8 and no 20.
use Rattle.std.specs.Prelude.{ℕ, Bool, true, ◌&&◌, List, [], ◌∷◌, eqb, Some, None, Ok, Err}
use Rattle.rules.specs.declared.Refusal.{Refusal}
use Rattle.rules.specs.declared.Refusal.TheVariants as refusal
use Rattle.rules.specs.Numbers.{number, numbered, refused, number_in, number_if_any}
use Rattle.rules.specs.Card.{pin_in}
use Rattle.rules.specs.CaseForms.{Case, Claims}

-- Each refusal has the number beside it.
unfoldable pub have : List (ℕ × Refusal) → Bool
unfolding number
have [] = true
have (r ∷ rs) = eqb (number r.1) r.0 && have rs

unfoldable pub refusal_numbers : List Case
unfolding have number numbered refused number_in number_if_any pin_in
refusal_numbers =
    Claims
    (have
    ((1, refusal.StepOver63) ∷
    (2, refusal.ManyLines) ∷
    (3, refusal.RSTOrFUSInProgramming) ∷
    (4, refusal.CLKFallsWithPGMHigh) ∷
    (5, refusal.RSTFallsWithCLKHigh) ∷
    (6, refusal.PGMRisesWithCLKHigh) ∷
    (7, refusal.VCCRisesWithCLKOrPGMHigh) ∷
    (9, refusal.MadeUp) ∷
    (10, refusal.ImageLength) ∷
    (11, refusal.FileTooShort) ∷
    (12, refusal.FirstCount) ∷
    (13, refusal.SecondCount) ∷
    (14, refusal.FuseByte) ∷
    (15, refusal.SessionTooShort) ∷
    (16, refusal.StepCount) ∷
    (17, refusal.FileLength) ∷
    (18, refusal.RunTooLong) ∷
    (19, refusal.AnswersTooShort) ∷
    (21, refusal.WalkTooLong) ∷
    (22, refusal.NoRoom) ∷
    (23, refusal.NoTryLeft) ∷
    [])) ∷
    -- In an answer: 0 where it is no refusal, whatever else is in it; the pin's answer is kept, and 1 stands beside a refusal.
    Claims (eqb (refused {A = ℕ} (Ok 5)) 0 && eqb (refused {A = ℕ} (Err 9)) 9) ∷
    Claims (eqb (number_in {A = ℕ} (Ok 5)) 0 && eqb (number_in {A = ℕ} (Err refusal.MadeUp)) 9) ∷
    Claims (eqb (pin_in (numbered (Ok 0))) 0 && eqb (pin_in (numbered (Err refusal.MadeUp))) 1) ∷
    Claims (eqb (refused (numbered {A = ℕ} (Ok 5))) 0 && eqb (refused (numbered {A = ℕ} (Err refusal.MadeUp))) 9) ∷
    Claims (eqb (number_if_any None) 0 && eqb (number_if_any (Some refusal.MadeUp)) 9) ∷
    []
