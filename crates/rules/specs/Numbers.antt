-- 01, "Numbers a caller can get" and what the openers and the step maker refuse by: the number of each refusal.
use Rattle.std.specs.Prelude.{ℕ, Option, Some, None, Result, Ok, Err}
use Rattle.rules.specs.declared.Refusal.{Refusal}
use Rattle.rules.specs.declared.Refusal.TheVariants as refusal

unfoldable pub number : Refusal → ℕ
number refusal.StepOver63 = 1
number refusal.ManyLines = 2
number refusal.RSTOrFUSInProgramming = 3
number refusal.CLKFallsWithPGMHigh = 4
number refusal.RSTFallsWithCLKHigh = 5
number refusal.PGMRisesWithCLKHigh = 6
number refusal.VCCRisesWithCLKOrPGMHigh = 7
number refusal.MadeUp = 9
number refusal.ImageLength = 10
number refusal.FileTooShort = 11
number refusal.FirstCount = 12
number refusal.SecondCount = 13
number refusal.FuseByte = 14
number refusal.SessionTooShort = 15
number refusal.StepCount = 16
number refusal.FileLength = 17
number refusal.RunTooLong = 18
number refusal.AnswersTooShort = 19
number refusal.WalkTooLong = 21
number refusal.NoRoom = 22
number refusal.NoTryLeft = 23

-- An answer with the number in the place of its refusal.
unfoldable pub numbered : {A : Type 0} → Result A Refusal → Result A ℕ
unfolding number
numbered (Ok x) = Ok x
numbered (Err r) = Err (number r)

-- The number in an answer, 0 where it is no refusal.
unfoldable pub refused : {A : Type 0} → Result A ℕ → ℕ
refused (Ok x) = 0
refused (Err k) = k

unfoldable pub number_in : {A : Type 0} → Result A Refusal → ℕ
unfolding number
number_in (Ok x) = 0
number_in (Err r) = number r

-- The number of a refusal, 0 where there is none.
unfoldable pub number_if_any : Option Refusal → ℕ
unfolding number
number_if_any None = 0
number_if_any (Some r) = number r
