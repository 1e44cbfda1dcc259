-- What the number of a refusal tells: it is no answer's, and the refusal is known by it.
use Prim.Native.Nat.{ℕ, ◌≤◌}
use native.Mathlib.Omega.{arith}
use mathlib.Core.Path.{◌≡◌, refl, sym, ap, ◌∙◌}
use mathlib.Core.List.{[], ◌∷◌}
use lib.ListN.{get_or}
use Rattle.std.specs.Prelude.{Option, Some, None, Result, Ok, Err, ⊤}
use Rattle.rules.specs.declared.Refusal.{Refusal}
use Rattle.rules.specs.declared.Refusal.TheVariants as refusal
use Rattle.rules.specs.Numbers.{number, numbered, number_in, number_if_any}

-- The refusal of a number. At the numbers that none has it stands for nothing.
unfoldable refusal_of : ℕ → Refusal
refusal_of k =
    get_or (refusal.NoTryLeft ∷ refusal.StepOver63 ∷ refusal.ManyLines ∷ refusal.RSTOrFUSInProgramming ∷
    refusal.CLKFallsWithPGMHigh ∷ refusal.RSTFallsWithCLKHigh ∷ refusal.PGMRisesWithCLKHigh ∷
    refusal.VCCRisesWithCLKOrPGMHigh ∷ refusal.NoTryLeft ∷ refusal.MadeUp ∷ refusal.ImageLength ∷ refusal.FileTooShort ∷
    refusal.FirstCount ∷ refusal.SecondCount ∷ refusal.FuseByte ∷ refusal.SessionTooShort ∷ refusal.StepCount ∷
    refusal.FileLength ∷ refusal.RunTooLong ∷ refusal.AnswersTooShort ∷ refusal.NoTryLeft ∷ refusal.WalkTooLong ∷
    refusal.NoRoom ∷ refusal.NoTryLeft ∷ []) k refusal.NoTryLeft

named : (r : Refusal) → (1 ≤ number r) × (refusal_of (number r) ≡ r)
unfolding number refusal_of
named refusal.StepOver63 = (omega arith, refl)
named refusal.ManyLines = (omega arith, refl)
named refusal.RSTOrFUSInProgramming = (omega arith, refl)
named refusal.CLKFallsWithPGMHigh = (omega arith, refl)
named refusal.RSTFallsWithCLKHigh = (omega arith, refl)
named refusal.PGMRisesWithCLKHigh = (omega arith, refl)
named refusal.VCCRisesWithCLKOrPGMHigh = (omega arith, refl)
named refusal.MadeUp = (omega arith, refl)
named refusal.ImageLength = (omega arith, refl)
named refusal.FileTooShort = (omega arith, refl)
named refusal.FirstCount = (omega arith, refl)
named refusal.SecondCount = (omega arith, refl)
named refusal.FuseByte = (omega arith, refl)
named refusal.SessionTooShort = (omega arith, refl)
named refusal.StepCount = (omega arith, refl)
named refusal.FileLength = (omega arith, refl)
named refusal.RunTooLong = (omega arith, refl)
named refusal.AnswersTooShort = (omega arith, refl)
named refusal.WalkTooLong = (omega arith, refl)
named refusal.NoRoom = (omega arith, refl)
named refusal.NoTryLeft = (omega arith, refl)

-- 0 is an answer's.
pub at_least_1 : (r : Refusal) → 1 ≤ number r
at_least_1 r = (named r).0

pub some_number : (r : Refusal) → number r ≡ 0 → ⊥
some_number r e = let k : 1 ≤ number r = at_least_1 r in absurd (omega (arith, e))

pub same_number : (r r' : Refusal) → number r ≡ number r' → r ≡ r'
same_number r r' e = sym (named r).1 ∙ (ap refusal_of e ∙ (named r').1)

-- An answer is known by what is promised of it.
pub same_numbered : {A : Type 0} (a a' : Result A Refusal) → numbered a ≡ numbered a' → a ≡ a'
unfolding numbered
same_numbered (Ok x) (Ok y) e = cc
same_numbered (Ok x) (Err r) e = cc
same_numbered (Err r) (Ok x) e = cc
same_numbered (Err r) (Err r') e = let k : number r ≡ number r' = cc in ap Err (same_number r r' k)

-- And one without a value by the number in it.
pub same_number_in : (a a' : Result ⊤ Refusal) → number_in a ≡ number_in a' → a ≡ a'
unfolding number_in
same_number_in (Ok x) (Ok y) e = refl
same_number_in (Ok x) (Err r) e = let k : 1 ≤ number r = at_least_1 r in absurd (omega arith)
same_number_in (Err r) (Ok x) e = let k : 1 ≤ number r = at_least_1 r in absurd (omega arith)
same_number_in (Err r) (Err r') e = ap Err (same_number r r' e)

pub same_number_if_any : (a a' : Option Refusal) → number_if_any a ≡ number_if_any a' → a ≡ a'
unfolding number_if_any
same_number_if_any None None e = refl
same_number_if_any None (Some r) e = let k : 1 ≤ number r = at_least_1 r in absurd (omega arith)
same_number_if_any (Some r) None e = let k : 1 ≤ number r = at_least_1 r in absurd (omega arith)
same_number_if_any (Some r) (Some r') e = ap Some (same_number r r' e)
