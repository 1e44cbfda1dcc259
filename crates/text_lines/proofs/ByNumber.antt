-- A fault is known by its number.
use Prim.Native.Nat.{ℕ, ◌-◌, ◌≤◌, ◌<◌}
use native.Mathlib.Omega.{arith}
use native.Mathlib.Decide.{dec_lt}
use mathlib.Core.Path.{◌≡◌, refl, sym, ap, ◌∙◌}
use mathlib.Core.List.{[], ◌∷◌}
use lib.ListN.{get_or}
use Rattle.std.specs.Prelude.{Result, Ok, Err}
use Rattle.rules.specs.declared.Refusal.{Refusal}
use Rattle.rules.specs.declared.Refusal.TheVariants as refusal
use Rattle.rules.specs.Numbers.{number as refusal_number}
use Rattle.rules.proofs.Numbers.{same_number}
use Rattle.text_lines.specs.declared.faults.Fault.{Fault}
use Rattle.text_lines.specs.declared.faults.Fault.TheVariants.{Unknown, Unfit, Beyond, AfterAStep, Elsewhere, NoRoom, TooLong, Maker}
use Rattle.text_lines.specs.Faults.{number, numbered}

-- The step maker's are below the text's own.
below_71 : (r : Refusal) → refusal_number r < 71
unfolding refusal_number
below_71 refusal.StepOver63 = omega arith
below_71 refusal.ManyLines = omega arith
below_71 refusal.RSTOrFUSInProgramming = omega arith
below_71 refusal.CLKFallsWithPGMHigh = omega arith
below_71 refusal.RSTFallsWithCLKHigh = omega arith
below_71 refusal.PGMRisesWithCLKHigh = omega arith
below_71 refusal.VCCRisesWithCLKOrPGMHigh = omega arith
below_71 refusal.MadeUp = omega arith
below_71 refusal.ImageLength = omega arith
below_71 refusal.FileTooShort = omega arith
below_71 refusal.FirstCount = omega arith
below_71 refusal.SecondCount = omega arith
below_71 refusal.FuseByte = omega arith
below_71 refusal.SessionTooShort = omega arith
below_71 refusal.StepCount = omega arith
below_71 refusal.FileLength = omega arith
below_71 refusal.RunTooLong = omega arith
below_71 refusal.AnswersTooShort = omega arith
below_71 refusal.WalkTooLong = omega arith
below_71 refusal.NoRoom = omega arith
below_71 refusal.NoTryLeft = omega arith

-- The text's own fault of a number from 71 on.
unfoldable own : ℕ → Fault
own k = get_or (Unknown ∷ Unfit ∷ Beyond ∷ AfterAStep ∷ Elsewhere ∷ NoRoom ∷ TooLong ∷ []) (k - 71) Unknown

by_own : (f : Fault) → 71 ≤ number f → own (number f) ≡ f
unfolding number own
by_own Unknown h = refl
by_own Unfit h = refl
by_own Beyond h = refl
by_own AfterAStep h = refl
by_own Elsewhere h = refl
by_own NoRoom h = refl
by_own TooLong h = refl
by_own (Maker r) h = absurd (omega (arith, below_71 r))

by_maker : (f : Fault) → number f < 71 → (r : Refusal) × (f ≡ Maker r) × (number f ≡ refusal_number r)
unfolding number
by_maker Unknown h = absurd (omega arith)
by_maker Unfit h = absurd (omega arith)
by_maker Beyond h = absurd (omega arith)
by_maker AfterAStep h = absurd (omega arith)
by_maker Elsewhere h = absurd (omega arith)
by_maker NoRoom h = absurd (omega arith)
by_maker TooLong h = absurd (omega arith)
by_maker (Maker r) h = (r, refl, refl)

pub same_fault : (f g : Fault) → number f ≡ number g → f ≡ g
same_fault f g e = go (dec_lt (number f) 71)
  where
    go : Dec (number f < 71) → f ≡ g
    go (yes h) =
        let p = by_maker f h in
        let q = by_maker g (rw e at h) in
        p.1 ∙ (ap Maker (same_number p.0 q.0 (sym p.2 ∙ (e ∙ q.2))) ∙ sym q.1)
    go (no h) = sym (by_own f (omega arith)) ∙ (ap own e ∙ by_own g (omega (arith, e)))

-- An answer is known by what is promised of it.
pub same_numbered : {A : Type 0} (a a' : Result A Fault) → numbered a ≡ numbered a' → a ≡ a'
unfolding numbered
same_numbered (Ok x) (Ok y) e = cc
same_numbered (Ok x) (Err f) e = cc
same_numbered (Err f) (Ok x) e = cc
same_numbered (Err f) (Err g) e = let k : number f ≡ number g = cc in ap Err (same_fault f g k)
