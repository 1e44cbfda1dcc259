-- The promises on the reason speak of something: a write that has the right, one that has not, and a block write that is granted one thing
-- after the other.
use Prim.Native.Nat.{ℕ, ◌+◌}
use mathlib.Core.Path.{◌≡◌}
use mathlib.Core.Bool.{true, false}
use Rattle.memory.specs.Image.{bit}
use Rattle.rules.specs.declared.Operation.TheVariants.{WriteBit}
use Rattle.rules.specs.declared.Reason.TheVariants.{SVMissing, ISSBlown, FUSLow, RightIsThere}
use Rattle.rules.specs.Halves.{Card}
use Rattle.rules.specs.Lines.{CLK, PGM}
use Rattle.rules.specs.Refusals.{state_refusal}
use Rattle.rules.specs.CaseForms.{SV, P1, Programming, card_at, ones}
use Rattle.rules.specs.Computing.{the_card}
use Rattle.rules.specs.ReasonPromises.{reason_of, performed, lowered, raised, with_low, mended, granting, is_of_the_last_six}

-- A write at 178 of an issued card, PGM still high.
abbrev spend : ℕ → Card
spend holding = card_at 13 3 ones 178 (holding + Programming)

pub record Spent : Type 0 where
  pub sound : state_refusal (spend (SV + P1)) ≡ 0
  pub told : reason_of (spend (SV + P1)) ≡ RightIsThere
  pub operation : performed (spend (SV + P1)) ≡ WriteBit
  pub written : bit (with_low CLK (with_low PGM (spend (SV + P1)))).memory 178 ≡ false

pub spent : Spent
unfolding the_card card_at ones performed lowered
spent = search

pub record Unspent : Type 0 where
  pub sound : state_refusal (spend P1) ≡ 0
  pub told : reason_of (spend P1) ≡ SVMissing
  pub kept : bit (with_low CLK (with_low PGM (spend P1))).memory 178 ≡ true

pub unspent : Unspent
unfolding the_card card_at ones lowered
unspent = search

-- A write at the block word with nothing there; once granted SV, ISS and FUS.
abbrev block : Card
block = card_at 5 3 ones 1392 Programming

abbrev opened : Card
opened = granting SVMissing block

abbrev mending : Card
mending = granting ISSBlown opened

pub record GrantedInOrder : Type 0 where
  pub sound : state_refusal block ≡ 0
  pub first : reason_of block ≡ SVMissing
  pub missing : is_of_the_last_six (reason_of block) ≡ true
  pub second : reason_of opened ≡ ISSBlown
  pub third : reason_of mending ≡ FUSLow
  pub last : reason_of (granting FUSLow mending) ≡ RightIsThere

pub granted_in_order : GrantedInOrder
unfolding the_card card_at ones raised mended granting is_of_the_last_six
granted_in_order = search
