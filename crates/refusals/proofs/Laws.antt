-- The refusals before any step, in their order.
use Prim.Native.Nat.{ℕ, ◌≤◌, ◌<◌}
use mathlib.Core.Path.{◌≡◌}
use mathlib.Core.Bool.{true, not}
use lib.Dec.{eqb, ltb}
use lib.ListN.{length}
use borrow.Author.Tests.{eqb-true, eq-eqb, ne_eqb, lt-ltb, le-ltb, ltb-false, not-false}
use Rattle.memory.specs.Image.{bytes}
use Rattle.rules.specs.declared.Refusal.{Refusal}
use Rattle.rules.specs.Numbers.{number}
use Rattle.rules.specs.Steps.{pin}
use Rattle.rules.proofs.Numbers.{some_number}
use Rattle.theorems.proofs.Tests.{peel}
use Rattle.volatile.specs.Packed.{Given, card_of, made_up_word, plainly_sound}
use Rattle.volatile.specs.Inner.{Ready}
use Rattle.volatile.proofs.PlainlySound.{plainly_sound_lem}
use Rattle.refusals.specs.Before.{given_refusal, given_run_refusal}

-- The few tests let pass no state that is refused.
pub none_refused : (g : Given) → length g.memory ≡ bytes → g.fuses ≤ 7 → plainly_sound g.half ≡ true → given_refusal g ≡ 0
unfolding given_refusal
none_refused g sized few plain = rw (eq-eqb (length g.memory) bytes sized, le-ltb 7 g.fuses few, plainly_sound_lem g.half plain)

-- A card that is refused by nothing is ready.
pub ready_at : (g : Given) (p : ℕ) → given_refusal g ≡ 0 → p ≡ pin (card_of g) → Ready g p
unfolding given_refusal
ready_at g p z e =
    let a = peel (not (eqb (length g.memory) bytes)) 9 _ z in
    let b = peel (ltb 7 g.fuses) 13 _ a.1 in
    let d = peel (made_up_word g.half) 8 0 b.1 in
    record {
      sized = eqb-true (length g.memory) bytes (not-false (eqb (length g.memory) bytes) a.0);
      fused = ltb-false 7 g.fuses b.0;
      sound = d.0;
      pinned = e;
    }

module _ (g : Given) (steps room : ℕ) where
  pub state_first : (r : Refusal) → number r ≡ given_refusal g → number r ≡ given_run_refusal g steps room
  unfolding given_run_refusal
  state_first r e = rw (← e, ne_eqb (number r) 0 (some_number r))

  pub over_long : 0 ≡ given_refusal g → 4096 < steps → 18 ≡ given_run_refusal g steps room
  unfolding given_run_refusal
  over_long e h = rw (← e, lt-ltb 4096 steps h)

  pub too_little_room : 0 ≡ given_refusal g → steps ≤ 4096 → room < steps → 19 ≡ given_run_refusal g steps room
  unfolding given_run_refusal
  too_little_room e h k = rw (← e, le-ltb 4096 steps h, lt-ltb room steps k)

  pub all_well : 0 ≡ given_refusal g → steps ≤ 4096 → steps ≤ room → 0 ≡ given_run_refusal g steps room
  unfolding given_run_refusal
  all_well e h k = rw (← e, le-ltb 4096 steps h, le-ltb room steps k)
