-- The calls' contracts and the checked step and run of the definitions are one: of a packed half whose word holds no more than the flags.
use Prim.Native.Nat.{ℕ, ◌≤◌}
use native.Mathlib.Omega.{arith}
use mathlib.Core.Path.{◌≡◌, refl, ap, ◌∙◌}
use mathlib.Core.Bool.{Bool, true, false, cond}
use mathlib.Core.List.{List}
use lib.Dec.{eqb}
use lib.ListN.{length}
use borrow.Author.Tests.{le-ltb}
use Rattle.rules.specs.Halves.{Card}
use Rattle.rules.specs.Refusals.{state_refusal, before_a_run, run_refusal}
use Rattle.rules.specs.Card.{Ran, ended, stepped, run, checked_step, checked_answer, checked_run}
use Rattle.volatile.specs.Packed.{Given, card_of, handed_back, made_up_word}
use Rattle.volatile.proofs.Packing.{packed_unpacked}
use Rattle.refusals.specs.Before.{given_refusal, given_run_refusal}
use Rattle.card.specs.Calls.{step_leaves, step_answer, run_leaves, run_answers, run_refused}

-- A part of a choice is the choice of the parts.
part : {A B : Type 0} (f : A → B) (t : Bool) (x y : A) → cond t (f x) (f y) ≡ f (cond t x y)
part f true x y = refl
part f false x y = refl

module _ (g : Given) (word : g.half.flags ≤ 127) where
  same_refusal : given_refusal g ≡ state_refusal (card_of g)
  unfolding given_refusal state_refusal made_up_word
  same_refusal = rw (le-ltb 127 g.half.flags word)

  -- The card as it was given is the one that it stands for.
  again : (t : Bool) (c : Card) → cond t (handed_back c) g ≡ handed_back (cond t c (card_of g))
  again t c = ap (cond t (handed_back c)) (rw (packed_unpacked g.half (omega (arith, word)))) ∙ part handed_back t c (card_of g)

  module _ (n : ℕ) where
    pub step_leaves_as_checked : step_leaves g n ≡ handed_back (checked_step (card_of g) n)
    unfolding step_leaves checked_step
    step_leaves_as_checked = rw same_refusal (again (eqb (state_refusal (card_of g)) 0) (stepped (card_of g) n))

    pub step_answers_as_checked : step_answer g n ≡ checked_answer (card_of g) n
    unfolding step_answer checked_answer
    step_answers_as_checked = rw same_refusal

  module _ (steps : List ℕ) (room : ℕ) where
    abbrev k : ℕ
    k = run_refusal (card_of g) (length steps) room

    run_refusals : given_run_refusal g (length steps) room ≡ k
    unfolding given_run_refusal run_refusal
    run_refusals = ap (λ (j : ℕ). before_a_run j (length steps) room) same_refusal

    pub run_leaves_as_checked : run_leaves g steps room ≡ handed_back (checked_run (card_of g) steps room).card
    unfolding run_leaves checked_run
    run_leaves_as_checked =
        rw run_refusals
        (again (eqb k 0) (run (card_of g) steps).card ∙
        ap handed_back (part (λ (r : Ran). r.card) (eqb k 0) (run (card_of g) steps) (ended (card_of g) k)))

    pub run_answers_as_checked : run_answers g steps room ≡ (checked_run (card_of g) steps room).answers
    unfolding run_answers checked_run
    run_answers_as_checked = rw run_refusals (part (λ (r : Ran). r.answers) (eqb k 0) (run (card_of g) steps) (ended (card_of g) k))

    pub run_refused_as_checked : run_refused g steps room ≡ (checked_run (card_of g) steps room).refused
    unfolding run_refused checked_run
    run_refused_as_checked = rw run_refusals (part (λ (r : Ran). r.refused) (eqb k 0) (run (card_of g) steps) (ended (card_of g) k))
