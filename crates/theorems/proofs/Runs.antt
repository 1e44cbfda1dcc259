-- A run over a list in two parts: the run of the first, and where none of its steps is refused, the run of the second from the card that
-- the first has left.
use Prim.Native.Nat.{ℕ}
use mathlib.Core.Path.{◌≡◌, refl}
use mathlib.Core.Bool.{Bool, true, false, cond}
use mathlib.Core.List.{List, [], ◌∷◌, ◌++◌}
use lib.Dec.{eqb}
use borrow.Author.Tests.{eqb-false, ne_eqb}
use Rattle.rules.specs.Halves.{Card}
use Rattle.rules.specs.Refusals.{refusal}
use Rattle.rules.specs.Steps.{next, pin}
use Rattle.rules.specs.Card.{Ran, added, run}

-- A run with answers that were given before it.
abbrev pub behind : List ℕ → Ran → Ran
behind xs r = record { card = r.card; answers = xs ++ r.answers; refused = r.refused }

abbrev pub then : Ran → List ℕ → Ran
then r ns = cond (eqb r.refused 0) (behind r.answers (run r.card ns)) r

then_added : (b : ℕ) (r : Ran) (ns : List ℕ) → added b (then r ns) ≡ then (added b r) ns
then_added b r ns = go (eqb r.refused 0)
  where
    go :
        (t : Bool) →
        added b (cond t (behind r.answers (run r.card ns)) r) ≡
        cond t (behind (b ∷ r.answers) (run r.card ns)) (added b r)
    go true = refl
    go false = refl

pub run_append : (c : Card) (ns ns' : List ℕ) → run c (ns ++ ns') ≡ then (run c ns) ns'
unfolding run
run_append c [] ns' = refl
run_append c (n ∷ ns) ns' = go (eqb (refusal c.volatile n) 0) refl (run_append (next c n) ns ns')
  where
    go :
        (t : Bool) → eqb (refusal c.volatile n) 0 ≡ t → run (next c n) (ns ++ ns') ≡ then (run (next c n) ns) ns' →
        run c (n ∷ ns ++ ns') ≡ then (run c (n ∷ ns)) ns'
    go true e rest = rw (e, rest) (then_added (pin (next c n)) (run (next c n) ns) ns')
    go false e rest = rw (e, ne_eqb (refusal c.volatile n) 0 (eqb-false (refusal c.volatile n) 0 e))
