-- Demand 1: two answers that a contract allows coincide, with every lent byte.
use Prim.Native.Nat.{ℕ}
use mathlib.Core.Path.{◌≡◌}
use mathlib.Core.List.{List}
use Rattle.memory.proofs.Determined.{determined}
use Rattle.exports.specs.declared.acts.ZhavMade.{ZhavMade}
use Rattle.exports.specs.declared.openers.ZhavCard.{ZhavCard}
use Rattle.exports.specs.declared.openers.ZhavSession.{ZhavSession}
use Rattle.exports.specs.Told.{ActTold, CardTold, SessionTold}

module _ (from buffer after after' : List ℕ) where
  pub act_determined :
      (refused : ℕ) (r r' : ZhavMade) → ActTold refused from buffer r after → ActTold refused from buffer r' after' →
      (r ≡ r') × (after ≡ after')
  act_determined refused r r' p q = (determined p.answer q.answer, determined p.bytes q.bytes)

  pub card_determined :
      (r r' : ZhavCard) → CardTold from buffer r after → CardTold from buffer r' after' → (r ≡ r') × (after ≡ after')
  card_determined r r' p q = (determined p.answer q.answer, determined p.bytes q.bytes)

  pub session_determined :
      (r r' : ZhavSession) → SessionTold from buffer r after → SessionTold from buffer r' after' → (r ≡ r') × (after ≡ after')
  session_determined r r' p q = (determined p.answer q.answer, determined p.bytes q.bytes)
