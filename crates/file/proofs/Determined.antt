-- Demand 1: two answers that a contract allows coincide, with every lent byte.
use Prim.Native.Nat.{ℕ}
use mathlib.Core.Path.{◌≡◌}
use mathlib.Core.List.{List}
use denote.Ref.{Bor}
use Rattle.std.specs.Prelude.{Result}
use Rattle.memory.proofs.Determined.{determined}
use Rattle.rules.specs.declared.Refusal.{Refusal}
use Rattle.rules.specs.Numbers.{numbered}
use Rattle.rules.proofs.Numbers.{same_numbered}
use Rattle.file.specs.declared.CardFile.{CardFile}
use Rattle.file.specs.declared.Session.{Session}
use Rattle.file.specs.Opening.{CardOpened, SessionOpened, Handed}

module _ (file memory after after' : List ℕ) where
  pub card_determined :
      (r r' : Result CardFile ℕ) → CardOpened file memory r after → CardOpened file memory r' after' →
      (r ≡ r') × (after ≡ after')
  card_determined r r' p q = let same = determined p.answer q.answer in (same, cc (p.bytes, q.bytes, same))

  pub session_determined :
      (r r' : Result Session ℕ) → SessionOpened file memory r after → SessionOpened file memory r' after' →
      (r ≡ r') × (after ≡ after')
  session_determined r r' p q = let same = determined p.answer q.answer in (same, cc (p.bytes, q.bytes, same))

  -- And the refusal itself, which the number tells.
  pub card_answer_determined :
      (r r' : Result CardFile Refusal) → CardOpened file memory (numbered r) after → CardOpened file memory (numbered r') after' →
      (r ≡ r') × (after ≡ after')
  card_answer_determined r r' p q =
      let same = card_determined (numbered r) (numbered r') p q in (same_numbered r r' same.0, same.1)

  pub session_answer_determined :
      (r r' : Result Session Refusal) → SessionOpened file memory (numbered r) after → SessionOpened file memory (numbered r') after' →
      (r ≡ r') × (after ≡ after')
  session_answer_determined r r' p q =
      let same = session_determined (numbered r) (numbered r') p q in (same_numbered r r' same.0, same.1)

-- A part of the caller's bytes: what it holds, and where it lies.
pub steps_determined :
    (file : Bor (List ℕ)) (room : ℕ) (r r' : Bor (List ℕ)) → Handed file room r → Handed file room r' →
    (r.now ≡ r'.now) × (r.ref_ptr ≡ r'.ref_ptr)
steps_determined file room r r' p q = (determined p.bytes q.bytes, λ i. (block i, offset i))
  where
    block : r.ref_ptr.0 ≡ r'.ref_ptr.0
    block = determined p.block q.block

    offset : r.ref_ptr.1 ≡ r'.ref_ptr.1
    offset = determined p.offset q.offset
