-- Demand 1: two answers that the contract allows coincide, with every byte of the buffer.
use Prim.Native.Nat.{ℕ}
use mathlib.Core.Path.{◌≡◌, ap}
use mathlib.Core.List.{List}
use Rattle.std.specs.Prelude.{Result, Ok, Err}
use Rattle.memory.proofs.Determined.{determined}
use Rattle.text_lines.specs.declared.faults.Fault.{Fault}
use Rattle.text_lines.specs.Faults.{number}
use Rattle.text_lines.proofs.ByNumber.{same_fault}
use Rattle.text.specs.Assembling.{told, Assembles}
use Rattle.text.specs.declared.Wrong.{Wrong}

-- An answer is known by what is told of it.
same_told : (r r' : Result ℕ Wrong) → told r ≡ told r' → r ≡ r'
unfolding told
same_told (Ok n) (Ok m) e = cc
same_told (Ok n) (Err w) e = cc
same_told (Err w) (Ok n) e = cc
same_told (Err w) (Err v) e =
    let both : ◌≡◌ {A = ℕ × ℕ} (w.line, number w.fault) (v.line, number v.fault) = cc in
    ap Err
    (go w.line v.line w.fault v.fault (ap (λ (p : ℕ × ℕ). p.0) both) (same_fault w.fault v.fault (ap (λ (p : ℕ × ℕ). p.1) both)))
  where
    go :
        (a b : ℕ) (f g : Fault) → a ≡ b → f ≡ g
        → ◌≡◌ {A = Wrong} (record { line = a; fault = f }) (record { line = b; fault = g })
    go a b f g p q = cc

pub assembly_determined :
    (text buffer : List ℕ) (r r' : Result ℕ (ℕ × ℕ)) (after after' : List ℕ)
    → Assembles text buffer r after → Assembles text buffer r' after' → (r ≡ r') × (after ≡ after')
assembly_determined text buffer r r' after after' p q =
    let same = determined p.answer q.answer in
    (same, cc (p.kept, q.kept, same))

-- And the fault itself, which the number tells.
pub answer_determined :
    (text buffer : List ℕ) (r r' : Result ℕ Wrong) (after after' : List ℕ)
    → Assembles text buffer (told r) after → Assembles text buffer (told r') after' → (r ≡ r') × (after ≡ after')
answer_determined text buffer r r' after after' p q =
    let same = assembly_determined text buffer (told r) (told r') after after' p q in
    (same_told r r' same.0, same.1)
