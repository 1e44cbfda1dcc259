-- What a caller knows from a session's answer: of the parts, that a run takes them; of the number, that it is the refusal.
use Prim.Native.Nat.{ℕ, ◌+◌, ◌≤◌}
use mathlib.Core.Path.{◌≡◌, refl, sym, ap}
use mathlib.Core.Bool.{Bool, true, false, cond}
use mathlib.Core.List.{List, []}
use native.Mathlib.Omega.{arith}
use borrow.Author.Tests.{eqb-true, eqb-false}
use lib.Dec.{eqb}
use lib.ListN.{length, drop, length-drop}
use lib.Seq.{length-take-le}
use Rattle.std.specs.Prelude.{Result, Ok, Err}
use Rattle.rules.specs.File.{steps_at, fuse_section, step_count, step_section, session_refusal}
use Rattle.file.specs.Opening.{session_answer, session_fuses, session_steps, handed_steps}
use Rattle.file.specs.declared.Session.{Session}
use Rattle.file_refusals.proofs.Refusals.{WholeSession, whole_session}

pub record Opened (file : List ℕ) (room f n : ℕ) : Type 0 where
  pub accepted : session_refusal file room ≡ 0
  pub whole : WholeSession file room
  pub fuses : f ≡ fuse_section file
  pub steps : n ≡ step_count file
  pub handed : handed_steps file room ≡ step_section file
  pub long : length (step_section file) ≡ n

section_length : (file : List ℕ) (n : ℕ) → length file ≡ steps_at + n → n ≤ length (drop steps_at file)
section_length file n e = simp length-drop (omega arith)

pub opened : (file : List ℕ) (room f n : ℕ) → session_answer file room ≡ Ok (record { fuses = f; steps = n }) → Opened file room f n
unfolding session_answer session_fuses session_steps handed_steps
opened file room f n e = go (eqb (session_refusal file room) 0) refl e
  where
    answered : Bool → Result Session ℕ
    answered t = cond t (Ok (record { fuses = fuse_section file; steps = step_count file })) (Err (session_refusal file room))

    go :
        (t : Bool) → eqb (session_refusal file room) 0 ≡ t
        → answered t ≡ Ok (record { fuses = f; steps = n }) → Opened file room f n
    go true z p =
        let a : session_refusal file room ≡ 0 = eqb-true (session_refusal file room) 0 z in
        let w = whole_session file room a in
        let g : f ≡ fuse_section file = sym (ap session_fuses p) in
        let s : n ≡ step_count file = sym (ap session_steps p) in
        record {
          accepted = a;
          whole = w;
          fuses = g;
          steps = s;
          handed = rw z refl;
          long = rw s (length-take-le (step_count file) (drop steps_at file) (section_length file (step_count file) w.counted));
        }
    go false z p = let q : ◌≡◌ {A = ℕ} 0 1 = cc in absurd (eqb-false 0 1 refl q)

pub record Barred (file : List ℕ) (room k : ℕ) : Type 0 where
  pub number : k ≡ session_refusal file room
  pub refused : k ≡ 0 → ⊥
  pub handed : handed_steps file room ≡ []

pub barred : (file : List ℕ) (room k : ℕ) → session_answer file room ≡ Err k → Barred file room k
unfolding session_answer handed_steps
barred file room k e = go (eqb (session_refusal file room) 0) refl e
  where
    answered : Bool → Result Session ℕ
    answered t = cond t (Ok (record { fuses = fuse_section file; steps = step_count file })) (Err (session_refusal file room))

    go :
        (t : Bool) → eqb (session_refusal file room) 0 ≡ t
        → answered t ≡ Err k → Barred file room k
    go true z p = let q : ◌≡◌ {A = ℕ} 0 1 = cc in absurd (eqb-false 0 1 refl q)
    go false z p =
        let s : k ≡ session_refusal file room = cc in
        record { number = s; refused = rw s (eqb-false (session_refusal file room) 0 z); handed = rw z refl }
