-- The session opener accepts what a text means, and finds its sections.
use Prim.Native.Nat.{ℕ, suc, ◌+◌, ◌*◌, ◌/◌, ◌%◌}
use mathlib.Core.Path.{◌≡◌, refl}
use mathlib.Core.List.{List, ◌∷◌}
use native.Mathlib.Omega.{arith}
use borrow.Author.Tests.{eq-eqb, le-ltb}
use lib.ListN.{length, get_or}
use lib.Seq.{take_at, take-length, drop-append-add, get_or-append-add}
use Rattle.memory.specs.Image.{bytes}
use Rattle.rules.specs.Refusals.{longest}
use Rattle.rules.specs.File.{steps_at, count, memory_section, fuse_section, step_count, step_section, session_refusal}
use Rattle.text.specs.Sheet.{Sheet}
use Rattle.text.specs.Meaning.{session_of, session, Whole, meaning}
use Rattle.text.specs.Assembling.{Opened}
use Rattle.text.proofs.Sections.{length_session}
use Rattle.text.proofs.Soundness.{Sound, sound}

module _ (s : Sheet) (h : Sound s) where
  tail : List ℕ
  tail = 1 ∷ 0 ∷ s.fuses ∷ (length s.steps % 256) ∷ (length s.steps / 256) ∷ s.steps

  -- Byte k after the image.
  after : (k : ℕ) → get_or (session s) (2 + bytes + k) 0 ≡ get_or tail k 0
  unfolding session session_of tail
  after k =
      let q : 2 + bytes + k ≡ suc (suc (length s.image + k)) = omega (arith, h.image) in
      rw q (get_or-append-add s.image tail k 0)

  fused : fuse_section (session s) ≡ s.fuses
  unfolding fuse_section tail
  fused = after 2

  whole_count : (n : ℕ) → n % 256 + 256 * (n / 256) ≡ n
  whole_count n = omega arith

  counted : step_count (session s) ≡ length s.steps
  unfolding step_count tail
  counted = rw (after 3, after 4) (whole_count (length s.steps))

  remembered : memory_section (session s) ≡ s.image
  unfolding memory_section session session_of
  remembered = take_at s.image _ bytes h.image

  stepped : step_section (session s) ≡ s.steps
  unfolding step_section session session_of tail
  stepped =
      let q : steps_at ≡ suc (suc (length s.image + 5)) = omega (arith, h.image) in
      rw (counted, q, drop-append-add s.image tail 5) (take-length s.steps)

  long : length (session s) ≡ steps_at + length s.steps
  unfolding session
  long = omega (arith, length_session s.image s.fuses s.steps, h.image)

  first_count : count (session s) 0 ≡ bytes
  unfolding count session session_of
  first_count = refl

  second_count : count (session s) (2 + bytes) ≡ 1
  unfolding count tail
  second_count = rw (after 0, after 1) refl

  accepted : session_refusal (session s) bytes ≡ 0
  unfolding session_refusal
  accepted =
      let file = session s in
      rw (
        le-ltb (length file) 179 (omega (arith, long)),
        eq-eqb (count file 0) bytes first_count,
        eq-eqb (count file (2 + bytes)) 1 second_count,
        le-ltb 7 (fuse_section file) (omega (arith, fused, h.fuses)),
        le-ltb (length file) steps_at (omega (arith, long)),
        le-ltb longest (step_count file) (omega (arith, counted, h.steps)),
        eq-eqb (length file) (steps_at + step_count file) (omega (arith, counted, long)),
      )
      refl

pub opened : (text : List ℕ) (s : Sheet) → meaning text ≡ Whole s → Opened s
opened text s e =
    let h = sound text s e in
    record { accepted = accepted s h; memory = remembered s h; fuses = fused s h; steps = stepped s h }
