-- What holds of every sheet that a text comes to.
use Prim.Native.Nat.{ℕ, suc, ◌-◌, ◌≤◌}
use mathlib.Core.Path.{◌≡◌, refl, ◌∙◌}
use mathlib.Core.Bool.{Bool, true, false, cond}
use mathlib.Core.List.{List, [], ◌∷◌, ◌++◌}
use native.Mathlib.Omega.{arith}
use lib.Dec.{eqb}
use lib.ListN.{length, length-append, length-replicate}
use lib.Seq.{length-sets}
use Rattle.memory.specs.Image.{bytes}
use Rattle.memory.proofs.Laws.{length_filled}
use Rattle.rules.specs.Refusals.{longest}
use Rattle.maker.specs.Act.{made}
use Rattle.std.specs.Prelude.{Result, Ok, Err}
use Rattle.words.specs.Scan.{lines_of}
use Rattle.text_lines.specs.Orders.{all_ones, line_order}
use Rattle.text_lines.specs.declared.Change.{Change}
use Rattle.text_lines.specs.declared.Change.TheVariants.{Fill, Bytes, Fuses}
use Rattle.text_lines.specs.declared.Order.{Order}
use Rattle.text_lines.specs.declared.Order.TheVariants.{Nothing, Image, Drive}
use Rattle.text_lines.proofs.Fitting.{Fitting, line_fits}
use Rattle.text.specs.Sheet.{Sheet, Outcome, Went, Stopped, sheet_with, blank_sheet, bytes_of, changed_image, changed_fuses}
use Rattle.text.specs.Sheet.{changed, added, after_a_step, driven, follow, obeyed}
use Rattle.text.specs.Meaning.{Reading, Whole, Amiss, onward, reading, meaning}
use Rattle.text.proofs.Driving.{wrote}

pub record Sound (s : Sheet) : Type 0 where
  pub image : length s.image ≡ bytes
  pub fuses : s.fuses ≤ 7
  pub steps : length s.steps ≤ longest

pub data SoundOutcome : Outcome → Type 0 where
  went : {s : Sheet} → Sound s → SoundOutcome (Went s)
  stopped : {k : ℕ} → SoundOutcome (Stopped k)

pub data SoundReading : Reading → Type 0 where
  whole : {s : Sheet} → Sound s → SoundReading (Whole s)
  amiss : {line k : ℕ} → SoundReading (Amiss line k)

module _ (s : Sheet) (h : Sound s) where
  changed_sound : (c : Change) → Fitting (Ok (Image c)) → Sound (changed c s)
  unfolding changed changed_image changed_fuses
  changed_sound (Fill first count v) f =
      record { image = length_filled first count v s.image ∙ h.image; fuses = h.fuses; steps = h.steps }
  changed_sound (Bytes first count x) f =
      record { image = length-sets s.image first (bytes_of count x) ∙ h.image; fuses = h.fuses; steps = h.steps }
  changed_sound (Fuses n) f = record { image = h.image; fuses = f.fuses; steps = h.steps }

  added_sound :
      (refusal : ℕ) (xs : List ℕ) (m : Result ℕ ℕ) → made refusal xs (longest - length s.steps) ≡ m → SoundOutcome (added m xs s)
  unfolding added
  added_sound refusal xs (Ok n) e =
      let f = wrote refusal (longest - length s.steps) n xs e in
      let t : Sound (record { image = s.image; fuses = s.fuses; steps = s.steps ++ xs }) =
      record { image = h.image; fuses = h.fuses; steps = omega (arith, length-append s.steps xs, f.roomy, h.steps) } in
      went t
  added_sound refusal xs (Err k) e = stopped

  follow_sound : (o : Order) → Fitting (Ok o) → SoundOutcome (follow o s)
  unfolding follow driven
  follow_sound Nothing f = went h
  follow_sound (Image c) f = go (eqb (length s.steps) 0)
    where
      go : (t : Bool) → SoundOutcome (cond t (Went (changed c s)) (Stopped after_a_step))
      go true = went (changed_sound c f)
      go false = stopped
  follow_sound (Drive act) f = added_sound _ _ _ refl

  obeyed_sound : (r : Result Order ℕ) → Fitting r → SoundOutcome (obeyed r s)
  unfolding obeyed
  obeyed_sound (Ok o) f = follow_sound o f
  obeyed_sound (Err k) f = stopped

reading_sound : (ls : List (List ℕ)) (line : ℕ) (s : Sheet) → Sound s → SoundReading (reading line s ls)
unfolding reading onward
reading_sound [] line s h = whole h
reading_sound (l ∷ ls) line s h =
    go (obeyed (line_order l) s) (obeyed_sound s h (line_order l) (line_fits l)) (λ t k. reading_sound ls (suc line) t k)
  where
    go :
        (o : Outcome) → SoundOutcome o → ((t : Sheet) → Sound t → SoundReading (reading (suc line) t ls))
        → SoundReading (onward line o (λ t. reading (suc line) t ls))
    go (Went t) (went k) rest = rest t k
    go (Stopped k) stopped rest = amiss

meaning_sound : (text : List ℕ) → SoundReading (meaning text)
unfolding meaning blank_sheet sheet_with
meaning_sound text =
    reading_sound (lines_of text) 1 blank_sheet
    (record { image = length-replicate {A = ℕ} bytes all_ones; fuses = omega arith; steps = omega arith })

pub sound : (text : List ℕ) (s : Sheet) → meaning text ≡ Whole s → Sound s
sound text s e = go (meaning text) (meaning_sound text) e
  where
    go : (m : Reading) → SoundReading m → m ≡ Whole s → Sound s
    go (Whole t) (whole h) q = let z : t ≡ s = cc in rw z at h
    go (Amiss line k) amiss q = cc
