-- What reads and writes in turn do to known bytes.
use Rattle.std.proofs.Common.{◌≡◌, ℕ, ◌+◌, ◌-◌, ◌≤◌, List, ◌++◌, Option, length, take, drop, sym, ap, ◌∙◌, subst, arith, le_refl, drop_at, length-take-le, length-drop}
use lib.Seq.{take-add, take-append-le, drop-drop}
use borrow.Rule.Slice.PartMut.{put_mid, post_of}
use Rattle.std.specs.Io.KnownBytes.{Appends, Consumes}
use Rattle.std.proofs.KnownBytes.{Appends-trans, Consumes-trans}
use Rattle.std.proofs.lemmas.List.{take_rest}
use Rattle.std.proofs.lemmas.Slice.{take-put_mid_below}

-- A buffer whose part from `done` on was read into.
abbrev filled : ℕ → List ℕ → List ℕ → List ℕ
filled done buffer part = put_mid done (length buffer - done) buffer part

front : (done : ℕ) (buffer part : List ℕ) → done ≤ length buffer → take done (filled done buffer part) ≡ take done buffer
front done buffer part within = take-put_mid_below _ _ _ _ _ (le_refl _) within

longer :
    (done n : ℕ) (buffer part : List ℕ) → done ≤ length buffer → n ≤ length part →
    take (done + n) (filled done buffer part) ≡ take done buffer ++ take n part
longer done n buffer part within fits =
    let whole = filled done buffer part in
    let after = post_of done (length buffer - done) buffer in
    let behind : take n (drop done whole) ≡ take n part =
    ap (take n) (drop_at (take done buffer) (part ++ after) done (length-take-le done buffer within)) ∙ take-append-le n part after fits in
    take-add done n whole ∙ (ap (λ l. l ++ take n (drop done whole)) (front done buffer part within) ∙ ap (λ l. take done buffer ++ l) behind)

pub consumed_more :
    (before mid after : Option (List ℕ)) (done n : ℕ) (buffer part : List ℕ) → done ≤ length buffer → n ≤ length part →
    Consumes before mid (take done buffer) → Consumes mid after (take n part) →
    Consumes before after (take (done + n) (filled done buffer part))
consumed_more before mid after done n buffer part within fits first second =
    subst (Consumes before after) (sym (longer done n buffer part within fits)) (Consumes-trans _ _ _ _ _ first second)

-- What is left of a text to write, `rest`, once `n` bytes more are written.
pub left_over :
    (before mid after : Option (List ℕ)) (text rest : List ℕ) (n : ℕ) → length rest ≤ length text →
    rest ≡ drop (length text - length rest) text → Appends before mid (take (length text - length rest) text) → n ≤ length rest →
    Appends mid after (take n rest) →
    let further = take (length rest - n) (drop n rest) in
    (length further ≤ length text) × (further ≡ drop (length text - length further) text) ×
    Appends before after (take (length text - length further) text)
left_over before mid after text rest n within behind first some second =
    let done = length text - length rest in
    let all : length text - length (drop n rest) ≡ done + n = omega (arith, length-drop n rest) in
    let same : drop n rest ≡ drop (done + n) text = ap (drop n) behind ∙ drop-drop n done text in
    rw (take_rest rest n, all) (
      omega (arith, length-drop n rest),
      same,
      subst (Appends before after) (sym (take-add done n text)) (Appends-trans _ _ _ _ _ first (rw behind at second)),
    )
