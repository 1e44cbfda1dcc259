-- The program reads one byte more than the longest session has: what a longer input gets is told by these bytes.
use Prim.Native.Nat.{ℕ, ◌+◌, ◌≤◌, ◌<◌}
use native.Mathlib.Omega.{arith}
use native.Mathlib.Decide.{dec_lt}
use mathlib.Core.Path.{◌≡◌, refl, sym, ap, ◌∙◌}
use mathlib.Core.Bool.{Bool, true, false, cond, not}
use mathlib.Core.List.{List}
use borrow.Author.Tests.{le-ltb, ltb-false, ne_eqb}
use lib.Dec.{eqb, ltb}
use lib.ListN.{length, get_or, take}
use lib.Seq.{take_all, get_or-take, length-take-le}
use Rattle.memory.specs.Image.{bytes}
use Rattle.rules.specs.Refusals.{longest}
use Rattle.rules.specs.File.{count, fuse_section, step_count, parts_refusal, session_refusal}
use Rattle.report.specs.Lines.{bad_text}
use Rattle.fresh_run.specs.FreshRun.{session_text}

-- How much is read: 181 bytes, the steps of the longest session, and one.
abbrev pub reads : ℕ
reads = 4278

-- The checks that are left where the input is so long: the two first counts, the fuses, and the steps.
unfoldable overlong : ℕ → ℕ → ℕ → ℕ → ℕ
overlong first second fuses steps =
    cond (not (eqb first bytes)) 12 (cond (not (eqb second 1)) 13 (cond (ltb 7 fuses) 14 (cond (ltb longest steps) 16 17)))

-- The refusal that they give of a file.
abbrev overlong_file : List ℕ → ℕ
overlong_file file = overlong (count file 0) (count file 176) (fuse_section file) (step_count file)

-- Behind the check of the longest session, a length from there on differs from the counts.
uncounted :
    (n steps many other : ℕ) → reads ≤ n →
    cond (ltb longest steps) many (cond (eqb n (181 + steps)) 0 other) ≡ cond (ltb longest steps) many other
uncounted n steps many other h = go (ltb longest steps) refl
  where
    go : (t : Bool) → ltb longest steps ≡ t → cond t many (cond (eqb n (181 + steps)) 0 other) ≡ cond t many other
    go true q = refl
    go false q = rw (ne_eqb n (181 + steps) (λ e. omega (arith, e, ltb-false longest steps q)))

refused : (file : List ℕ) → reads ≤ length file → session_refusal file bytes ≡ overlong_file file
unfolding session_refusal parts_refusal overlong
refused file h =
    rw (le-ltb (length file) 179 (omega arith), le-ltb (length file) 181 (omega arith), uncounted (length file) (step_count file) 16 17 h)

some_refusal : (first second fuses steps : ℕ) → eqb (overlong first second fuses steps) 0 ≡ false
unfolding overlong
some_refusal first second fuses steps = go (not (eqb first bytes)) (not (eqb second 1)) (ltb 7 fuses) (ltb longest steps)
  where
    go : (a b c d : Bool) → eqb (cond a 12 (cond b 13 (cond c 14 (cond d 16 17)))) 0 ≡ false
    go true b c d = refl
    go false true c d = refl
    go false false true d = refl
    go false false false true = refl
    go false false false false = refl

bad : (file : List ℕ) → reads ≤ length file → session_text file ≡ bad_text (overlong_file file)
unfolding session_text
bad file h = rw (refused file h, some_refusal (count file 0) (count file 176) (fuse_section file) (step_count file))

byte : (file : List ℕ) (i : ℕ) → i < reads → get_or (take reads file) i 0 ≡ get_or file i 0
byte file i h = get_or-take reads file i 0 h

same_count : (file : List ℕ) (at : ℕ) → at + 1 < reads → count (take reads file) at ≡ count file at
unfolding count
same_count file at h = rw (byte file at (omega arith), byte file (at + 1) h)

-- Whatever comes in, the text is that of its first bytes.
pub first_bytes : (file : List ℕ) → session_text (take reads file) ≡ session_text file
unfolding fuse_section step_count
first_bytes file = go (dec_lt reads (length file))
  where
    go : Dec (reads < length file) → session_text (take reads file) ≡ session_text file
    go (yes h) =
        let long : reads ≤ length file = omega arith in
        let first = same_count file 0 (omega arith) in
        let second = same_count file 176 (omega arith) in
        let steps = same_count file 179 (omega arith) in
        let fuses = byte file 178 (omega arith) in
        let short = bad (take reads file) (omega (arith, length-take-le reads file long)) in
        short ∙ (rw (first, second, steps, fuses) refl ∙ sym (bad file long))
    go (no h) = ap session_text (take_all reads file (omega arith))
