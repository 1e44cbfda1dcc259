-- 01, "Card file and session": "Sections in fixed order, each after its count (two bytes, low first)".
use Rattle.std.specs.Prelude.{ℕ, ◌+◌, ◌*◌, cond, not, List, eqb, ltb, length, get_or, take, drop}
use Rattle.memory.specs.Image.{bytes}
use Rattle.rules.specs.Refusals.{longest}

-- Where the sections stand, "in fixed order, each after its count": memory, fuses, and in a session the steps.
abbrev pub memory_at : ℕ
memory_at = 2

abbrev pub fuse_count_at : ℕ
fuse_count_at = 176

abbrev pub fuses_at : ℕ
fuses_at = 178

-- A card file ends where a session has the count of its steps.
abbrev pub step_count_at : ℕ
step_count_at = 179

abbrev pub steps_at : ℕ
steps_at = 181

-- A count: "two bytes, low first".
unfoldable pub count : List ℕ → ℕ → ℕ
count file at = get_or file at 0 + 256 * get_or file (at + 1) 0

-- "memory, 174": after its count.
unfoldable pub memory_section : List ℕ → List ℕ
memory_section file = take bytes (drop memory_at file)

-- "fuses, 1"
unfoldable pub fuse_section : List ℕ → ℕ
fuse_section file = get_or file fuses_at 0

-- "in a session also steps, 0 to 4,096"
unfoldable pub step_count : List ℕ → ℕ
unfolding count
step_count file = count file step_count_at

unfoldable pub step_section : List ℕ → List ℕ
unfolding step_count
step_section file = take (step_count file) (drop steps_at file)

-- "10 the lent memory buffer; 11 under 179 bytes; 12 first count; 13 second count; 14", and then `more`.
unfoldable pub parts_refusal : List ℕ → ℕ → ℕ → ℕ
unfolding count fuse_section
parts_refusal file room more =
    cond (not (eqb room bytes)) 10
    (cond (ltb (length file) step_count_at) 11
    (cond (not (eqb (count file 0) bytes)) 12
    (cond (not (eqb (count file fuse_count_at) 1)) 13 (cond (ltb 7 (fuse_section file)) 14 more))))

-- A card file: "17 length differs from the counts".
unfoldable pub card_refusal : List ℕ → ℕ → ℕ
unfolding parts_refusal
card_refusal file room = parts_refusal file room (cond (eqb (length file) step_count_at) 0 17)

-- A session: "15 under 181 bytes, 16 count over 4,096; 17 length differs from the counts".
unfoldable pub session_refusal : List ℕ → ℕ → ℕ
unfolding parts_refusal step_count
session_refusal file room =
    parts_refusal file room
    (cond (ltb (length file) steps_at) 15
    (cond (ltb longest (step_count file)) 16 (cond (eqb (length file) (steps_at + step_count file)) 0 17)))
