-- What a line of text orders.
use Rattle.std.specs.Prelude.{ℕ, ◌-◌, ◌/◌, ◌%◌, true, false, cond, List, [], ◌∷◌, eqb, ltb, length, get_or}
use Rattle.std.specs.Prelude.{Option, Some, None, Result, Ok, Err}
use Prim.Native.String.{String}
use Rattle.memory.specs.Image.{bytes}
use Rattle.words.specs.Scan.{up_to, first_word, after_word}
use Rattle.words.specs.Numbers.{number_of}
use Rattle.words.specs.Names.{bytes_of, names, index_of, row_of}
use Rattle.words.specs.declared.Stop.TheVariants.{Comment}
use Rattle.text_lines.specs.declared.Change.TheVariants.{Fill, Bytes, Fuses}
use Rattle.text_lines.specs.declared.Act.TheVariants.{Power, Fus, Lines, Cut, Reset, Walk, Show16, Show32, Open, Program, Blow}
use Rattle.text_lines.specs.declared.Order.{Order}
use Rattle.text_lines.specs.declared.Order.TheVariants.{Nothing, Image, Drive}

-- The row of a name.
unfoldable pub the : String → ℕ
unfolding index_of bytes_of names
the s = index_of (bytes_of s) names

-- 71: no line starts with this word.
abbrev pub unknown : ℕ
unknown = 71

-- 72: other words after the first than this line takes.
abbrev pub unfit : ℕ
unfit = 72

-- 73: a number that is too large for its place.
abbrev pub beyond : ℕ
beyond = 73

-- A byte of ones.
abbrev pub all_ones : ℕ
all_ones = 255

-- The highest step: all lines high.
abbrev pub all_high : ℕ
all_high = 63

-- The highest fuse byte: all fuses unblown.
abbrev pub all_unblown : ℕ
all_unblown = 7

-- `reset`, `write`, `erase`, `blow`
unfoldable pub alone : ℕ → Result Order ℕ
unfolding the
alone verb =
    cond (eqb verb (the "reset")) (Ok (Drive Reset))
    (cond (eqb verb (the "write")) (Ok (Drive (Program false)))
    (cond (eqb verb (the "erase")) (Ok (Drive (Program true))) (Ok (Drive Blow))))

-- One of two words, a for the one order and b for the other.
unfoldable pub either : ℕ → ℕ → ℕ → Order → Order → Result Order ℕ
either object a b this that = cond (eqb object a) (Ok this) (cond (eqb object b) (Ok that) (Err unfit))

-- `power on`, `power off`, `fus high`, `fus low`, `image ones`, `image zeros`, `cut write`, `cut erase`
unfoldable pub named : ℕ → ℕ → Result Order ℕ
unfolding the either
named verb object =
    cond (eqb verb (the "power")) (either object (the "on") (the "off") (Drive (Power true)) (Drive (Power false)))
    (cond (eqb verb (the "fus")) (either object (the "high") (the "low") (Drive (Fus true)) (Drive (Fus false)))
    (cond (eqb verb (the "image")) (either object (the "ones") (the "zeros") (Image (Fill 0 bytes all_ones)) (Image (Fill 0 bytes 0)))
    (either object (the "write") (the "erase") (Drive (Cut false)) (Drive (Cut true)))))

-- A word that has to be a number.
unfoldable pub with_number : {A : Type 0} → Option ℕ → (ℕ → Result A ℕ) → Result A ℕ
with_number (Some n) f = f n
with_number None f = Err unfit

-- `walk 80`
unfoldable pub walk_order : List ℕ → Result Order ℕ
unfolding with_number
walk_order w = with_number (number_of false w) (λ n. Ok (Drive (Walk n)))

-- A decimal number that is not over the limit.
unfoldable pub limited : ℕ → List ℕ → Result ℕ ℕ
unfolding with_number
limited limit w = with_number (number_of false w) (λ n. cond (ltb limit n) (Err beyond) (Ok n))

-- `lines 37`: a step as it is.
unfoldable pub lines_order : List ℕ → Result Order ℕ
unfolding with_number
lines_order w = with_number (number_of false w) (λ n. cond (ltb all_high n) (Err beyond) (Ok (Drive (Lines n))))

-- `fuses 7`
unfoldable pub fuses_order : List ℕ → Result Order ℕ
unfolding with_number
fuses_order w = with_number (number_of false w) (λ n. cond (ltb all_unblown n) (Err beyond) (Ok (Image (Fuses n))))

-- `show A5C3`, `show A5C3F00D`: four hex digits are 16 bits, eight are 32.
unfoldable pub show_order : List ℕ → Result Order ℕ
unfolding with_number
show_order w =
    with_number (number_of true w)
    (λ n. cond (eqb (length w) 4) (Ok (Drive (Show16 n))) (cond (eqb (length w) 8) (Ok (Drive (Show32 n))) (Err unfit)))

-- `open A5C3`
unfoldable pub open_order : List ℕ → Result Order ℕ
unfolding with_number
open_order w = with_number (number_of true w) (λ n. cond (eqb (length w) 4) (Ok (Drive (Open n))) (Err unfit))

-- The lines whose second word is a number.
unfoldable pub numbered : ℕ → List ℕ → Result Order ℕ
unfolding the
numbered verb w =
    cond (eqb verb (the "walk")) (walk_order w)
    (cond (eqb verb (the "lines")) (lines_order w)
    (cond (eqb verb (the "fuses")) (fuses_order w) (cond (eqb verb (the "show")) (show_order w) (open_order w))))

-- Two hex digits a byte, from byte `first` on, where `room` bytes may be given.
unfoldable pub bytes_order : ℕ → ℕ → List ℕ → Result Order ℕ
unfolding with_number
bytes_order first room w =
    with_number (number_of true w)
    (λ value.
    cond (eqb (length w % 2) 1) (Err unfit)
    (cond (ltb room (length w / 2)) (Err beyond) (Ok (Image (Bytes first (length w / 2) value)))))

-- `byte 10 A5C3`
unfoldable pub byte_order : List ℕ → List ℕ → Result Order ℕ
unfolding with_number
byte_order object w =
    with_number (number_of false object) (λ at. cond (ltb bytes at) (Err beyond) (bytes_order at (bytes - at) w))

-- 01, "Rights", in bytes: the first byte of each of the zones FZ to MFZ.
abbrev pub firsts : List ℕ
firsts = 0 ∷ 2 ∷ 10 ∷ 12 ∷ 14 ∷ 22 ∷ 150 ∷ 154 ∷ 170 ∷ 172 ∷ []

-- And how many bytes each has.
abbrev pub sizes : List ℕ
sizes = 2 ∷ 8 ∷ 2 ∷ 2 ∷ 8 ∷ 128 ∷ 4 ∷ 16 ∷ 2 ∷ 2 ∷ []

-- `zone SC A5C3`, `zone AZ ones`, `zone AZ zeros`
unfoldable pub zone_order : ℕ → List ℕ → Result Order ℕ
unfolding the
zone_order object w =
    let first = get_or firsts (object - the "FZ") 0 in
    let count = get_or sizes (object - the "FZ") 0 in
    cond (ltb object (the "FZ")) (Err unfit)
    (cond (ltb (the "MFZ") object) (Err unfit)
    (cond (eqb (row_of w) (the "ones")) (Ok (Image (Fill first count all_ones)))
    (cond (eqb (row_of w) (the "zeros")) (Ok (Image (Fill first count 0))) (bytes_order first count w))))

-- How many words a line has; 4 stands for any more.
unfoldable pub word_count : List ℕ → List ℕ → List ℕ → List ℕ → ℕ
word_count verb object value more =
    cond (eqb (length verb) 0) 0
    (cond (eqb (length object) 0) 1
    (cond (eqb (length value) 0) 2 (cond (eqb (length more) 0) 3 4)))

-- How many words a line has to have, by its first one.
unfoldable pub words_of : ℕ → ℕ
unfolding the
words_of verb = cond (ltb verb (the "power")) 1 (cond (ltb verb (the "byte")) 2 3)

-- The first word says how many words the line has to have.
unfoldable pub order_of : ℕ → ℕ → List ℕ → List ℕ → Result Order ℕ
unfolding the alone named numbered
order_of verb count object value =
    cond (eqb count 0) (Ok Nothing)
    (cond (ltb (the "zone") verb) (Err unknown)
    (cond (ltb verb (the "power")) (cond (eqb count 1) (alone verb) (Err unfit))
    (cond (ltb verb (the "byte"))
    (cond (eqb count 2) (cond (ltb verb (the "walk")) (named verb (row_of object)) (numbered verb object)) (Err unfit))
    (cond (eqb count 3) (cond (eqb verb (the "byte")) (byte_order object value) (zone_order (row_of object) value)) (Err unfit)))))

-- The order of a line's words.
unfoldable pub words_order : List ℕ → Result Order ℕ
words_order s =
    let second = after_word s in
    let third = after_word second in
    order_of
    (row_of (first_word s))
    (word_count (first_word s) (first_word second) (first_word third) (first_word (after_word third)))
    (first_word second)
    (first_word third)

-- What a line orders: its words before the first `#`.
unfoldable pub line_order : List ℕ → Result Order ℕ
line_order line = words_order (up_to Comment line)
