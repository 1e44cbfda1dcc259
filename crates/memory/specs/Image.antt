-- The memory of the lasting half: bits 0 to 1391 in 174 bytes. A list of bytes is the image.
use Rattle.std.specs.Prelude.{ℕ, zero, suc, ◌+◌, ◌-◌, ◌*◌, ◌/◌, ◌%◌, Bool, cond, List, ◌++◌, eqb, leb, length, get_or, set, take, drop, replicate}

-- Binary digit k of x, the lowest being digit 0.
unfoldable pub digit : ℕ → ℕ → Bool
digit zero x = eqb (x % 2) 1
digit (suc k) x = digit k (x / 2)

-- x with its binary digit k set to 0.
unfoldable pub cleared : ℕ → ℕ → ℕ
cleared zero x = x / 2 * 2
cleared (suc k) x = cleared k (x / 2) * 2 + x % 2

-- "memory bits 0 to 1391 in 174 bytes"
abbrev pub bytes : ℕ
bytes = 174

-- "bit a is in byte a/8, the first bit of a byte being its most significant"
unfoldable pub bit : List ℕ → ℕ → Bool
bit m a = digit (7 - a % 8) (get_or m (a / 8) 0)

-- "A write sets one bit to 0."
unfoldable pub written : List ℕ → ℕ → List ℕ
written m a = set m (a / 8) (cleared (7 - a % 8) (get_or m (a / 8) 0))

-- "An erase sets the 16-bit word to 1."
unfoldable pub erased_word : List ℕ → ℕ → List ℕ
erased_word m a = set (set m (a / 16 * 2) 255) (a / 16 * 2 + 1) 255

-- `count` bytes from byte `first` on take the value v; an image that is too short stays as it is.
unfoldable pub filled : ℕ → ℕ → ℕ → List ℕ → List ℕ
filled first count v m =
    cond (leb (first + count) (length m)) (take first m ++ (replicate count v ++ drop (first + count) m)) m
