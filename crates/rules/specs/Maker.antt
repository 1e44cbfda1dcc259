-- 01, "The step maker": the reader's acts as lists of steps, "From idle .. back to idle, FUS kept".
use Rattle.std.specs.Prelude.{ℕ, zero, suc, ◌+◌, Bool, true, false, cond, List, [], ◌∷◌, ◌++◌, eqb, ltb, length}
use Rattle.memory.specs.Image.{digit}
use Rattle.rules.specs.Lines.{VCC, RST, CLK, PGM, IO, FUS, mask}
use Rattle.rules.specs.Zones.{last}

-- VCC on and FUS kept, all other lines low.
unfoldable pub base : Bool → ℕ
unfolding mask
base fus = mask VCC + cond fus (mask FUS) 0

-- I/O at a bit's level.
unfoldable pub io : Bool → ℕ
unfolding mask
io b = cond b (mask IO) 0

-- "idle (VCC on, RST, CLK, PGM low, I/O 1)"
unfoldable pub idle : Bool → ℕ
unfolding base mask
idle fus = base fus + mask IO

-- "reset: RST up, down"
unfoldable pub reset : Bool → List ℕ
unfolding idle mask
reset fus = (idle fus + mask RST) ∷ idle fus ∷ []

-- "Walk n (0 to 1519): CLK up, down"
unfoldable pub walk : Bool → ℕ → List ℕ
unfolding idle mask
walk fus zero = []
walk fus (suc n) = (idle fus + mask CLK) ∷ idle fus ∷ walk fus n

-- The lowest `width` binary digits of x, "first the most significant".
unfoldable pub digits : ℕ → ℕ → List Bool
digits zero x = []
digits (suc width) x = digit width x ∷ digits width x

-- "show 16 or 32 bits ..: per bit set I/O, CLK up, down; at the end I/O 1"
unfoldable pub show_bits : Bool → List Bool → List ℕ
unfolding base io idle mask
show_bits fus [] = idle fus ∷ []
show_bits fus (b ∷ bs) = (base fus + io b) ∷ (base fus + io b + mask CLK) ∷ (base fus + io b) ∷ show_bits fus bs

unfoldable pub show : Bool → ℕ → ℕ → List ℕ
unfolding show_bits digits
show fus width x = show_bits fus (digits width x)

-- "program d: PGM up, I/O d, CLK up, PGM down, I/O 1, CLK down", with the line levels `extra` high throughout.
unfoldable pub program_with : ℕ → Bool → Bool → List ℕ
unfolding base io idle mask
program_with extra fus d =
    (idle fus + extra + mask PGM) ∷
    (base fus + extra + mask PGM + io d) ∷
    (base fus + extra + mask PGM + mask CLK + io d) ∷
    (base fus + extra + mask CLK + io d) ∷
    (idle fus + extra + mask CLK) ∷
    (idle fus + extra) ∷
    []

unfoldable pub program : Bool → Bool → List ℕ
unfolding program_with
program fus d = program_with 0 fus d

-- "blow: RST up, program 0, RST down"
unfoldable pub blow : Bool → List ℕ
unfolding program_with idle mask
blow fus = (idle fus + mask RST) ∷ (program_with (mask RST) fus false ++ (idle fus ∷ []))

-- "the number of zeros before the first one in that byte", of the digits below `width`.
unfoldable pub zeros_before : ℕ → ℕ → ℕ
zeros_before zero x = 0
zeros_before (suc width) x = cond (digit width x) 0 (suc (zeros_before width x))

-- "open with a code and the byte of bits 96 to 103: reset, walk 80, show, walk k, write, erase"
unfoldable pub open_card : Bool → ℕ → ℕ → List ℕ
unfolding reset walk show program zeros_before
open_card fus code attempts =
    reset fus ++ (walk fus 80 ++ (show fus 16 code ++ (walk fus (zeros_before 8 attempts) ++ (program fus false ++ program fus true))))

-- "Refused in order: 21 a walk over 1519; 23 no one in the byte; 22 buffer too small.": the refusal of an act, 0 if none,
-- where `refused` is its own refusal, by 21 or 23.
unfoldable pub act_refusal : ℕ → List ℕ → ℕ → ℕ
act_refusal refused steps room = cond (eqb refused 0) (cond (ltb room (length steps)) 22 0) refused

unfoldable pub walk_refusal : ℕ → ℕ
walk_refusal n = cond (ltb last n) 21 0

unfoldable pub open_refusal : ℕ → ℕ
open_refusal attempts = cond (eqb (zeros_before 8 attempts) 8) 23 0
