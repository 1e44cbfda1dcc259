-- 01, "The step maker": what some of the acts' parts are. `proofs.AgainstCases` computes them from the definitions.
--
-- Steps are sums as in 01: VCC 1, RST 2, CLK 4, PGM 8, I/O 16, FUS 32. So 17 is idle with FUS low and 49 with FUS high.
use Rattle.std.specs.Prelude.{◌≡◌, true, false, [], ◌∷◌, length, take, drop}
use Rattle.rules.specs.Lines.{RST, mask}
use Rattle.rules.specs.CaseForms.{L1, L2, code}
use Rattle.act_parts.specs.Parts.{pulse, shown_bit, up_to_code, use_try}

abbrev pub PartsMade : Type 0
PartsMade =
    -- "RST up, down"
    (pulse (mask RST) L1 ≡ 51 ∷ 49 ∷ []) ×
    -- "per bit set I/O, CLK up, down"
    (shown_bit L1 true ≡ 49 ∷ 53 ∷ 49 ∷ []) ×
    (shown_bit L1 false ≡ 33 ∷ 37 ∷ 33 ∷ []) ×
    (shown_bit L2 false ≡ 1 ∷ 5 ∷ 1 ∷ []) ×
    -- "reset, walk 80, show": 2, 160 and 49 steps. The code is 1010 0101 0011 1100.
    (length (up_to_code L2 code) ≡ 211) ×
    (take 4 (up_to_code L2 code) ≡ 19 ∷ 17 ∷ 21 ∷ 17 ∷ []) ×
    (take 8 (drop 160 (up_to_code L2 code)) ≡ 21 ∷ 17 ∷ 17 ∷ 21 ∷ 17 ∷ 1 ∷ 5 ∷ 1 ∷ []) ×
    (drop 207 (up_to_code L2 code) ≡ 1 ∷ 5 ∷ 1 ∷ 17 ∷ []) ×
    -- "walk k, write, erase"
    (use_try L2 1 ≡ 21 ∷ 17 ∷ 25 ∷ 9 ∷ 13 ∷ 5 ∷ 21 ∷ 17 ∷ 25 ∷ 25 ∷ 29 ∷ 21 ∷ 21 ∷ 17 ∷ []) ×
    (use_try L1 0 ≡ 57 ∷ 41 ∷ 45 ∷ 37 ∷ 53 ∷ 49 ∷ 57 ∷ 57 ∷ 61 ∷ 53 ∷ 53 ∷ 49 ∷ [])
