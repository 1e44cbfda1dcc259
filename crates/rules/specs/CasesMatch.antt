-- 01, "Code", "Opening" and "Key".
use Rattle.std.specs.Prelude.{ℕ, ◌+◌, true, false, ◌&&◌, List, [], ◌∷◌, ◌++◌, set}
use Rattle.rules.specs.Lines.{RST, mask}
use Rattle.rules.specs.Maker.{digits, show_bits, program_with, program, open_card}
use Rattle.rules.specs.CaseForms.{none, SV, E1, Match, L1, L2, code, key, zero, one}
use Rattle.rules.specs.CaseForms.{card_at, idle_at, sample, Case, Runs, Claims, writes, erases, walks, compares}
use Rattle.rules.specs.CaseRanges.{each_in, each_of}
use Rattle.rules.specs.ClaimsMatch.{code_compared, key_compared, not_compared, opens_at, writes_ec}

-- The sample card's code, bits 80 to 95, and its key, bits 1200 to 1231.
unfoldable pub code_bits : List ℕ
code_bits = 1 ∷ 0 ∷ 1 ∷ 0 ∷ 0 ∷ 1 ∷ 0 ∷ 1 ∷ 0 ∷ 0 ∷ 1 ∷ 1 ∷ 1 ∷ 1 ∷ 0 ∷ 0 ∷ []

unfoldable pub key_bits : List ℕ
key_bits =
    0 ∷ 1 ∷ 0 ∷ 1 ∷ 1 ∷ 0 ∷ 1 ∷ 0 ∷ 0 ∷ 1 ∷ 1 ∷ 0 ∷ 1 ∷ 0 ∷ 0 ∷ 1 ∷
    1 ∷ 0 ∷ 0 ∷ 1 ∷ 0 ∷ 1 ∷ 1 ∷ 0 ∷ 1 ∷ 1 ∷ 1 ∷ 1 ∷ 0 ∷ 0 ∷ 0 ∷ 0 ∷ []

unfoldable pub code_cases : List Case
unfolding compares digits walks writes erases idle_at sample program_with mask open_card code_compared code_bits not_compared opens_at each_in each_of
code_cases =
    -- "the compare at 80 sets match to whether the latched bit equals the stored one; at 81 to 95 match stays only if it held and the bits
    -- are equal. With SV 1 the compare fails (match 0).": at each place, at both levels.
    Claims (code_compared 80 none code_bits) ∷
    compares (digits 16 code) L2 7 80 none 96 Match ∷
    compares (digits 16 0xa53d) L2 7 80 none 96 none ∷
    -- "Starting a compare at 81."
    compares (digits 15 code) L2 7 81 none 96 none ∷
    -- The bit that was latched is compared: I/O falls before CLK.
    Runs (idle_at L2 7 sample 80 none) (21 ∷ 5 ∷ 1 ∷ []) (card_at 1 7 sample 81 Match) [] ∷
    -- Nothing is compared at any other address but the key's.
    Claims (each_in 0 79 not_compared && (each_in 96 1199 not_compared && each_in 1232 1519 not_compared)) ∷
    -- "Match ends on arrival at 104".
    walks 7 L2 7 sample 96 Match 103 Match [] ∷
    walks 1 L2 7 sample 103 Match 104 none [] ∷
    -- "a write that turns a 1 into 0 at 96 to 103 while match holds sets SV", and match is not used up.
    Claims (each_in 96 103 (λ a. opens_at 17 a && opens_at 49 a)) ∷
    erases L2 7 (set sample 12 127) 96 Match (set sample 12 127) ∷
    -- With RST high the write is none.
    Runs (card_at 19 7 sample 96 Match) (program_with (mask RST) L2 false) (card_at 19 7 sample 96 Match) [] ∷
    -- "Clearing SCAC when SV is set. Only the erase clears it."
    writes L2 7 (set sample 12 0x3f) 98 (SV + Match) (set sample 12 0x1f) ∷
    erases L2 7 (set sample 12 0x1f) 98 (SV + Match) sample ∷
    -- "open with a code and the byte of bits 96 to 103"; "After the erase the pin shows the stored bit".
    Runs (idle_at L2 3 (set sample 12 0x1f) 500 none) (open_card L2 code 0x1f) (idle_at L2 3 sample 99 (SV + Match)) (one ∷ []) ∷
    Runs (idle_at L2 3 sample 500 none) (open_card L2 0xa53d 255) (idle_at L2 3 (set sample 12 127) 96 none) (zero ∷ []) ∷
    []

unfoldable pub key_cases : List Case
unfolding compares digits walks writes idle_at sample program show_bits key_compared key_bits writes_ec each_in each_of
key_cases =
    -- "likewise at 1200 and at 1201 to 1231, but here SV doesn't matter; in L1 the compare fails (match 0).": at each place.
    Claims (key_compared 1200 none key_bits) ∷
    -- "If EC_EN is blown, a full match sets E1 on arrival at 1232."
    compares (digits 32 key) L2 5 1200 none 1232 (E1 + Match) ∷
    compares (digits 1 0) L2 5 1231 (SV + Match) 1232 (SV + E1 + Match) ∷
    compares (digits 1 0) L2 7 1231 (SV + Match) 1232 (SV + Match) ∷
    compares (digits 1 0) L2 1 1231 Match 1232 (E1 + Match) ∷
    compares (digits 1 0) L1 1 1231 Match 1232 (E1 + Match) ∷
    -- The compare is at the old address, then the address moves, then the new match sets E1: bit 1231 is 0.
    compares (digits 1 0) L2 5 1231 Match 1232 (E1 + Match) ∷
    compares (digits 1 1) L2 5 1231 Match 1232 none ∷
    compares (digits 1 0) L2 5 1231 none 1232 none ∷
    compares (digits 1 0) L1 5 1231 Match 1232 none ∷
    -- The level at CLK's fall decides: FUS changes while CLK is high.
    Runs (idle_at L2 5 sample 1210 Match) (21 ∷ 53 ∷ 49 ∷ []) (idle_at L1 5 sample 1211 none) [] ∷
    Runs (idle_at L1 5 sample 1210 Match) (53 ∷ 21 ∷ 17 ∷ []) (idle_at L2 5 sample 1211 Match) [] ∷
    -- "If not, an L2 write turning a 1 into 0 in EC while match holds sets E1.": all of EC, and match is not used up.
    Claims (each_in 1232 1359 (writes_ec 17 7 E1)) ∷
    -- At level 2 in its other ways; not at level 1, nor with EC_EN blown, nor on a 0, nor without match.
    Claims
    (each_of (1232 ∷ 1295 ∷ 1359 ∷ [])
    (λ a. writes_ec 17 3 E1 a && (writes_ec 49 3 E1 a && (writes_ec 49 7 none a && (writes_ec 17 5 none a && writes_ec 17 1 none a))))) ∷
    writes L2 7 (set sample 155 127) 1240 Match (set sample 155 127) ∷
    writes L2 7 sample 1240 none (set sample 155 127) ∷
    -- "Match ends on arrival at .. 1360."
    walks 1 L2 7 sample 1358 (E1 + Match) 1359 (E1 + Match) [] ∷
    walks 1 L2 7 sample 1359 (E1 + Match) 1360 E1 [] ∷
    -- The key, a write and an erase in EC: "bits 176 to 1199 become 1, EC stays".
    Runs (idle_at L2 3 (set (set sample 22 0) 149 0) 1200 SV) (show_bits L2 (digits 32 key) ++ (program L2 false ++ program L2 true))
    (idle_at L2 3 (set sample 154 127) 1232 (SV + E1 + Match))
    (zero ∷ []) ∷
    []
