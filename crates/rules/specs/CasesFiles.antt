-- 01, "Card file and session" and "The step maker".
use Rattle.std.specs.Prelude.{ℕ, ◌+◌, ◌/◌, ◌%◌, true, false, ◌&&◌, List, [], ◌∷◌, ◌++◌, eqb, get_or, replicate, set}
use Rattle.rules.specs.Card.{tries_left}
use Rattle.rules.specs.Maker.{reset, walk, show, program, blow, zeros_before, open_card, walk_refusal, open_refusal}
use Rattle.rules.specs.CaseForms.{L1, L2, code, key, sample, card_file, session, laid_out, same_bytes}
use Rattle.rules.specs.CaseForms.{Case, OpensCard, OpensSession, Takes, Unmade, Prints, Claims}
use Rattle.rules.specs.CaseRanges.{each_in, times}

-- Each check, before each of those after it. A file is given by its first count, second count, fuse byte, third count and length.
unfoldable pub file_cases : List Case
unfolding card_file session laid_out sample
file_cases =
    -- A card file: "11 under 179 bytes; .. 17 length differs from the counts".
    OpensCard (laid_out 174 1 7 0 178) 174 11 ∷
    OpensCard (laid_out 174 1 7 0 179) 174 0 ∷
    OpensCard (laid_out 174 1 7 0 180) 174 17 ∷
    OpensCard (laid_out 174 1 7 0 181) 174 17 ∷
    OpensCard (laid_out 174 1 7 0 182) 174 17 ∷
    -- A session: "15 under 181 bytes", and 17.
    OpensSession (laid_out 174 1 7 0 178) 174 11 ∷
    OpensSession (laid_out 174 1 7 0 179) 174 15 ∷
    OpensSession (laid_out 174 1 7 0 180) 174 15 ∷
    OpensSession (laid_out 174 1 7 0 181) 174 0 ∷
    OpensSession (laid_out 174 1 7 0 182) 174 17 ∷
    OpensSession (laid_out 174 1 7 1 181) 174 17 ∷
    OpensSession (laid_out 174 1 7 1 182) 174 0 ∷
    OpensSession (laid_out 174 1 7 256 437) 174 0 ∷
    OpensSession (laid_out 174 1 7 256 182) 174 17 ∷
    -- "10 the lent memory buffer", before every other.
    OpensCard [] 173 10 ∷
    OpensCard (laid_out 174 1 7 0 179) 173 10 ∷
    OpensCard (laid_out 174 1 7 0 179) 175 10 ∷
    OpensCard (laid_out 173 2 8 0 180) 173 10 ∷
    OpensSession (laid_out 174 1 7 0 181) 173 10 ∷
    OpensSession (laid_out 174 1 7 0 181) 175 10 ∷
    OpensSession (laid_out 173 2 8 4097 182) 175 10 ∷
    OpensSession (laid_out 174 1 7 0 180) 0 10 ∷
    -- 11 before 12 and 13.
    OpensCard (laid_out 173 1 7 0 178) 174 11 ∷
    OpensCard (laid_out 174 2 7 0 178) 174 11 ∷
    OpensSession (laid_out 173 2 7 0 178) 174 11 ∷
    OpensSession [] 174 11 ∷
    -- "12 first count; 13 second count; 14": each byte of a count, and each before those after it.
    OpensCard (laid_out 173 1 7 0 179) 174 12 ∷
    OpensCard (laid_out 175 2 8 0 180) 174 12 ∷
    OpensCard (laid_out 430 1 7 0 179) 174 12 ∷
    OpensCard (laid_out 174 0 7 0 179) 174 13 ∷
    OpensCard (laid_out 174 2 8 0 180) 174 13 ∷
    OpensCard (laid_out 174 257 7 0 179) 174 13 ∷
    OpensCard (laid_out 174 1 8 0 179) 174 14 ∷
    OpensCard (laid_out 174 1 255 0 180) 174 14 ∷
    OpensCard (laid_out 174 1 0 0 179) 174 0 ∷
    OpensSession (laid_out 173 2 8 0 179) 174 12 ∷
    OpensSession (laid_out 173 1 7 4097 182) 174 12 ∷
    OpensSession (laid_out 174 2 8 0 180) 174 13 ∷
    OpensSession (laid_out 174 2 7 4097 182) 174 13 ∷
    OpensSession (laid_out 174 1 8 0 180) 174 14 ∷
    OpensSession (laid_out 174 1 8 4097 182) 174 14 ∷
    -- "16 count over 4,096", before 17.
    OpensSession (laid_out 174 1 7 4097 181) 174 16 ∷
    OpensSession (laid_out 174 1 7 4096 182) 174 17 ∷
    OpensSession (laid_out 174 1 7 65535 182) 174 16 ∷
    OpensSession (session sample 7 (replicate 4096 0)) 174 0 ∷
    OpensSession (session sample 7 (replicate 4097 0)) 174 16 ∷
    []

-- "ones left in bits 96 to 103": of any byte, by the ones of each half of it; and of an empty run.
unfoldable pub half_ones : List ℕ
half_ones = 0 ∷ 1 ∷ 1 ∷ 2 ∷ 1 ∷ 2 ∷ 2 ∷ 3 ∷ 1 ∷ 2 ∷ 2 ∷ 3 ∷ 2 ∷ 3 ∷ 3 ∷ 4 ∷ []

unfoldable pub tries_cases : List Case
unfolding tries_left half_ones session sample each_in
tries_cases =
    Claims (each_in 0 255 (λ b. eqb (tries_left (set sample 12 b)) (get_or half_ones (b / 16) 0 + get_or half_ones (b % 16) 0))) ∷
    Claims (eqb (tries_left []) 0) ∷
    Prints (session (set sample 12 0x1f) 7 []) 0 0 0 [] 5 ∷
    []

-- "From idle .. back to idle, FUS kept": each act step by step, and "first the most significant".
unfoldable pub act_cases : List Case
unfolding reset walk show program blow zeros_before open_card times same_bytes each_in
act_cases =
    Claims (same_bytes (reset L2) (19 ∷ 17 ∷ []) && same_bytes (reset L1) (51 ∷ 49 ∷ [])) ∷
    Claims (same_bytes (walk L2 2) (21 ∷ 17 ∷ 21 ∷ 17 ∷ []) && same_bytes (walk L1 1) (53 ∷ 49 ∷ [])) ∷
    Claims (same_bytes (show L2 2 2) (17 ∷ 21 ∷ 17 ∷ 1 ∷ 5 ∷ 1 ∷ 17 ∷ []) && same_bytes (show L1 2 1) (33 ∷ 37 ∷ 33 ∷ 49 ∷ 53 ∷ 49 ∷ 49 ∷ [])) ∷
    Claims (same_bytes (show L2 32 0xffff0000) (times 16 (17 ∷ 21 ∷ 17 ∷ []) ++ (times 16 (1 ∷ 5 ∷ 1 ∷ []) ++ (17 ∷ [])))) ∷
    -- "PGM up, I/O d, CLK up, PGM down, I/O 1, CLK down"
    Claims (same_bytes (program L2 false) (25 ∷ 9 ∷ 13 ∷ 5 ∷ 21 ∷ 17 ∷ [])) ∷
    Claims (same_bytes (program L2 true) (25 ∷ 25 ∷ 29 ∷ 21 ∷ 21 ∷ 17 ∷ [])) ∷
    Claims (same_bytes (program L1 false) (57 ∷ 41 ∷ 45 ∷ 37 ∷ 53 ∷ 49 ∷ [])) ∷
    Claims (same_bytes (program L1 true) (57 ∷ 57 ∷ 61 ∷ 53 ∷ 53 ∷ 49 ∷ [])) ∷
    -- "RST up, program 0, RST down"
    Claims (same_bytes (blow L2) (19 ∷ 27 ∷ 11 ∷ 15 ∷ 7 ∷ 23 ∷ 19 ∷ 17 ∷ [])) ∷
    Claims (same_bytes (blow L1) (51 ∷ 59 ∷ 43 ∷ 47 ∷ 39 ∷ 55 ∷ 51 ∷ 49 ∷ [])) ∷
    -- "reset, walk 80, show, walk k, write, erase": of code 0xff00, with no 0 and with two before the first 1.
    Claims
    (same_bytes (open_card L2 0xff00 0xff)
    (19 ∷ 17 ∷
    (times 80 (21 ∷ 17 ∷ []) ++
    (times 8 (17 ∷ 21 ∷ 17 ∷ []) ++
    (times 8 (1 ∷ 5 ∷ 1 ∷ []) ++ (17 ∷ 25 ∷ 9 ∷ 13 ∷ 5 ∷ 21 ∷ 17 ∷ 25 ∷ 25 ∷ 29 ∷ 21 ∷ 21 ∷ 17 ∷ [])))))) ∷
    Claims
    (same_bytes (open_card L1 0xff00 0x3f)
    (51 ∷ 49 ∷
    (times 80 (53 ∷ 49 ∷ []) ++
    (times 8 (49 ∷ 53 ∷ 49 ∷ []) ++
    (times 8 (33 ∷ 37 ∷ 33 ∷ []) ++
    (49 ∷ 53 ∷ 49 ∷ 53 ∷ 49 ∷ 57 ∷ 41 ∷ 45 ∷ 37 ∷ 53 ∷ 49 ∷ 57 ∷ 57 ∷ 61 ∷ 53 ∷ 53 ∷ 49 ∷ [])))))) ∷
    -- "k is the number of zeros before the first one in that byte"
    Claims
    (each_in 128 255 (λ b. eqb (zeros_before 8 b) 0) &&
    (each_in 64 127 (λ b. eqb (zeros_before 8 b) 1) &&
    (each_in 32 63 (λ b. eqb (zeros_before 8 b) 2) &&
    (each_in 16 31 (λ b. eqb (zeros_before 8 b) 3) &&
    (each_in 8 15 (λ b. eqb (zeros_before 8 b) 4) &&
    (each_in 4 7 (λ b. eqb (zeros_before 8 b) 5) && (each_in 2 3 (λ b. eqb (zeros_before 8 b) 6) && eqb (zeros_before 8 1) 7))))))) ∷
    []

-- The counts, and the refusals in their order.
unfoldable pub maker_cases : List Case
unfolding reset walk show program blow open_card walk_refusal open_refusal each_in
maker_cases =
    Takes 0 (reset L1) 2 ∷
    Takes (walk_refusal 1519) (walk L2 1519) 3038 ∷
    Takes 0 (show L2 16 code) 49 ∷
    Takes 0 (show L2 32 key) 97 ∷
    Takes 0 (program L1 true) 6 ∷
    Takes 0 (blow L1) 8 ∷
    Takes (open_refusal 255) (open_card L2 code 255) 223 ∷
    Takes (open_refusal 1) (open_card L1 code 1) 237 ∷
    Unmade (walk_refusal 0) (walk L2 0) 0 ∷
    Unmade (walk_refusal 1520) (walk L2 1520) 21 ∷
    Unmade (open_refusal 0) (open_card L2 code 0) 23 ∷
    Claims (each_in 1 255 (λ b. eqb (open_refusal b) 0)) ∷
    []
