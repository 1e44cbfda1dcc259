-- 01's own cases as one table: case S, "Both sides of each edge", and for each sentence of 01 the cases and claims that a wrong version of
-- it breaks, in the modules `Cases..`. `proofs.AgainstTable` computes them from the definitions.
--
-- Levels are sums as in 01: VCC 1, RST 2, CLK 4, PGM 8, I/O 16, FUS 32. So 17 is idle with FUS low and 49 with FUS high, 19 and 51 the
-- same with RST high, 21 idle with CLK high, 25 with PGM high, 29 with both.
use Rattle.std.specs.Prelude.{◌+◌, ◌≡◌, true, false, List, [], ◌∷◌, ◌++◌, replicate, set}
use Rattle.rules.specs.Maker.{walk, show, program}
use Rattle.rules.specs.CaseForms.{none, SV, P1, R1, E1, Match, L1, L2, code, zero, one, released}
use Rattle.rules.specs.CaseForms.{card_at, idle_at, ones, zeros, image, sample, card_file, session}
use Rattle.rules.specs.CaseForms.{Case, Runs, Refuses, OpensCard, OpensSession, Prints, joined, every, writes, erases, walks, blows}
use Rattle.rules.specs.CasesSteps.{line_cases, start_cases, cut_cases, arrival_cases, pin_cases}
use Rattle.rules.specs.CasesRights.{zone_cases, erase_cases, image_cases, program_cases, operation_cases, block_cases, fuse_cases}
use Rattle.rules.specs.CasesMatch.{code_cases, key_cases}
use Rattle.rules.specs.CasesRefusals.{step_refusals, order_cases, state_cases, answer_cases, run_cases, buffer_cases}
use Rattle.rules.specs.CasesNumbers.{refusal_numbers}
use Rattle.rules.specs.CasesFiles.{file_cases, tries_cases, act_cases, maker_cases}
use Rattle.rules.specs.CasesReasons.{number_cases, idle_reasons, place_reasons, never_reasons, thing_reasons, right_reasons, lacking_cases}

-- "Case S: memory byte 0 is 127, all others 255, fuses 7, steps 16 48 49 53 49 51 49 55".
unfoldable pub case_s : Case
unfolding session image
case_s =
    Prints
    (session (image ((1, 127) ∷ (173, 255) ∷ [])) 7 (16 ∷ 48 ∷ 49 ∷ 53 ∷ 49 ∷ 51 ∷ 49 ∷ 55 ∷ []))
    7
    8
    2
    (released ∷ released ∷ zero ∷ zero ∷ one ∷ released ∷ zero ∷ [])
    8

-- 01, "Both sides of each edge", in its order.
unfoldable pub edges : List Case
unfolding idle_at sample ones zeros image walk show program writes erases walks blows card_file session card_at
edges =
    -- "*Address 1519, clock: 0, E1 clear. From 1518: 1519."
    walks 1 L2 7 sample 1519 (SV + P1 + R1 + E1) 0 (SV + P1 + R1) (released ∷ zero ∷ []) ∷
    walks 1 L2 7 sample 1518 (SV + E1) 1519 (SV + E1) (released ∷ released ∷ []) ∷
    -- "*Right code, write at 103 on a 1: SV. *At 104: bit written, no SV. *At 103 on a 0: no SV."
    Runs (idle_at L2 7 sample 80 none) (show L2 16 code ++ (walk L2 7 ++ program L2 false))
    (idle_at L2 7 (set sample 12 254) 103 (SV + Match))
    (zero ∷ []) ∷
    Runs (idle_at L2 7 sample 80 none) (show L2 16 code ++ (walk L2 8 ++ program L2 false))
    (idle_at L2 7 (set sample 13 127) 104 none)
    (zero ∷ []) ∷
    Runs (idle_at L2 7 (set sample 12 254) 80 none) (show L2 16 code ++ (walk L2 7 ++ program L2 false))
    (idle_at L2 7 (set sample 12 254) 103 Match)
    (zero ∷ []) ∷
    -- "*Block erase in L1 with SV: 16 and 1359 become 1, 15 and 1360 stay. *FUS low: nothing."
    erases L1 7 zeros 1392 SV (image ((2, 0) ∷ (168, 255) ∷ (4, 0) ∷ [])) ∷
    erases L2 7 zeros 1392 SV zeros ∷
    -- "*E1 and SV in L2, erase at 1232: 176 and 1199 become 1, 175, 1200 and 1232 stay. *EC_EN blown, at 1233: nothing."
    erases L2 7 zeros 1232 (SV + E1) (image ((22, 0) ∷ (128, 255) ∷ (24, 0) ∷ [])) ∷
    erases L2 5 zeros 1233 (SV + E1) zeros ∷
    -- "*SV without P1 in L2, write at 178: nothing."
    writes L2 7 ones 178 SV ones ∷
    -- "*RST high, SV: write at 1504 blows ISS; *at 1503 nothing."
    blows L2 7 1504 SV 3 ∷
    blows L2 7 1503 SV 7 ∷
    -- "*Fuse byte 7 opens; 8 gets 14. Runs of 4,096 go; 4,097 get 18."
    OpensCard (card_file sample 7) 174 0 ∷
    OpensCard (card_file sample 8) 174 14 ∷
    OpensSession (session sample 7 []) 174 0 ∷
    OpensSession (session sample 8 []) 174 14 ∷
    Runs (card_at 0 7 sample 0 none) (replicate 4096 0) (card_at 0 7 sample 0 none) [] ∷
    Refuses (card_at 0 7 sample 0 none) (replicate 4097 0) 4097 18 ∷
    -- "SV 0: MTZ erases, CPZ doesn't."
    erases L2 7 zeros 1360 none (image ((170, 0) ∷ (2, 255) ∷ (2, 0) ∷ [])) ∷
    erases L2 7 zeros 112 none zeros ∷
    []

-- The long runs stand last: a wrong version is mostly refused before them.
unfoldable pub table : List Case
unfolding joined case_s edges line_cases start_cases cut_cases arrival_cases pin_cases zone_cases erase_cases image_cases program_cases operation_cases block_cases fuse_cases code_cases key_cases step_refusals order_cases state_cases answer_cases run_cases buffer_cases refusal_numbers file_cases tries_cases act_cases maker_cases number_cases idle_reasons place_reasons never_reasons thing_reasons right_reasons lacking_cases
table =
    joined
    ((case_s ∷ []) ∷
    line_cases ∷
    start_cases ∷
    cut_cases ∷
    pin_cases ∷
    zone_cases ∷
    erase_cases ∷
    image_cases ∷
    program_cases ∷
    operation_cases ∷
    block_cases ∷
    fuse_cases ∷
    step_refusals ∷
    order_cases ∷
    state_cases ∷
    answer_cases ∷
    run_cases ∷
    buffer_cases ∷
    refusal_numbers ∷
    file_cases ∷
    tries_cases ∷
    act_cases ∷
    maker_cases ∷
    number_cases ∷
    idle_reasons ∷
    place_reasons ∷
    never_reasons ∷
    thing_reasons ∷
    right_reasons ∷
    lacking_cases ∷
    code_cases ∷
    key_cases ∷
    arrival_cases ∷
    edges ∷
    [])

-- Every case of the table holds.
abbrev pub TableHolds : Type 0
TableHolds = every table ≡ true
