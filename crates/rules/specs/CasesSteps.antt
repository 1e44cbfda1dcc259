-- 01, "Steps": the lines one by one, arriving, and the answer.
--
-- Levels are sums as in 01: VCC 1, RST 2, CLK 4, PGM 8, I/O 16, FUS 32. So 17 is idle with FUS low and 49 with FUS high, 19 and 51 the
-- same with RST high, 21 idle with CLK high, 25 with PGM high, 29 with both.
use Rattle.std.specs.Prelude.{ℕ, ◌+◌, List, [], ◌∷◌, set, Ok}
use Rattle.rules.specs.Maker.{reset}
use Rattle.rules.specs.CaseForms.{none, SV, P1, R1, E1, Match, Latch, Programming, L1, L2, zero, one, released}
use Rattle.rules.specs.CaseForms.{card_at, idle_at, ones, zeros, image, sample, Case, Runs, Shows, Step, Claims, walks, one_step, cuts}
use Rattle.rules.specs.CaseRanges.{each_in, each_of}
use Rattle.rules.specs.ClaimForms.{borders}
use Rattle.rules.specs.ClaimsSteps.{never_read, moves_on, arrives}

-- All flags, and match, in EC.
abbrev all_set : ℕ
all_set = SV + P1 + R1 + E1 + Match

-- Latched data 1, and programming under way: arriving leaves both.
abbrev busy : ℕ
busy = Latch + Programming

unfoldable pub line_cases : List Case
unfolding one_step card_at sample idle_at reset walks zeros
line_cases =
    -- "a step with no difference is accepted and changes nothing"
    one_step 17 0 none 17 0 none zero ∷
    one_step 29 96 (SV + Match + Latch + Programming) 29 96 (SV + Match + Latch + Programming) released ∷
    one_step 21 1240 (all_set + Latch) 21 1240 (all_set + Latch) one ∷
    -- "Without VCC the lines only follow.": CLK up, RST up and down, PGM up, CLK down.
    Runs (card_at 0 7 sample 0 none) (4 ∷ 6 ∷ 4 ∷ 12 ∷ 8 ∷ []) (card_at 8 7 sample 0 none)
    (released ∷ released ∷ released ∷ released ∷ released ∷ []) ∷
    -- I/O up, FUS up, PGM up, CLK up and down, PGM, FUS and I/O down: nothing is latched, no programming starts.
    Runs (card_at 0 7 sample 0 none) (16 ∷ 48 ∷ 56 ∷ 60 ∷ []) (card_at 60 7 sample 0 none) (released ∷ []) ∷
    Runs (card_at 60 7 sample 0 none) (56 ∷ 48 ∷ 16 ∷ 0 ∷ []) (card_at 0 7 sample 0 none) (released ∷ []) ∷
    -- "VCC falls: address 0; flags, match, latch and programming cleared", with CLK low too.
    one_step 53 1240 (all_set + Latch + Programming) 52 0 none released ∷
    one_step 17 1240 all_set 16 0 none released ∷
    one_step 19 100 (SV + P1 + R1 + Match) 18 0 none released ∷
    -- "VCC rises: nothing more.": with RST low and high, FUS low and high.
    one_step 16 0 none 17 0 none zero ∷
    one_step 50 0 none 51 0 none released ∷
    one_step 32 0 none 33 0 none zero ∷
    -- "CLK rises: I/O is latched. With PGM high, programming starts".
    one_step 17 0 none 21 0 Latch zero ∷
    one_step 1 0 none 5 0 none zero ∷
    one_step 25 0 none 29 0 (Latch + Programming) released ∷
    one_step 9 0 none 13 0 Programming released ∷
    one_step 49 1240 all_set 53 1240 (all_set + Latch) one ∷
    one_step 57 1240 all_set 61 1240 (all_set + Latch + Programming) released ∷
    -- The same with RST high.
    one_step 19 1240 all_set 23 1240 (all_set + Latch) released ∷
    one_step 3 1240 all_set 7 1240 all_set released ∷
    one_step 27 1240 all_set 31 1240 (all_set + Latch + Programming) released ∷
    one_step 11 1240 all_set 15 1240 (all_set + Programming) released ∷
    -- CLK falls, "With RST high: nothing", and "The latch is cleared": no move, no compare of bits 84 (0) and 85 (1), no arrival.
    one_step 23 84 (Match + Latch) 19 84 Match released ∷
    one_step 7 85 Match 3 85 Match released ∷
    one_step 23 1519 (SV + E1 + Latch) 19 1519 (SV + E1) released ∷
    one_step 55 1240 (all_set + Latch) 51 1240 all_set released ∷
    one_step 23 176 Latch 19 176 none released ∷
    one_step 7 177 none 3 177 none released ∷
    Step (card_at 23 5 sample 1232 (Match + Latch)) 19 (card_at 19 5 sample 1232 Match) (Ok released) ∷
    -- Standing on 176 or 177, whose bits are 1, sets no flag: only arriving does.
    one_step 17 176 none 17 176 none released ∷
    one_step 17 176 none 21 176 Latch released ∷
    one_step 17 177 none 19 177 none released ∷
    one_step 21 177 Latch 53 177 Latch released ∷
    one_step 17 176 none 1 176 none released ∷
    one_step 25 177 none 17 177 none released ∷
    -- Nothing is compared when CLK rises, and match does not end when FUS does.
    one_step 17 84 Match 21 84 (Match + Latch) released ∷
    one_step 17 1210 Match 49 1210 Match released ∷
    -- The right to read is that of the levels after the step.
    one_step 17 81 SV 49 81 SV zero ∷
    one_step 49 81 SV 17 81 SV released ∷
    -- RST rises, FUS rises and falls, PGM rises, and falls, in programming too: nothing more.
    one_step 17 1240 all_set 19 1240 all_set released ∷
    one_step 21 1240 (all_set + Latch) 23 1240 (all_set + Latch) released ∷
    one_step 17 1240 all_set 49 1240 all_set one ∷
    one_step 49 1240 all_set 17 1240 all_set one ∷
    one_step 21 1240 (all_set + Latch) 53 1240 (all_set + Latch) one ∷
    one_step 53 1240 (all_set + Latch) 21 1240 (all_set + Latch) one ∷
    one_step 17 1240 all_set 25 1240 all_set released ∷
    one_step 25 1240 all_set 17 1240 all_set one ∷
    one_step 29 1240 (all_set + Latch + Programming) 21 1240 (all_set + Latch + Programming) released ∷
    one_step 13 1240 (all_set + Programming) 5 1240 (all_set + Programming) released ∷
    -- I/O rises and falls: nothing more, and with CLK high the latch holds, in programming too.
    one_step 17 1240 all_set 1 1240 all_set one ∷
    one_step 1 1240 all_set 17 1240 all_set one ∷
    one_step 21 1240 (all_set + Latch) 5 1240 (all_set + Latch) one ∷
    one_step 5 1240 all_set 21 1240 all_set one ∷
    one_step 29 1240 (all_set + Latch + Programming) 13 1240 (all_set + Latch + Programming) released ∷
    one_step 5 1240 (all_set + Programming) 21 1240 (all_set + Programming) released ∷
    -- "RST falls: address 0." "Clearing SV, P1 or R1 at RST. Only E1 falls.", and match.
    Runs (idle_at L2 7 sample 1240 all_set) (reset L2) (idle_at L2 7 sample 0 (SV + P1 + R1)) (released ∷ zero ∷ []) ∷
    Runs (idle_at L1 7 sample 100 (SV + Match)) (reset L1) (idle_at L1 7 sample 0 SV) (released ∷ zero ∷ []) ∷
    []

-- "CLK falls in programming: the operation takes effect": not when CLK rises, nor when PGM or I/O falls, and by the latch alone.
unfoldable pub start_cases : List Case
unfolding one_step card_at idle_at ones zeros image
start_cases =
    one_step 9 1360 none 13 1360 Programming released ∷
    Step (card_at 25 7 zeros 1360 none) 29 (card_at 29 7 zeros 1360 (Latch + Programming)) (Ok released) ∷
    Step (card_at 29 7 zeros 1360 (Latch + Programming)) 21 (card_at 21 7 zeros 1360 (Latch + Programming)) (Ok released) ∷
    Step (card_at 21 7 zeros 1360 (Latch + Programming)) 5 (card_at 5 7 zeros 1360 (Latch + Programming)) (Ok released) ∷
    Step (card_at 5 7 zeros 1360 (Latch + Programming)) 1 (card_at 1 7 (image ((170, 0) ∷ (2, 255) ∷ (2, 0) ∷ [])) 1360 none) (Ok one) ∷
    Step (card_at 21 7 ones 1360 Programming) 17 (card_at 17 7 (image ((170, 255) ∷ (1, 127) ∷ (3, 255) ∷ [])) 1360 none) (Ok zero) ∷
    Runs (idle_at L2 7 ones 1360 none) (25 ∷ 9 ∷ 13 ∷ 12 ∷ []) (card_at 12 7 ones 0 none) [] ∷
    []

-- "memory unchanged even in the middle of programming": erases, writes and blows that would take effect, with PGM high and low.
unfoldable pub cut_cases : List Case
unfolding cuts ones zeros sample
cut_cases =
    cuts 29 7 zeros 1360 Latch ∷
    cuts 21 7 zeros 1360 Latch ∷
    cuts 21 7 zeros 96 (SV + Match + Latch) ∷
    cuts 21 7 zeros 1232 (SV + E1 + Latch) ∷
    cuts 53 7 zeros 1392 (SV + Latch) ∷
    cuts 37 7 ones 1392 SV ∷
    cuts 5 7 ones 96 Match ∷
    cuts 5 7 ones 178 (SV + P1) ∷
    cuts 5 7 ones 1232 (SV + Match) ∷
    cuts 23 7 sample 1408 SV ∷
    cuts 55 7 sample 1481 none ∷
    cuts 31 7 sample 1504 SV ∷
    cuts 23 7 sample 1504 SV ∷
    []

-- "Arriving at 0 by any way clears E1 and match. Arriving at 176 (177) sets P1 (R1) if that bit is 1."
unfoldable pub arrival_cases : List Case
unfolding walks sample zeros ones moves_on arrives borders each_in each_of
arrival_cases =
    walks 2 L2 7 sample 174 none 176 P1 [] ∷
    -- Leaving sets nothing.
    walks 1 L2 7 sample 176 none 177 R1 [] ∷
    walks 1 L2 7 sample 177 none 178 none [] ∷
    walks 1 L2 5 sample 1232 Match 1233 Match [] ∷
    walks 2 L2 7 sample 175 none 177 (P1 + R1) [] ∷
    walks 2 L1 7 sample 175 none 177 (P1 + R1) [] ∷
    walks 2 L1 7 sample 175 SV 177 (SV + P1 + R1) [] ∷
    walks 2 L2 3 sample 175 SV 177 (SV + P1 + R1) [] ∷
    walks 2 L2 7 (set sample 22 0x7f) 175 none 177 R1 (one ∷ released ∷ released ∷ one ∷ []) ∷
    walks 2 L2 7 (set sample 22 0xbf) 175 none 177 P1 (one ∷ released ∷ released ∷ released ∷ []) ∷
    walks 2 L2 7 zeros 176 none 178 none (released ∷ released ∷ released ∷ released ∷ []) ∷
    walks 2 L2 7 zeros 175 (P1 + R1) 177 (P1 + R1) (zero ∷ zero ∷ zero ∷ zero ∷ []) ∷
    -- Every address: "the address goes up by one, 1519 going to 0".
    Claims moves_on ∷
    -- Every arrival, of a card with match and EC_EN blown; with all flags; of zeros; with EC_EN unblown; and without match.
    Claims
    (each_in 0 1519
    (arrives ones 5 Match ((0, none) ∷ (104, none) ∷ (176, P1 + Match) ∷ (177, R1 + Match) ∷ (1232, E1 + Match) ∷ (1360, none) ∷ []))) ∷
    Claims
    (each_of borders
    (arrives ones 7 (all_set + busy)
    ((0, SV + P1 + R1 + busy) ∷ (104, SV + P1 + R1 + E1 + busy) ∷ (1360, SV + P1 + R1 + E1 + busy) ∷ []))) ∷
    Claims (each_of borders (arrives zeros 5 Match ((0, none) ∷ (104, none) ∷ (1232, E1 + Match) ∷ (1360, none) ∷ []))) ∷
    Claims (each_of borders (arrives zeros 7 Match ((0, none) ∷ (104, none) ∷ (1360, none) ∷ []))) ∷
    Claims (each_of borders (arrives ones 5 none ((176, P1) ∷ (177, R1) ∷ []))) ∷
    []

-- "Answer", of an image of zeros: address and answer.
unfoldable pub pin_cases : List Case
unfolding zeros one_step never_read
pin_cases =
    Shows L2 7 zeros none
    ((0, zero) ∷ (79, zero) ∷ (80, released) ∷ (95, released) ∷ (96, zero) ∷ (175, zero) ∷ (176, released) ∷ (1231, released) ∷ (1232, zero) ∷ (1391, zero) ∷ (1392, released) ∷ (1519, released) ∷ []) ∷
    -- "Showing flags among the pin answers: E1 or P1 would tell of the hidden zones."
    Shows L2 7 zeros P1 ((80, released) ∷ (176, released) ∷ (1199, released) ∷ (1200, released) ∷ (1392, released) ∷ []) ∷
    Shows L2 7 zeros (P1 + E1) ((1232, zero) ∷ (1391, zero) ∷ (1392, released) ∷ (1519, released) ∷ []) ∷
    Shows L2 7 zeros (SV + R1) ((176, zero) ∷ (1199, zero) ∷ []) ∷
    Shows L2 7 zeros Match ((81, released) ∷ (95, released) ∷ (1201, released) ∷ (1231, released) ∷ []) ∷
    -- "VCC is on, RST and PGM are low, no programming is under way": bit 0 is 0.
    one_step 16 0 none 16 0 none released ∷
    one_step 19 0 none 19 0 none released ∷
    one_step 25 0 none 25 0 none released ∷
    one_step 21 0 (Latch + Programming) 21 0 (Latch + Programming) released ∷
    -- CLK, I/O and FUS do not matter.
    one_step 21 0 none 21 0 none zero ∷
    one_step 1 0 none 1 0 none zero ∷
    one_step 49 0 none 49 0 none zero ∷
    -- "Addresses 1392 to 1519 are never read."
    Claims never_read ∷
    []
