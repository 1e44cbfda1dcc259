-- 01, "Numbers a caller can get": each refusal, beside it what is accepted, and each before those after it.
use Rattle.std.specs.Prelude.{◌+◌, true, false, not, ◌&&◌, ◌||◌, List, [], ◌∷◌, eqb, leb, replicate, Ok, Err}
use Rattle.std.specs.Bool.{beq}
use Rattle.rules.specs.Card.{refusal_in, pin_in, answers_in}
use Rattle.rules.specs.CaseForms.{none, SV, P1, R1, E1, Match, Latch, Programming, zero, one, released, no_answer}
use Rattle.rules.specs.CaseForms.{card_at, sample, same_bytes, session, Case, Refuses, Prints, Claims, one_step, refuses_step, made_up_at, sound_at, unready}
use Rattle.rules.specs.CaseRanges.{each_in, each_of}
use Rattle.rules.specs.ClaimForms.{borders}
use Rattle.rules.specs.ClaimsRefusals.{RefusalRow, refusal_row, Up, Down, Either, none_changes, changes_alone, refused_by, refuses_as, refuses_pairs, is_made_up, fuses_get}

-- 3 "RST or FUS changes in programming", 4 "CLK falls in programming with PGM high", 5 "RST falls with CLK high", 6 "PGM rises with CLK
-- high", 7 "VCC rises with CLK or PGM high"; "3 to 6 need VCC".
unfoldable pub refusal_rows : List RefusalRow
refusal_rows =
    refusal_row 3 2 Either true true 0 ∷
    refusal_row 3 32 Either true true 0 ∷
    refusal_row 4 4 Down true true 8 ∷
    refusal_row 5 2 Down true false 4 ∷
    refusal_row 6 8 Up true false 4 ∷
    refusal_row 7 1 Up false false (4 + 8) ∷
    []

unfoldable pub step_refusals : List Case
unfolding refusal_rows none_changes changes_alone refuses_as refuses_pairs refused_by refuses_step one_step each_in each_of
step_refusals =
    -- "At most one line may differ from the present ones": each line, at some levels.
    Claims (none_changes && each_of (0 ∷ 17 ∷ 42 ∷ 63 ∷ []) changes_alone) ∷
    -- Every level, with no line and with each line changed, in programming and not; each pair of lines changed.
    Claims (each_in 0 63 (refuses_as refusal_rows)) ∷
    Claims (each_of (0 ∷ 1 ∷ 17 ∷ 21 ∷ 29 ∷ 42 ∷ 61 ∷ 63 ∷ []) refuses_pairs) ∷
    -- 1 "step byte over 63", before 2; 2 "more than one line differs", also all of them.
    Claims (each_in 64 255 (λ n. refused_by 0 false n 1 && refused_by 63 true n 1)) ∷
    Claims (refused_by 0 false 63 2 && (refused_by 63 true 0 2 && refused_by 21 true 42 2)) ∷
    -- A refused step changes nothing, and its number is marked as a refusal.
    refuses_step 0 0 none 64 1 ∷
    refuses_step 17 0 none 22 2 ∷
    refuses_step 21 1240 (SV + P1 + R1 + E1 + Match + Latch + Programming) 23 3 ∷
    refuses_step 29 1240 (SV + P1 + R1 + E1 + Match + Latch + Programming) 31 3 ∷
    refuses_step 31 1240 (SV + P1 + R1 + E1 + Match + Latch + Programming) 29 3 ∷
    refuses_step 29 1240 (SV + P1 + R1 + E1 + Match + Latch + Programming) 61 3 ∷
    refuses_step 61 1240 (SV + P1 + R1 + E1 + Match + Latch + Programming) 29 3 ∷
    refuses_step 29 0 Programming 25 4 ∷
    refuses_step 23 0 Latch 21 5 ∷
    refuses_step 21 0 Latch 29 6 ∷
    refuses_step 4 0 none 5 7 ∷
    refuses_step 8 0 none 9 7 ∷
    one_step 59 0 none 63 0 (Latch + Programming) released ∷
    one_step 21 0 none 53 0 none zero ∷
    []

-- 10, 14, 9, 18, 19, and then 1 to 7: each before the next.
unfoldable pub order_cases : List Case
unfolding card_at sample unready fuses_get each_in
order_cases =
    -- 10 "memory buffer isn't 174 bytes": none, one less, one more. With all that comes after it, and with each.
    Refuses (card_at 0 7 [] 0 none) [] 0 10 ∷
    Refuses (card_at 0 7 (replicate 173 255) 0 none) [] 0 10 ∷
    Refuses (card_at 0 7 (replicate 175 255) 0 none) [] 0 10 ∷
    unready 16 7 (replicate 175 255) none 17 10 ∷
    unready 0 8 (replicate 175 255) SV 64 10 ∷
    unready 0 8 (replicate 173 255) none 0 10 ∷
    unready 0 7 (replicate 173 255) SV 0 10 ∷
    unready 0 7 (replicate 173 255) none 64 10 ∷
    Refuses (card_at 0 7 (replicate 173 255) 0 none) (replicate 4097 0) 4097 10 ∷
    Refuses (card_at 0 7 (replicate 173 255) 0 none) (0 ∷ []) 0 10 ∷
    -- 14 "fuse byte over 7": every byte.
    Claims (each_in 0 7 (fuses_get 0) && each_in 8 255 (fuses_get 14)) ∷
    unready 16 8 sample none 17 14 ∷
    unready 0 8 sample SV 64 14 ∷
    unready 0 8 sample SV 0 14 ∷
    unready 0 8 sample none 64 14 ∷
    Refuses (card_at 0 8 sample 0 none) (replicate 4097 0) 4097 14 ∷
    Refuses (card_at 0 8 sample 0 none) (0 ∷ []) 0 14 ∷
    -- 9 "made-up state".
    unready 16 7 sample SV 17 9 ∷
    unready 0 7 sample SV 64 9 ∷
    unready 0 7 sample SV 3 9 ∷
    Refuses (card_at 0 7 sample 0 SV) (replicate 4097 0) 4097 9 ∷
    Refuses (card_at 0 7 sample 0 SV) (0 ∷ []) 0 9 ∷
    -- 18 "a run of over 4,096 steps", 19 "answer buffer shorter than the steps".
    Refuses (card_at 0 7 sample 0 none) (replicate 4097 64) 0 18 ∷
    Refuses (card_at 0 7 sample 0 none) (64 ∷ []) 0 19 ∷
    Refuses (card_at 0 7 sample 0 none) (0 ∷ 0 ∷ []) 1 19 ∷
    []

-- 9: "line levels over 63; address over 1519; .. E1 outside 1232 to 1519."
unfoldable pub state_cases : List Case
unfolding made_up_at sound_at is_made_up borders each_in each_of
state_cases =
    made_up_at 64 0 none ∷
    made_up_at 81 0 none ∷
    made_up_at 17 1520 none ∷
    sound_at 17 1519 (SV + P1 + R1 + E1) ∷
    sound_at 16 0 none ∷
    sound_at 63 0 (Latch + Programming) ∷
    -- "VCC off with anything but the lines non-zero": at every level without VCC.
    Claims (each_in 0 31 (λ n. not (is_made_up (n + n) 0 none) && each_of (1 ∷ 2 ∷ 4 ∷ 8 ∷ 16 ∷ 32 ∷ 64 ∷ []) (is_made_up (n + n) 0))) ∷
    Claims (each_of (0 ∷ 4 ∷ 28 ∷ 62 ∷ []) (λ levels. is_made_up levels 1 none && is_made_up levels 1519 none)) ∷
    -- "latch set with CLK low; programming with CLK low; VCC, CLK and PGM high without programming": VCC, and CLK and PGM as said, under
    -- each of RST, I/O and FUS.
    Claims
    (each_of (0 ∷ 2 ∷ 16 ∷ 18 ∷ 32 ∷ 34 ∷ 48 ∷ 50 ∷ [])
    (λ n.
    not (is_made_up (n + 1) 0 none) && (is_made_up (n + 1) 0 Latch && (is_made_up (n + 1) 0 Programming && is_made_up (n + 1) 0 (Latch + Programming))) &&
    (not (is_made_up (n + 9) 0 none) && (is_made_up (n + 9) 0 Latch && (is_made_up (n + 9) 0 Programming && is_made_up (n + 9) 0 (Latch + Programming)))) &&
    (not (is_made_up (n + 5) 0 none) && (not (is_made_up (n + 5) 0 Latch) && (not (is_made_up (n + 5) 0 Programming) && not (is_made_up (n + 5) 0 (Latch + Programming))))) &&
    (is_made_up (n + 13) 0 none && (is_made_up (n + 13) 0 Latch && (not (is_made_up (n + 13) 0 Programming) && not (is_made_up (n + 13) 0 (Latch + Programming))))))) ∷
    -- "match outside 81 to 103 and 1201 to 1359; E1 outside 1232 to 1519"; the other flags stand anywhere.
    Claims
    (each_of borders
    (λ a.
    beq (is_made_up 17 a Match) (not (leb 81 a && leb a 103 || leb 1201 a && leb a 1359)) &&
    (beq (is_made_up 17 a E1) (not (leb 1232 a)) && not (is_made_up 17 a (SV + P1 + R1))))) ∷
    []

-- "with the number, marked as a refusal, in place of a pin answer": the refusal of an answer, and its pin.
unfoldable pub answer_cases : List Case
unfolding refusal_in pin_in
answer_cases =
    Claims (eqb (refusal_in (Ok zero)) 0 && (eqb (refusal_in (Ok one)) 0 && eqb (refusal_in (Err 3)) 3)) ∷
    Claims (eqb (pin_in (Ok zero)) zero && (eqb (pin_in (Ok one)) one && eqb (pin_in (Err 3)) no_answer)) ∷
    []

-- "stops at the first refused one, giving its number and the count done": no step is looked at before its turn.
unfoldable pub run_cases : List Case
unfolding session sample
run_cases =
    Prints (session sample 7 (16 ∷ 64 ∷ [])) 1 2 1 (released ∷ []) 8 ∷
    Prints (session sample 7 (3 ∷ 64 ∷ [])) 0 2 2 [] 8 ∷
    Prints (session sample 7 (16 ∷ 17 ∷ 22 ∷ 17 ∷ [])) 2 4 2 (released ∷ zero ∷ []) 8 ∷
    -- "A fresh card has all lines low.": each line rises alone.
    Prints (session sample 7 (1 ∷ [])) 1 1 0 (zero ∷ []) 8 ∷
    Prints (session sample 7 (2 ∷ 0 ∷ 4 ∷ 0 ∷ 8 ∷ 0 ∷ [])) 6 6 0 (released ∷ released ∷ released ∷ released ∷ released ∷ released ∷ []) 8 ∷
    Prints (session sample 7 (32 ∷ [])) 1 1 0 (released ∷ []) 8 ∷
    []

-- "The rest of the answers buffer keeps its bytes."
unfoldable pub buffer_cases : List Case
unfolding answers_in same_bytes
buffer_cases =
    Claims (same_bytes (answers_in (0 ∷ 1 ∷ []) (7 ∷ 8 ∷ 9 ∷ 10 ∷ [])) (0 ∷ 1 ∷ 9 ∷ 10 ∷ [])) ∷
    Claims (same_bytes (answers_in [] (7 ∷ 8 ∷ [])) (7 ∷ 8 ∷ [])) ∷
    Claims (same_bytes (answers_in (1 ∷ 0 ∷ []) (7 ∷ 8 ∷ [])) (1 ∷ 0 ∷ [])) ∷
    []
