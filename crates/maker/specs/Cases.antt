-- 01, "The step maker": the results of some acts, each by its own promise: the act's refusal by 21 or 23, its steps, the lent buffer, the
-- answer, the buffer afterwards. `proofs.AgainstCases` computes them from the definitions.
--
-- Steps are sums as in 01: VCC 1, RST 2, CLK 4, PGM 8, I/O 16, FUS 32. So 17 is idle with FUS low and 49 with FUS high.
use Rattle.std.specs.Prelude.{◌≡◌, false, [], ◌∷◌, Ok, Err}
use Rattle.rules.specs.Maker.{reset, walk, program, blow, open_card, walk_refusal, open_refusal}
use Rattle.rules.specs.CaseForms.{L1, L2, code}
use Rattle.maker.specs.Act.{refusal_in, count_of, Acted}

abbrev pub ActsMake : Type 0
ActsMake =
    -- In a buffer with just enough room, and in a longer one: "bytes after the count stay".
    Acted 0 (reset L2) (70 ∷ 71 ∷ []) (Ok 2) (19 ∷ 17 ∷ []) ×
    Acted 0 (reset L1) (70 ∷ 71 ∷ 72 ∷ 73 ∷ []) (Ok 2) (51 ∷ 49 ∷ 72 ∷ 73 ∷ []) ×
    Acted (walk_refusal 2) (walk L2 2) (70 ∷ 71 ∷ 72 ∷ 73 ∷ 74 ∷ []) (Ok 4) (21 ∷ 17 ∷ 21 ∷ 17 ∷ 74 ∷ []) ×
    Acted 0 (program L2 false) (70 ∷ 71 ∷ 72 ∷ 73 ∷ 74 ∷ 75 ∷ 76 ∷ []) (Ok 6) (25 ∷ 9 ∷ 13 ∷ 5 ∷ 21 ∷ 17 ∷ 76 ∷ []) ×
    -- A walk of 0 is an act without steps.
    Acted (walk_refusal 0) (walk L2 0) (70 ∷ []) (Ok 0) (70 ∷ []) ×
    Acted (walk_refusal 0) (walk L2 0) [] (Ok 0) [] ×
    -- "22 buffer too small. Nothing is then written".
    Acted 0 (reset L2) (70 ∷ []) (Err 22) (70 ∷ []) ×
    Acted 0 (program L2 false) (70 ∷ 71 ∷ 72 ∷ 73 ∷ 74 ∷ []) (Err 22) (70 ∷ 71 ∷ 72 ∷ 73 ∷ 74 ∷ []) ×
    Acted 0 (blow L2) [] (Err 22) [] ×
    -- "Refused in order: 21 a walk over 1519; 23 no one in the byte; 22": 21 and 23 come first, and also where there is room.
    Acted (walk_refusal 1520) (walk L2 1520) (70 ∷ []) (Err 21) (70 ∷ []) ×
    Acted (open_refusal 0) (open_card L2 code 0) (70 ∷ []) (Err 23) (70 ∷ []) ×
    Acted 21 (17 ∷ []) (70 ∷ 71 ∷ []) (Err 21) (70 ∷ 71 ∷ []) ×
    Acted 23 (17 ∷ []) (70 ∷ 71 ∷ []) (Err 23) (70 ∷ 71 ∷ [])

-- The number of an answer, 0 where it is none, and "count 0" where it is refused.
abbrev pub AnswersTold : Type 0
AnswersTold =
    (refusal_in (Ok 6) ≡ 0) ×
    (refusal_in (Err 21) ≡ 21) ×
    (refusal_in (Err 22) ≡ 22) ×
    (count_of (Ok 6) ≡ 6) ×
    (count_of (Err 22) ≡ 0)
