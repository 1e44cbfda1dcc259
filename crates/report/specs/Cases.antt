-- 01, "Card file and session": what the session program prints of some numbers and runs, and what a text leaves of its buffer.
-- `proofs.AgainstCases` computes it from the definitions.
use Rattle.std.specs.Prelude.{ℕ, ◌≡◌, List, [], ◌∷◌, map, replicate, set, Some, None}
use Prim.Native.Char.{code}
use Prim.Native.String.{String}
use Prim.Native.String as text
use Rattle.std.specs.Int.Count.{ones_in}
use Rattle.memory.specs.Buffer.{Put}
use Rattle.rules.specs.Card.{Ran, checked_run, tries_left}
use Rattle.rules.specs.Demands.{fresh_card}
use Rattle.rules.specs.CaseForms.{none, card_at, image, sample}
use Rattle.decimal.specs.Decimal.{digit, digits_within, decimal}
use Rattle.report.specs.Lines.{numbered, line, answers_line, bad_text, four_lines}
use Rattle.report.specs.Buffer.{Made, Enough}
use Rattle.report.specs.Session.{reported}

-- The bytes of a quoted text.
unfoldable pub quoted : String → List ℕ
quoted text.[] = []
quoted (text.◌∷◌ c s) = code c ∷ quoted s

-- "Case S: memory byte 0 is 127, all others 255, fuses 7, steps 16 48 49 53 49 51 49 55", and its four lines.
unfoldable pub case_s_memory : List ℕ
unfolding image
case_s_memory = image ((1, 127) ∷ (173, 255) ∷ [])

unfoldable pub case_s_steps : List ℕ
case_s_steps = 16 ∷ 48 ∷ 49 ∷ 53 ∷ 49 ∷ 51 ∷ 49 ∷ 55 ∷ []

abbrev pub case_s_text : String
case_s_text = "done 7 of 8\nrefused 2\n1100110\nleft 8\n"

-- One name that opens every definition of a text, for a proof that computes: `unfolding the_card the_text`.
unfoldable pub the_text : ℕ
unfolding quoted case_s_memory case_s_steps digit digits_within decimal numbered line answers_line bad_text four_lines ones_in tries_left reported
the_text = 0

-- A number in decimal.
abbrev pub NumbersPrint : Type 0
NumbersPrint =
    map decimal (0 ∷ 7 ∷ 9 ∷ 10 ∷ 42 ∷ 99 ∷ 100 ∷ 999 ∷ 1000 ∷ 4096 ∷ []) ≡
    map quoted ("0" ∷ "7" ∷ "9" ∷ "10" ∷ "42" ∷ "99" ∷ "100" ∷ "999" ∷ "1000" ∷ "4096" ∷ [])

-- The result of a run, with three tries used.
abbrev pub ran : Ran
ran = record { card = card_at 0 7 (set sample 12 0x1f) 0 none; answers = 0 ∷ 1 ∷ []; refused = 3 }

-- "It prints `bad N` alone, or four lines: steps done and given, refusal (0 if none), the answers without spaces, ones left in bits 96 to
-- 103."
abbrev pub TextsPrint : Type 0
TextsPrint =
    (map bad_text (9 ∷ 11 ∷ 17 ∷ []) ≡ map quoted ("bad 9\n" ∷ "bad 11\n" ∷ "bad 17\n" ∷ [])) ×
    (four_lines 3 12 7 (0 ∷ 1 ∷ 0 ∷ 1 ∷ []) 5 ≡ quoted "done 3 of 12\nrefused 7\n010\nleft 5\n") ×
    -- No step is given; none is done; fewer answers are at hand than steps were done.
    (four_lines 0 0 0 [] 8 ≡ quoted "done 0 of 0\nrefused 0\n\nleft 8\n") ×
    (four_lines 0 4096 19 (1 ∷ []) 0 ≡ quoted "done 0 of 4096\nrefused 19\n\nleft 0\n") ×
    (four_lines 3 3 0 (0 ∷ 1 ∷ []) 1 ≡ quoted "done 3 of 3\nrefused 0\n01\nleft 1\n") ×
    -- Of the steps given and the result of a run.
    (reported 4 ran ≡ quoted "done 2 of 4\nrefused 3\n01\nleft 5\n") ×
    (reported 8 (checked_run (fresh_card case_s_memory 7) case_s_steps 8) ≡ quoted case_s_text)

-- A text in a buffer that is longer, just long enough, and too small: "b\n" is 98 and 10.
abbrev pub TextsFit : Type 0
TextsFit =
    Made (98 ∷ 10 ∷ []) (70 ∷ 71 ∷ 72 ∷ []) (Some 2) (98 ∷ 10 ∷ 72 ∷ []) ×
    Made (98 ∷ 10 ∷ []) (70 ∷ 71 ∷ []) (Some 2) (98 ∷ 10 ∷ []) ×
    Made (98 ∷ 10 ∷ []) (70 ∷ []) None (70 ∷ []) ×
    Made (quoted case_s_text) (replicate 37 0) (Some 37) (quoted case_s_text) ×
    Made (quoted case_s_text) (replicate 36 0) None (replicate 36 0) ×
    -- Parts of a text: inside the buffer, at its end, past it.
    Put (70 ∷ 71 ∷ 72 ∷ 73 ∷ []) 1 (98 ∷ 10 ∷ []) 3 (70 ∷ 98 ∷ 10 ∷ 73 ∷ []) ×
    Put (70 ∷ 71 ∷ 72 ∷ []) 2 (98 ∷ 10 ∷ []) 3 (70 ∷ 71 ∷ 98 ∷ []) ×
    Put (70 ∷ 71 ∷ []) 4 (98 ∷ 10 ∷ []) 4 (70 ∷ 71 ∷ []) ×
    -- Where 4 bytes are enough, a buffer of 4 is not too small, and one of 3 may be.
    (Enough 4 4 None → ⊥) ×
    Enough 4 3 None
