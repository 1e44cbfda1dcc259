-- 01, "Card file and session": what some runs on a fresh card print. `proofs.AgainstCases` computes it from the definitions.
use Rattle.std.specs.Prelude.{◌+◌, ◌*◌, ◌≡◌, [], ◌∷◌, length, take, replicate}
use Rattle.rules.specs.CaseForms.{sample}
use Rattle.report.specs.Lines.{four_lines}
use Rattle.report.specs.Cases.{quoted, case_s_memory, case_s_steps, case_s_text}
use Rattle.fresh_run.specs.FreshRun.{fresh_card_run, run_text, enough}

abbrev pub FreshRuns : Type 0
FreshRuns =
    (run_text case_s_memory 7 case_s_steps 8 ≡ quoted case_s_text) ×
    -- "A fresh card has all lines low": RST rises alone; VCC and RST at once are two lines. The steps given are those announced.
    (run_text sample 5 (2 ∷ []) 1 ≡ quoted "done 1 of 1\nrefused 0\n1\nleft 8\n") ×
    (run_text sample 5 (3 ∷ []) 2 ≡ quoted "done 0 of 2\nrefused 2\n\nleft 8\n") ×
    (run_text sample 5 [] 0 ≡ quoted "done 0 of 0\nrefused 0\n\nleft 8\n") ×
    -- 10 and 14; "Runs of 4,096 go; 4,097 get 18."
    (run_text (take 173 sample) 5 [] 0 ≡ quoted "done 0 of 0\nrefused 10\n\nleft 8\n") ×
    (run_text sample 8 [] 0 ≡ quoted "done 0 of 0\nrefused 14\n\nleft 8\n") ×
    ((fresh_card_run sample 5 (replicate 4096 0)).refused ≡ 0) ×
    (run_text sample 5 (replicate 4097 0) 4097 ≡ quoted "done 0 of 4097\nrefused 18\n\nleft 8\n") ×
    -- Room for any text: four numbers of 20 digits instead of 1, and 4,096 answers.
    (length (four_lines 0 0 0 [] 0) + 4 * 19 + 4096 ≡ enough)
