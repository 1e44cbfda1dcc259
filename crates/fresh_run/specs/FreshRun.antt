-- 01, "Card file and session": a run on a fresh card, the four lines that tell of it, and what a session's bytes come to.
use Rattle.std.specs.Prelude.{ℕ, cond, List, eqb}
use Rattle.memory.specs.Image.{bytes}
use Rattle.rules.specs.Refusals.{longest}
use Rattle.rules.specs.File.{memory_section, fuse_section, step_count, step_section, session_refusal}
use Rattle.rules.specs.Card.{Ran, checked_run}
use Rattle.rules.specs.Demands.{fresh_card}
use Rattle.report.specs.Lines.{bad_text}
use Rattle.report.specs.Session.{reported}

-- "starts a fresh card": the run, with room for the answers of the longest.
unfoldable pub fresh_card_run : List ℕ → ℕ → List ℕ → Ran
fresh_card_run m fuses steps = checked_run (fresh_card m fuses) steps longest

-- "four lines: steps done and given, refusal (0 if none), the answers without spaces, ones left in bits 96 to 103"
unfoldable pub run_text : List ℕ → ℕ → List ℕ → ℕ → List ℕ
unfolding fresh_card_run
run_text m fuses steps given = reported given (fresh_card_run m fuses steps)

-- "It prints `bad N` alone, or four lines".
unfoldable pub session_text : List ℕ → List ℕ
session_text file =
    let refusal = session_refusal file bytes in
    cond
    (eqb refusal 0)
    (run_text (memory_section file) (fuse_section file) (step_section file) (step_count file))
    (bad_text refusal)

-- How much room is enough for any text: the words, four numbers of at most 20 digits, and the answers of the longest run.
abbrev pub enough : ℕ
enough = 4202
