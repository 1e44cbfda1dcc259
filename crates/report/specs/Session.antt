-- 01, "Card file and session": the session program's text for a run.
use Rattle.std.specs.Prelude.{ℕ, List, length}
use Rattle.rules.specs.Card.{Ran, tries_left}
use Rattle.report.specs.Lines.{four_lines}

-- "steps done and given, refusal (0 if none), the answers without spaces, ones left in bits 96 to 103", these counted after the run.
unfoldable pub reported : ℕ → Ran → List ℕ
reported given r = four_lines (length r.answers) given r.refused r.answers (tries_left r.card.memory)
