use Rattle.std.proofs.Common.{◌≡◌, ◌≤◌, rules, arith, length}
use Rattle.std.proofs.lemmas.Result.{err_from_is_err_and}
use Rattle.text.specs.Held.{sheet_of, reading_of}
use Rattle.text.specs.Assembling.{told}
use Rattle.text.proofs.Answering.{session_length, over_length, amiss, tight, done}
use Rattle.text.proofs.assemble.Goals as goal

pub returns-then-text-gt-LONGEST_TEXT : goal.returns-then-text-gt-LONGEST_TEXT
unfolding told
returns-then-text-gt-LONGEST_TEXT c = over_length _ _ c.if-text-gt-LONGEST_TEXT.true

pub returns-in_err-sheet : goal.returns-in_err-sheet
unfolding told reading_of
returns-in_err-sheet c =
    let p = err_from_is_err_and c.from_residual.result c.from_residual.ensures.1 in
    rw (p.1, p.2) (amiss _ _ c.if-text-gt-LONGEST_TEXT.false _ _ c.in_err-sheet.ensures)

pub returns-then-out-sheet : goal.returns-then-out-sheet
unfolding told reading_of
returns-then-out-sheet c =
    let s = c.in_ok-sheet.sheet in
    let image : length s.image ≡ 174 = search rules in
    let within : s.count ≤ length s.steps = search rules in
    tight _ _ c.if-text-gt-LONGEST_TEXT.false (sheet_of s) c.in_ok-sheet.ensures
    (omega (arith, session_length s image within, c.if-out-sheet.true))

pub returns : goal.returns
unfolding told reading_of
returns c =
    let s = c.in_ok-sheet.sheet in
    let image : length s.image ≡ 174 = search rules in
    let within : s.count ≤ length s.steps = search rules in
    done _ _ c.if-text-gt-LONGEST_TEXT.false (sheet_of s) c.in_ok-sheet.ensures _ _
    (omega (arith, session_length s image within, c.if-out-sheet.false)) c.write.ensures
