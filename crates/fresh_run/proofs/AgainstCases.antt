-- 01's cases of a run on a fresh card and of the session program, computed from the definitions. Assumes nothing.
use mathlib.Core.Path.{refl}
use Rattle.rules.specs.Computing.{the_card}
use Rattle.rules.specs.File.{memory_section, fuse_section, step_count, step_section, session_refusal}
use Rattle.rules.specs.CaseForms.{sample, session as session_bytes, ends_in}
use Rattle.report.specs.Cases.{the_text}
use Rattle.fresh_run.specs.FreshRun.{fresh_card_run, run_text, session_text}
use Rattle.fresh_run.specs.Cases.{FreshRuns}
use Rattle.fresh_run.specs.SessionCases.{one_step_session, reads_the_code, SessionsPrint}

pub fresh_runs : FreshRuns
unfolding the_card the_text sample fresh_card_run run_text
fresh_runs = (refl, refl, refl, refl, refl, refl, refl, refl, refl)

pub sessions_print : SessionsPrint
unfolding the_card the_text sample session_bytes ends_in one_step_session reads_the_code
    run_text memory_section fuse_section step_count step_section session_refusal session_text
sessions_print = (refl, refl, refl, refl, refl, refl, refl, refl, refl, refl, refl, refl, refl, refl)
