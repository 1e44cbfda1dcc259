-- One name that opens every definition of the card, for a proof that computes: `unfolding the_card`.
use Rattle.std.specs.Prelude.{ℕ}
use Rattle.std.specs.Int.Count.{count_trailing_zeros}
use Rattle.memory.specs.Image.{digit, cleared, bit, written, erased_word, filled}
use Rattle.rules.specs.Halves.{fuse_place, unblown, blown, off, fresh}
use Rattle.rules.specs.Lines.{place, mask, high, turned, change, edge}
use Rattle.rules.specs.Zones.{between, zone, is_fuse, is_gap}
use Rattle.rules.specs.Rights.{held, level1, granted, lacking, table, others, rights, may_read}
use Rattle.rules.specs.Programming.{barred, asks, may_program, effect_apart, effect, operation, may_program_now, operation_now, memory_after, fuses_after, turns, opens, key_opens}
use Rattle.rules.specs.Match.{compared, following, ends_match, arrived}
use Rattle.rules.specs.Steps.{follows, vcc_falls, clk_rises, rst_falls, programmed, unlatched, clocked, clk_falls, powered, next}
use Rattle.rules.specs.Steps.{driven, pin_value, pin}
use Rattle.rules.specs.Refusals.{many, rises, falls, changes, edge_refusal, line_refusal, refusal, any_set, made_up, before_a_step, state_refusal, before_a_run, run_refusal}
use Rattle.rules.specs.Card.{stepped, answered, checked_step, checked_answer, run, checked_run, answers_in}
use Rattle.rules.specs.Reason.{missing, first_missing, reason}

unfoldable pub the_card : ℕ
unfolding digit cleared bit written erased_word filled fuse_place unblown blown off fresh place mask high turned change edge between zone is_fuse is_gap held level1 granted lacking table others rights may_read barred asks may_program effect_apart effect operation may_program_now operation_now memory_after fuses_after turns opens key_opens compared following ends_match arrived follows vcc_falls clk_rises rst_falls programmed unlatched clocked clk_falls powered next driven pin_value pin many rises falls changes edge_refusal line_refusal refusal any_set made_up before_a_step state_refusal before_a_run run_refusal stepped answered checked_step checked_answer run checked_run answers_in count_trailing_zeros missing first_missing reason
the_card = 0
