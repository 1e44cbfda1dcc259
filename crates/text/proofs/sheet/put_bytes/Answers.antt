use Rattle.std.proofs.Common.{sym, ◌∙◌, arith}
use Rattle.text.proofs.Bytes.{next_byte, no_more}
use Rattle.text.proofs.sheet.put_bytes.Goals as goal

pub loop-i-preserved : goal.loop-i-preserved
loop-i-preserved c = next_byte _ _ _ _ _ _ (omega arith) c.byte_of.ensures ∙ c.loop-i.invariant

pub returns : goal.returns
returns c = sym (no_more c.loop-i.image c.args.first c.loop-i.i c.args.count c.args.x (omega arith)) ∙ c.loop-i.invariant
