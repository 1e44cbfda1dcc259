use Rattle.std.proofs.Common.{◌≡◌, ◌≤◌, rules, length, sym}
use lib.Seq.{length-take-le}
use Rattle.text.specs.Meaning.{session}
use Rattle.text.specs.Held.{sheet_of}
use Rattle.text.proofs.Sections.{session_written}
use Rattle.text.proofs.session.write.Goals as goal

pub returns : goal.returns
unfolding session sheet_of
returns c =
    let s = c.args.sheet.now in
    let image : length s.image ≡ 174 = search rules in
    let within : s.count ≤ length s.steps = search rules in
    session_written s.image _ _ _ s.fuses s.count c.of-to.result _ _ _ c.put-4.new.self image (sym (length-take-le s.count s.steps within))
    c.requires c.of-to.ensures.bytes c.of-to.ensures.start
    c.put.ensures c.put-2.ensures c.put-3.ensures c.put-4.ensures (search rules)
