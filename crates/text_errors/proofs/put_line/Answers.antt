use Rattle.words.specs.Names.{bytes_of}
use Rattle.memory.proofs.Filled.{then_filled}
use Rattle.text_errors.specs.ErrorLine.{words, error_line}
use Rattle.text_errors.proofs.put_line.Goals as goal

pub returns : goal.returns
unfolding error_line words bytes_of
returns c =
    let said = rw c.words_of.ensures at c.put-2.ensures in
    then_filled c.put_number.ensures
    (then_filled c.put.ensures (then_filled said (then_filled c.put_number-2.ensures c.put-3.ensures)))
