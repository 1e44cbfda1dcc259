use Rattle.memory.specs.Image.{erased_word}
use Rattle.memory.proofs.erase_word.Goals as goal

pub returns : goal.returns
unfolding erased_word
returns c = rw (c.store-2.ensures, c.store.ensures)
