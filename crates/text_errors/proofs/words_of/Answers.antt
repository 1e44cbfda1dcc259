use Rattle.words.proofs.Tests.{tests}
use Rattle.words.specs.Names.{bytes_of}
use Rattle.text_errors.specs.ErrorLine.{table, words_in, words}
use Rattle.text_errors.proofs.words_of.Goals as goal

pub returns-in-77 : goal.returns-in-77
unfolding words words_in table bytes_of
returns-in-77 c = rw c.in-77.is

pub returns-in-71 : goal.returns-in-71
unfolding words words_in table bytes_of
returns-in-71 c = rw c.in-71.is

pub returns-in-72 : goal.returns-in-72
unfolding words words_in table bytes_of
returns-in-72 c = rw c.in-72.is

pub returns-in-73 : goal.returns-in-73
unfolding words words_in table bytes_of
returns-in-73 c = rw c.in-73.is

pub returns-in-74 : goal.returns-in-74
unfolding words words_in table bytes_of
returns-in-74 c = rw c.in-74.is

pub returns-in-75 : goal.returns-in-75
unfolding words words_in table bytes_of
returns-in-75 c = rw c.in-75.is

pub returns-in-21 : goal.returns-in-21
unfolding words words_in table bytes_of
returns-in-21 c = rw c.in-21.is

pub returns-in-23 : goal.returns-in-23
unfolding words words_in table bytes_of
returns-in-23 c = rw c.in-23.is

pub returns-in-22 : goal.returns-in-22
unfolding words words_in table bytes_of
returns-in-22 c = rw c.in-22.is

pub returns-in-76 : goal.returns-in-76
unfolding words words_in table bytes_of
returns-in-76 c = rw c.in-76.is

pub returns-in_default : goal.returns-in_default
unfolding words words_in table bytes_of
returns-in_default c = search tests
