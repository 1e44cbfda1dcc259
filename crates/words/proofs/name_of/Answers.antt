use Rattle.std.proofs.Common.{rules, refl}
use Rattle.words.proofs.Table.{rows_of_length, found_beside, row_of_length, none_of_length}
use Rattle.words.specs.Names.{names, row}
use Rattle.words.proofs.name_of.Goals as goal

pub returns-in-2 : goal.returns-in-2
unfolding names row rows_of_length
returns-in-2 c = rw (c.name_in.ensures, found_beside c.args.w.now _) (row_of_length _ _ c.in-2.is refl)

pub returns-in-3 : goal.returns-in-3
unfolding names row rows_of_length
returns-in-3 c = rw (c.name_in-in-3.ensures, found_beside c.args.w.now _) (row_of_length _ _ c.in-3.is refl)

pub returns-in-4 : goal.returns-in-4
unfolding names row rows_of_length
returns-in-4 c = rw (c.name_in-in-4.ensures, found_beside c.args.w.now _) (row_of_length _ _ c.in-4.is refl)

pub returns-in-5 : goal.returns-in-5
unfolding names row rows_of_length
returns-in-5 c = rw (c.name_in-in-5.ensures, found_beside c.args.w.now _) (row_of_length _ _ c.in-5.is refl)

pub returns-in_default : goal.returns-in_default
returns-in_default c = search (rules, none_of_length)
