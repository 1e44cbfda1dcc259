-- 01's cases, computed from the definitions. Assumes nothing.
use mathlib.Core.Path.{refl}
use Rattle.rules.specs.CaseForms.{every}
use Rattle.rules.specs.Cases.{table, TableHolds}

pub table_holds : TableHolds
unfolding every table
table_holds = refl
