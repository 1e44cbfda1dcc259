-- 004's memory diagram and tables, computed against the definitions. Assumes nothing.
use mathlib.Core.Path.{refl}
use Rattle.data_sheet.specs.Tables.{in_place, diagram, DiagramAgrees, agrees, covers, table1, table2, TablesAgree}

pub diagram_agrees : DiagramAgrees
unfolding in_place diagram
diagram_agrees = refl

pub tables_agree : TablesAgree
unfolding agrees covers diagram table1 table2
tables_agree = (record { each = refl; whole = refl }, record { each = refl; whole = refl })
