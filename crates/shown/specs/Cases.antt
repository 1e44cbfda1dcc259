-- Where a walk can come to: the borders. `proofs.AgainstCases` computes the rows from the definition.
use Rattle.std.specs.Prelude.{true, false, [], ◌∷◌}
use Rattle.volatile.specs.Cases.{Gives}
use Rattle.shown.specs.Shown.{plain_at}

abbrev pub PlainAddresses : Type 0
PlainAddresses =
    Gives plain_at
    ((79, true) ∷
    (80, false) ∷
    (104, false) ∷
    (105, true) ∷
    (175, true) ∷
    (176, false) ∷
    (177, false) ∷
    (178, true) ∷
    (1198, true) ∷
    (1199, false) ∷
    (1232, false) ∷
    (1233, true) ∷
    (1359, true) ∷
    (1360, false) ∷
    (1361, true) ∷
    (1519, true) ∷
    (1520, false) ∷
    [])
