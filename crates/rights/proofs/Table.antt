-- The code's table of rights, two levels by ten zones, is the one of the rules.
use Prim.Native.Nat.{ℕ, zero, suc, ◌+◌, ◌-◌, ◌≤◌, ◌<◌}
use native.Mathlib.Omega.{arith}
use mathlib.Core.Path.{◌≡◌, refl, sym}
use mathlib.Core.Bool.{Bool, true, false}
use mathlib.Core.List.{List, [], ◌∷◌, ◌++◌, map}
use lib.ListN.{length, get_or}
use lib.Seq.{get_or-append-add}
use Rattle.rules.specs.declared.Right.{Right}
use Rattle.rules.specs.Rights.{right, no, table, others}

-- A row as the code's table has it, and what the code makes of it.
abbrev spelled : Right → List ℕ
spelled x = x.read ∷ x.write ∷ x.erase ∷ []

abbrev said : List ℕ → Right
said e = right (get_or e 0 0) (get_or e 1 0) (get_or e 2 0)

within : (rows : List Right) (r : ℕ) → r < length rows → said (get_or (map spelled rows) r []) ≡ get_or (rows ++ others) r (right no no no)
within [] r h = absurd (omega arith)
within (x ∷ rows) zero h = refl
within (x ∷ rows) (suc r) h = within rows r (omega arith)

-- A level of the code's table, computed from the one of the rules, all rows at once.
abbrev pub spelled_level : Bool → List (List ℕ)
spelled_level l1 = map spelled (table l1)

pub in_level :
    (l1 : Bool) (r : ℕ) → r < 10 → said (get_or (spelled_level l1) r []) ≡ get_or (table l1 ++ others) r (right no no no)
unfolding table
in_level true r h = within (table true) r h
in_level false r h = within (table false) r h

after :
    (rows : List Right) (r : ℕ) → length rows ≤ r →
    get_or others (r - length rows) (right no no no) ≡ get_or (rows ++ others) r (right no no no)
after rows r h =
    let e : length rows + (r - length rows) ≡ r = omega arith in
    rw e at (sym (get_or-append-add rows others (r - length rows) (right no no no)))

pub past_table : (l1 : Bool) (r : ℕ) → 9 < r → get_or others (r - 10) (right no no no) ≡ get_or (table l1 ++ others) r (right no no no)
unfolding table
past_table true r h = after (table true) r h
past_table false r h = after (table false) r h
