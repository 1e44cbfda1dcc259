-- Tables 1 and 2 and the memory diagram of source document 004, as it prints them, held against the definitions that state 01.
-- `proofs.Agreement` computes the two claims.
use Rattle.std.specs.Prelude.{ℕ, zero, suc, ◌+◌, ◌-◌, ◌≡◌, Bool, true, false, cond, not, ◌&&◌, ◌||◌, List, [], ◌∷◌, eqb, take}
use Rattle.std.specs.Bool.{beq}
use Rattle.rules.specs.declared.Zone.{Zone}
use Rattle.rules.specs.declared.Zone.TheVariants.{FZ, IZ, SC, SCAC, CPZ, AZ, EZ, EC, MTZ, MFZ}
use Rattle.rules.specs.declared.Zone.TheVariants.{Block, FuseMF, FuseECEN, FuseISS, Gap}
use Rattle.rules.specs.Rights.{Held, level1, may_read}
use Rattle.rules.specs.Programming.{may_program}
use Rattle.rules.specs.Match.{compared}
use Rattle.rules.specs.Zones.{zone, row}
use Rattle.rules.specs.Computing.{the_card}

-- "AT88SC101 Memory Diagram": first and last bit address of each part. What lies between them is a gap.
pub record Part : Type 0 where
  pub of : Zone
  pub first : ℕ
  pub last : ℕ

abbrev pub part : Zone → ℕ → ℕ → Part
part z a b = record { of = z; first = a; last = b }

unfoldable pub diagram : List Part
diagram =
    part FZ 0 15 ∷
    part IZ 16 79 ∷
    part SC 80 95 ∷
    part SCAC 96 111 ∷
    part CPZ 112 175 ∷
    part AZ 176 1199 ∷
    part EZ 1200 1231 ∷
    part EC 1232 1359 ∷
    part MTZ 1360 1375 ∷
    part MFZ 1376 1391 ∷
    part Block 1392 1407 ∷
    part FuseMF 1408 1423 ∷
    part Gap 1424 1480 ∷
    part FuseECEN 1481 1481 ∷
    part Gap 1482 1503 ∷
    part FuseISS 1504 1519 ∷
    []

-- The `count` addresses from a on lie in z.
unfoldable pub lies_in : Zone → ℕ → ℕ → Bool
unfolding the_card
lies_in z zero a = true
lies_in z (suc count) a = eqb (row (zone a)) (row z) && lies_in z count (suc a)

unfoldable pub in_place : List Part → Bool
unfolding lies_in
in_place [] = true
in_place (p ∷ ps) = lies_in p.of (suc p.last - p.first) p.first && in_place ps

-- Every address lies in the zone that the memory diagram gives it.
abbrev pub DiagramAgrees : Type 0
DiagramAgrees = in_place diagram ≡ true

-- A cell of a table: 0, 1 or x; and its answers.
abbrev pub x : ℕ
x = 2

abbrev pub yes : Bool
yes = true

abbrev pub no : Bool
no = false

unfoldable pub fits : ℕ → Bool → Bool
fits zero b = not b
fits (suc zero) b = b
fits (suc (suc k)) b = true

-- A row: the zone, what it asks of flags and fuse, and its four answers.
pub record Row : Type 0 where
  pub of : Zone
  pub sv : ℕ
  pub p1 : ℕ
  pub r1 : ℕ
  pub e1 : ℕ
  pub mf : ℕ
  pub read : Bool
  pub erase : Bool
  pub write : Bool
  pub compare : Bool

-- Zone, SV, R1, MF, Read, Erase, Write, Compare.
abbrev pub personalizing : Zone → ℕ → ℕ → ℕ → Bool → Bool → Bool → Bool → Row
personalizing z sv r1 mf r e w c =
    record { of = z; sv = sv; p1 = x; r1 = r1; e1 = x; mf = mf; read = r; erase = e; write = w; compare = c }

-- Zone, SV, P1, R1, E1, Read, Erase, Write, Compare.
abbrev pub personalized : Zone → ℕ → ℕ → ℕ → ℕ → Bool → Bool → Bool → Bool → Row
personalized z sv p1 r1 e1 r e w c =
    record { of = z; sv = sv; p1 = p1; r1 = r1; e1 = e1; mf = x; read = r; erase = e; write = w; compare = c }

-- "Table 1. Access Conditions During Personalization (Issuer Fuse not blown)."
unfoldable pub table1 : List Row
table1 =
    personalizing FZ x x x yes no no no ∷
    personalizing IZ 0 x x yes no no no ∷
    personalizing IZ 1 x x yes yes yes no ∷
    personalizing SC 0 x x no no no yes ∷
    personalizing SC 1 x x yes yes yes no ∷
    personalizing SCAC 0 x x yes no yes no ∷
    personalizing SCAC 1 x x yes yes yes no ∷
    personalizing CPZ 0 x x yes no no no ∷
    personalizing CPZ 1 x x yes yes yes no ∷
    personalizing AZ 0 0 x no no no no ∷
    personalizing AZ 0 1 x yes no no no ∷
    personalizing AZ 1 x x yes yes yes no ∷
    personalizing EZ 0 x x no no no no ∷
    personalizing EZ 1 x x yes yes yes no ∷
    personalizing EC 0 x x yes no yes no ∷
    personalizing EC 1 x x yes yes yes no ∷
    personalizing MTZ x x x yes yes yes no ∷
    personalizing MFZ 0 x x yes no no no ∷
    personalizing MFZ 1 x 0 yes no no no ∷
    personalizing MFZ 1 x 1 yes yes yes no ∷
    []

-- "Table 2. Access Conditions after Personalization (Issuer Fuse blown)."
unfoldable pub table2 : List Row
table2 =
    personalized FZ x x x x yes no no no ∷
    personalized IZ x x x x yes no no no ∷
    personalized SC 0 x x x no no no yes ∷
    personalized SC 1 x x x no yes yes no ∷
    personalized SCAC 0 x x x yes no yes no ∷
    personalized SCAC 1 x x x yes yes yes no ∷
    personalized CPZ 0 x x x yes no no no ∷
    personalized CPZ 1 x x x yes yes yes no ∷
    personalized AZ 0 x 0 x no no no no ∷
    personalized AZ 0 x 1 x yes no no no ∷
    personalized AZ 1 0 x 0 yes no no no ∷
    personalized AZ 1 0 x 1 yes yes no no ∷
    personalized AZ 1 1 x 0 yes no yes no ∷
    personalized AZ 1 1 x 1 yes yes yes no ∷
    personalized EZ x x x x no no no yes ∷
    personalized EC x x x x yes no yes no ∷
    personalized MTZ x x x x yes yes yes no ∷
    personalized MFZ x x x x yes no no no ∷
    []

-- Where 01 decides against table 2, both in its column Erase at SV 1 and E1 1. Block and fuses stand in neither table.
-- AZ: "004's L2 row that erases at an AZ address under E1 can't be met: E1 is clear there.": no erase at any address of the zone.
-- EC: "L2 erase in EC with SV, E1 and RST low: bits 176 to 1199 become 1, EC stays.": 004's own text of the erase says so; the table's
-- no is of the bits of EC.
unfoldable pub decided : Bool → Row → Held → Bool
decided l1 r h =
    cond (not l1 && (h.sv && (h.e1 && (eqb (row r.of) (row AZ) || eqb (row r.of) (row EC)))))
    (eqb (row r.of) (row EC))
    r.erase

-- The first address of a zone. There a compare may begin, and there an erase in EC goes with EC_EN blown too.
unfoldable pub first_of : List Part → Zone → ℕ
first_of [] z = 0
first_of (p ∷ ps) z = cond (eqb (row p.of) (row z)) p.first (first_of ps z)

-- A row speaks of what is held.
unfoldable pub speaks : Row → Held → Bool
unfolding fits
speaks r h = fits r.sv h.sv && (fits r.p1 h.p1 && (fits r.r1 h.r1 && (fits r.e1 h.e1 && fits r.mf h.mf)))

-- The rights with RST low are the row's answers. A compare goes where equal bits at the zone's first address set match.
unfoldable pub answers : Row → Held → Bool → Bool
unfolding the_card decided first_of diagram
answers r h ec_en =
    let a = first_of diagram r.of in
    beq (may_read h r.of) r.read &&
    (beq (may_program h ec_en false true a r.of) (decided (level1 h) r h) &&
    (beq (may_program h ec_en false false a r.of) r.write &&
    beq (compared (level1 h) h.sv true true a false) r.compare))

-- Every value of the flags and the fuse that the tables name.
unfoldable pub both : (Bool → Bool) → Bool
both f = f false && f true

unfoldable pub each_value : (Bool → Bool → Bool → Bool → Bool → Bool) → Bool
unfolding both
each_value f = both (λ sv. both (λ p1. both (λ r1. both (λ e1. both (λ mf. f sv p1 r1 e1 mf)))))

-- FUS and ISS at level 1, and in the three ways to level 2.
unfoldable pub each_way : Bool → (Bool → Bool → Bool) → Bool
each_way true f = f true true
each_way false f = f false false && (f false true && f true false)

-- The rows hold for every value of their x's, of the fuses that they do not name, and, at level 2, of FUS.
unfoldable pub agrees : Bool → List Row → Bool
unfolding each_value each_way both speaks answers
agrees l1 [] = true
agrees l1 (r ∷ rs) =
    each_way l1
    (λ fus iss.
    each_value
    (λ sv p1 r1 e1 mf.
    let h : Held = record { sv = sv; p1 = p1; r1 = r1; e1 = e1; mf = mf; iss = iss; fus = fus } in
    both (λ ec_en. not (speaks r h) || answers r h ec_en))) &&
    agrees l1 rs

-- How many rows of a zone speak of what is held.
unfoldable pub speaking : List Row → Zone → Held → ℕ
unfolding speaks
speaking [] z h = 0
speaking (r ∷ rs) z h = cond (eqb (row r.of) (row z) && speaks r h) 1 0 + speaking rs z h

-- In each of these parts one row, and only one, speaks of every value.
unfoldable pub covers : List Row → List Part → Bool
unfolding each_value speaking
covers rows [] = true
covers rows (p ∷ ps) =
    each_value
    (λ sv p1 r1 e1 mf.
    eqb (speaking rows p.of (record { sv = sv; p1 = p1; r1 = r1; e1 = e1; mf = mf; iss = true; fus = true })) 1) &&
    covers rows ps

-- Each row of a table agrees with the rights, and the rows are there for each of the ten zones and every value.
pub record Agrees (l1 : Bool) (rows : List Row) : Type 0 where
  pub each : agrees l1 rows ≡ true
  pub whole : covers rows (take 10 diagram) ≡ true

abbrev pub TablesAgree : Type 0
TablesAgree = Agrees true table1 × Agrees false table2
