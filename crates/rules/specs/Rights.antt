-- 01, "Rights (004, tables 1 and 2)": what an access asks for, and what is there.
use Rattle.std.specs.Prelude.{ℕ, ◌+◌, Bool, true, false, cond, not, ◌&&◌, ◌||◌, List, [], ◌∷◌, ◌++◌, get_or}
use Rattle.memory.specs.Image.{digit}
use Rattle.rules.specs.declared.Right.{Right}
use Rattle.rules.specs.declared.Zone.{Zone}
use Rattle.rules.specs.Halves.{MF, ISS, unblown, Volatile}
use Rattle.rules.specs.Lines.{FUS, high}
use Rattle.rules.specs.Zones.{row}

-- What a right may ask for, as the digits of a mask. A mask is a sum of these: all of them must be there.
abbrev pub yes : ℕ
yes = 0

abbrev pub no : ℕ
no = 1

abbrev pub SV : ℕ
SV = 2

abbrev pub P1 : ℕ
P1 = 4

abbrev pub E1 : ℕ
E1 = 8

abbrev pub MF_unblown : ℕ
MF_unblown = 16

abbrev pub ISS_unblown : ℕ
ISS_unblown = 32

abbrev pub FUS_high : ℕ
FUS_high = 64

abbrev pub SV_or_R1 : ℕ
SV_or_R1 = 128

-- What is there at a moment: flags, fuses and the line FUS.
pub record Held : Type 0 where
  pub sv : Bool
  pub p1 : Bool
  pub r1 : Bool
  pub e1 : Bool
  pub mf : Bool
  pub iss : Bool
  pub fus : Bool

unfoldable pub held : ℕ → Volatile → Held
held fuses v =
    record {
      sv = v.sv;
      p1 = v.p1;
      r1 = v.r1;
      e1 = v.e1;
      mf = unblown MF fuses;
      iss = unblown ISS fuses;
      fus = high FUS v.lines;
    }

-- "Level 1 (L1) when FUS is high and ISS unblown, else level 2 (L2)."
unfoldable pub level1 : Held → Bool
level1 h = h.fus && h.iss

-- A thing that is asked for is there.
abbrev pub met : Bool → Bool → Bool
met true there = there
met false there = true

unfoldable pub granted : ℕ → Held → Bool
unfolding digit
granted asked h =
    not (digit 0 asked) &&
    (met (digit 1 asked) h.sv &&
    (met (digit 2 asked) h.p1 &&
    (met (digit 3 asked) h.e1 &&
    (met (digit 4 asked) h.mf &&
    (met (digit 5 asked) h.iss &&
    (met (digit 6 asked) h.fus && met (digit 7 asked) (h.sv || h.r1)))))))

-- A thing's digit where the thing is not there.
abbrev pub unless : Bool → ℕ → ℕ
unless there thing = cond there 0 thing

-- What a right may ask for and is not there, as a mask; `no` never is.
unfoldable pub lacking : Held → ℕ
lacking h =
    no + unless h.sv SV + unless h.p1 P1 + unless h.e1 E1 + unless h.mf MF_unblown + unless h.iss ISS_unblown +
    unless h.fus FUS_high + unless (h.sv || h.r1) SV_or_R1

-- A row of the table: what reading, writing and erasing ask for.
abbrev pub right : ℕ → ℕ → ℕ → Right
right r w e = record { read = r; write = w; erase = e }

-- "The rights stand as one constant table, two levels by ten zones": FZ, IZ, SC, SCAC, CPZ, AZ, EZ, EC, MTZ, MFZ. The erase in EC at
-- level 2 is the one of bits 176 to 1199.
unfoldable pub table : Bool → List Right
table true =
    right yes no no ∷
    right yes SV SV ∷
    right SV SV SV ∷
    right yes yes SV ∷
    right yes SV SV ∷
    right SV_or_R1 SV SV ∷
    right SV SV SV ∷
    right yes yes SV ∷
    right yes yes yes ∷
    right yes (SV + MF_unblown) (SV + MF_unblown) ∷
    []
table false =
    right yes no no ∷
    right yes no no ∷
    right no SV SV ∷
    right yes yes SV ∷
    right yes SV SV ∷
    right SV_or_R1 (SV + P1) no ∷
    right no no no ∷
    right yes yes (SV + E1) ∷
    right yes yes yes ∷
    right yes no no ∷
    []

-- Block, "L1, SV"; the fuses, "write only, .. ISS unblown: MF .. with SV; EC_EN .. with FUS high ..; ISS .. with SV".
unfoldable pub others : List Right
others =
    right no (SV + ISS_unblown + FUS_high) (SV + ISS_unblown + FUS_high) ∷
    right no (SV + ISS_unblown) no ∷
    right no (ISS_unblown + FUS_high) no ∷
    right no (SV + ISS_unblown) no ∷
    []

unfoldable pub rights : Bool → Zone → Right
unfolding table others
rights l1 z = get_or (table l1 ++ others) (row z) (right no no no)

-- "Addresses 1392 to 1519 are never read", and no other but by the table.
unfoldable pub may_read : Held → Zone → Bool
unfolding granted level1 rights
may_read h z = granted (rights (level1 h) z).read h
