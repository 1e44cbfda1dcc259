-- 01, "Rights": the compare of code and key, and what arriving at an address does.
use Rattle.std.specs.Prelude.{ℕ, ◌+◌, Bool, cond, not, ◌&&◌, ◌||◌, List, eqb}
use Rattle.std.specs.Bool.{beq}
use Rattle.memory.specs.Image.{bit}
use Rattle.rules.specs.Halves.{Volatile, EC_EN, unblown}
use Rattle.rules.specs.Zones.{between, last}

-- "the compare at 80 sets match to whether the latched bit equals the stored one; at 81 to 95 match stays only if it held and the bits
-- are equal. With SV 1 the compare fails (match 0)." "Key: likewise at 1200 and at 1201 to 1231, but here SV doesn't matter; in L1 the
-- compare fails (match 0)."
unfoldable pub compared : Bool → Bool → Bool → Bool → ℕ → Bool → Bool
unfolding between
compared l1 sv latch stored a matched =
    cond (between 80 95 a) (not sv && (beq latch stored && (eqb a 80 || matched)))
    (cond (between 1200 1231 a) (not l1 && (beq latch stored && (eqb a 1200 || matched))) matched)

-- "the address goes up by one, 1519 going to 0"
unfoldable pub following : ℕ → ℕ
following a = cond (eqb a last) 0 (a + 1)

-- "Arriving at 0 by any way clears E1 and match." "Match ends on arrival at 104 and 1360."
unfoldable pub ends_match : ℕ → Bool
ends_match a = eqb a 0 || (eqb a 104 || eqb a 1360)

-- "Arriving at 176 (177) sets P1 (R1) if that bit is 1." "If EC_EN is blown, a full match sets E1 on arrival at 1232."
unfoldable pub arrived : List ℕ → ℕ → ℕ → Volatile → Volatile
unfolding ends_match
arrived m fuses a v =
    record {
      lines = v.lines;
      address = a;
      sv = v.sv;
      p1 = eqb a 176 && bit m 176 || v.p1;
      r1 = eqb a 177 && bit m 177 || v.r1;
      e1 = not (eqb a 0) && (eqb a 1232 && (not (unblown EC_EN fuses) && v.matched) || v.e1);
      matched = not (ends_match a) && v.matched;
      latch = v.latch;
      programming = v.programming;
    }
