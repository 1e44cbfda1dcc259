-- 01, "Steps": what each edge of a line does, and the pin's answer.
use Rattle.std.specs.Prelude.{ℕ, Bool, false, cond, not, ◌&&◌, ◌||◌}
use Rattle.memory.specs.Image.{bit}
use Rattle.rules.specs.declared.Operation.{Operation}
use Rattle.rules.specs.Halves.{Volatile, Card, off, EC_EN, unblown}
use Rattle.rules.specs.Lines.{VCC, RST, CLK, PGM, IO, FUS, high, Edge, Same, Rises, Falls, Many, edge}
use Rattle.rules.specs.Zones.{zone}
use Rattle.rules.specs.Rights.{held, level1, may_read}
use Rattle.rules.specs.Programming.{operation_now, memory_after, fuses_after, opens, key_opens}
use Rattle.rules.specs.Match.{compared, following, arrived}

-- New levels, with the match, the latched data and the programming that they leave; all else stays.
abbrev pub leaving : ℕ → Bool → Bool → Bool → Volatile → Volatile
leaving n matched latch programming v =
    record {
      lines = n;
      address = v.address;
      sv = v.sv;
      p1 = v.p1;
      r1 = v.r1;
      e1 = v.e1;
      matched = matched;
      latch = latch;
      programming = programming;
    }

-- "the lines only follow"
unfoldable pub follows : ℕ → Volatile → Volatile
follows n v = leaving n v.matched v.latch v.programming v

-- A card with another volatile half.
abbrev pub with_volatile : Card → Volatile → Card
with_volatile c v = record { memory = c.memory; fuses = c.fuses; volatile = v }

-- "VCC falls: address 0; flags, match, latch and programming cleared; memory unchanged even in the middle of programming."
unfoldable pub vcc_falls : ℕ → Card → Card
unfolding off
vcc_falls n c = with_volatile c (off n)

-- "CLK rises: I/O is latched. With PGM high, programming starts (latched 1 erases, 0 writes)."
unfoldable pub clk_rises : ℕ → Volatile → Volatile
clk_rises n v = leaving n v.matched (high IO n) (high PGM n) v

-- "RST falls: address 0."
unfoldable pub rst_falls : ℕ → Card → Card
unfolding follows arrived
rst_falls n c = with_volatile c (arrived c.memory c.fuses 0 (follows n c.volatile))

-- "CLK falls in programming: the operation takes effect under the flags and lines of that moment; the address stays." There is no arrival:
-- "Erasing the bit while standing on it doesn't set the flag, writing it doesn't clear it."
unfoldable pub programmed : Operation → ℕ → Card → Card
unfolding memory_after fuses_after opens key_opens
programmed op n c =
    let v = c.volatile in
    let l1 = level1 (held c.fuses v) in
    record {
      memory = memory_after op v.address c.memory;
      fuses = fuses_after op c.fuses;
      volatile =
          record {
            lines = n;
            address = v.address;
            sv = opens op c.memory v.address v.matched || v.sv;
            p1 = v.p1;
            r1 = v.r1;
            e1 = key_opens op c.memory v.address v.matched l1 (unblown EC_EN c.fuses) || v.e1;
            matched = v.matched;
            latch = false;
            programming = false;
          };
    }

-- "The latch is cleared when CLK falls": with the match that the compare gives.
unfoldable pub unlatched : ℕ → Bool → Volatile → Volatile
unlatched n matched v = leaving n matched false false v

-- "CLK falls otherwise, RST low: compare at the old address, then the address goes up by one".
unfoldable pub clocked : ℕ → Card → Card
unfolding compared following unlatched arrived
clocked n c =
    let v = c.volatile in
    let l1 = level1 (held c.fuses v) in
    let match = compared l1 v.sv v.latch (bit c.memory v.address) v.address v.matched in
    with_volatile c (arrived c.memory c.fuses (following v.address) (unlatched n match v))

-- What CLK's fall does. "With RST high: nothing", but for the latch.
unfoldable pub clk_falls : ℕ → Card → Card
unfolding programmed operation_now clocked unlatched
clk_falls n c =
    let v = c.volatile in
    cond v.programming (programmed (operation_now c.fuses v) n c)
    (cond (high RST v.lines) (with_volatile c (unlatched n v.matched v)) (clocked n c))

-- What an edge does while VCC is on, n being the levels after it. "a step with no difference is accepted and changes nothing"
unfoldable pub powered : Edge → ℕ → Card → Card
unfolding follows vcc_falls clk_rises clk_falls rst_falls
powered Same n c = c
powered Many n c = c
powered (Rises VCC) n c = with_volatile c (follows n c.volatile)
powered (Rises RST) n c = with_volatile c (follows n c.volatile)
powered (Rises CLK) n c = with_volatile c (clk_rises n c.volatile)
powered (Rises PGM) n c = with_volatile c (follows n c.volatile)
powered (Rises IO) n c = with_volatile c (follows n c.volatile)
powered (Rises FUS) n c = with_volatile c (follows n c.volatile)
powered (Falls VCC) n c = vcc_falls n c
powered (Falls RST) n c = rst_falls n c
powered (Falls CLK) n c = clk_falls n c
powered (Falls PGM) n c = with_volatile c (follows n c.volatile)
powered (Falls IO) n c = with_volatile c (follows n c.volatile)
powered (Falls FUS) n c = with_volatile c (follows n c.volatile)

-- The card after the accepted step n. "Without VCC the lines only follow." "VCC rises: nothing more."
unfoldable pub next : Card → ℕ → Card
unfolding powered follows
next c n =
    let v = c.volatile in
    cond (high VCC v.lines) (powered (edge v.lines n) n c) (with_volatile c (follows n v))

-- "VCC is on, RST and PGM are low, no programming is under way, the address may be read"
unfoldable pub driven : ℕ → Volatile → Bool
unfolding held may_read
driven fuses v =
    high VCC v.lines &&
    (not (high RST v.lines) && (not (high PGM v.lines) && (not v.programming && may_read (held fuses v) (zone v.address))))

-- "Answer: 0 exactly if .. its bit is 0. Else 1 (the line is released).", of whether the line is driven, and the bit.
unfoldable pub pin_value : Bool → Bool → ℕ
pin_value driven bit = cond driven (cond bit 1 0) 1

unfoldable pub pin : Card → ℕ
unfolding driven pin_value
pin c = pin_value (driven c.fuses c.volatile) (bit c.memory c.volatile.address)
