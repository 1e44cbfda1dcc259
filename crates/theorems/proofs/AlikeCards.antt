-- Demand 3's invariant: what two cards that have not opened have in common, through every step, and that the pin shows no more.
use Prim.Native.Nat.{ℕ}
use mathlib.Core.Path.{◌≡◌, refl, ap, ◌∙◌}
use mathlib.Core.Bool.{Bool, true, false, cond, not, ◌&&◌, and-false}
use mathlib.Core.List.{List}
use lib.ListN.{length}
use Rattle.memory.specs.Image.{bit}
use Rattle.rules.specs.Halves.{Card, off}
use Rattle.rules.specs.Lines.{VCC, RST, PGM, high}
use Rattle.rules.specs.Zones.{between, zone}
use Rattle.rules.specs.Rights.{Held, held, level1}
use Rattle.rules.specs.Programming.{operation_now, memory_after}
use Rattle.rules.specs.Match.{following, arrived}
use Rattle.rules.specs.Steps.{follows, vcc_falls, clk_rises, rst_falls, programmed, unlatched, clocked, driven, pin}
use Rattle.rules.specs.Demands.{hidden, ZonesKept}
use Rattle.theorems.proofs.Tests.{and_right}
use Rattle.theorems.proofs.StepCases.{Way, Keeps, Follows, Latches, SwitchesOff, Resets, Programs, Unlatches, Clocks}
use Rattle.theorems.proofs.StepCases.{moved, operation_of}
use Rattle.theorems.proofs.Mild.{readable, readable_seen, may_read_readable}
use Rattle.theorems.proofs.Mild.{mild_operation, operation_mild, mild_length, mild_keeps_hidden, mild_keeps_equal}

-- Of a card that was s at the start: R1 is 0, and the three zones hold what they held.
pub record Closed (s c : Card) : Type 0 where
  pub unread : c.volatile.r1 ≡ false
  pub zones : ZonesKept s c

-- Of the two: P1, E1 and match may differ, for only SV lets anything of them be seen.
pub record AlikePair (c c' : Card) : Type 0 where
  pub lines : c.volatile.lines ≡ c'.volatile.lines
  pub address : c.volatile.address ≡ c'.volatile.address
  pub latch : c.volatile.latch ≡ c'.volatile.latch
  pub programming : c.volatile.programming ≡ c'.volatile.programming
  pub fuses : c.fuses ≡ c'.fuses
  pub sized : length c.memory ≡ length c'.memory
  pub outside : (a : ℕ) → hidden a ≡ false → bit c.memory a ≡ bit c'.memory a

abbrev pub UnopenedCard : Card → Type 0
UnopenedCard c = c.volatile.sv ≡ false

module _ (s : Card) (unreadable : bit s.memory 177 ≡ false) (c : Card) (n : ℕ) (shut : UnopenedCard c) (p : Closed s c) where
  closed_clocked : Closed s (clocked n c)
  unfolding clocked arrived unlatched hidden between
  closed_clocked =
      record {
        unread = simp (p.zones 177 refl, unreadable, p.unread, and-false);
        zones = p.zones;
      }

  closed_programmed : Closed s (programmed (operation_of c) n c)
  unfolding programmed operation_now held
  closed_programmed =
      record {
        unread = p.unread;
        zones = λ a h. mild_keeps_hidden (held c.fuses c.volatile) _ _ _ _ shut c.memory a h ∙ p.zones a h;
      }

  pub closed_moved : (w : Way) → Closed s (moved w n c)
  unfolding moved follows clk_rises vcc_falls off rst_falls unlatched arrived
  closed_moved Keeps = p
  closed_moved Follows = search
  closed_moved Latches = search
  closed_moved SwitchesOff = search
  closed_moved Resets = search
  closed_moved Programs = closed_programmed
  closed_moved Unlatches = search
  closed_moved Clocks = closed_clocked

-- Without SV the operation is one of level, RST, latch and zone alone.
operation_of_mild :
    (c : Card) → UnopenedCard c →
    operation_of c ≡
    mild_operation (level1 (held c.fuses c.volatile)) (high RST c.volatile.lines) c.volatile.latch
    (zone c.volatile.address)
unfolding operation_now held
operation_of_mild c shut = operation_mild (held c.fuses c.volatile) _ _ _ _ shut

module _ (c c' : Card) (shut : UnopenedCard c) (shut' : UnopenedCard c') (p : AlikePair c c') where
  same_operation : operation_of c ≡ operation_of c'
  unfolding held level1
  same_operation = cc (operation_of_mild c shut, operation_of_mild c' shut')

  alike_programmed : (n : ℕ) → AlikePair (programmed (operation_of c) n c) (programmed (operation_of c') n c')
  unfolding programmed operation_now held
  alike_programmed n =
      record {
        lines = refl;
        address = p.address;
        latch = refl;
        programming = refl;
        fuses = cc same_operation;
        sized = cc (mild_length there _ _ _ _ shut c.memory, mild_length there' _ _ _ _ shut' c'.memory);
        outside =
            λ a h.
            mild_keeps_equal there _ _ _ _ shut c.memory c'.memory a p.sized (p.outside a h) ∙
            ap (λ (m : List ℕ). bit m a) moved_same;
      }
    where
      there : Held
      there = held c.fuses c.volatile

      there' : Held
      there' = held c'.fuses c'.volatile

      moved_same :
          memory_after (operation_of c) c.volatile.address c'.memory ≡
          memory_after (operation_of c') c'.volatile.address c'.memory
      moved_same = cc same_operation

  pub alike_moved : (n : ℕ) (w : Way) → AlikePair (moved w n c) (moved w n c')
  unfolding moved follows clk_rises vcc_falls off rst_falls unlatched arrived clocked
  alike_moved n Keeps = p
  alike_moved n Follows = search
  alike_moved n Latches = search
  alike_moved n SwitchesOff = search
  alike_moved n Resets = search
  alike_moved n Programs = alike_programmed n
  alike_moved n Unlatches = search
  alike_moved n Clocks = let next = ap following p.address in search

-- The pin of a card with SV and R1 0, of what may be known of it.
unfoldable seen_pin : ℕ → Bool → ℕ → Bool → ℕ
seen_pin levels programming a b =
    cond (high VCC levels && (not (high RST levels) && (not (high PGM levels) && (not programming && readable (zone a))))) (cond b 1 0) 1

pin_seen :
    (c : Card) → UnopenedCard c → c.volatile.r1 ≡ false →
    pin c ≡ seen_pin c.volatile.lines c.volatile.programming c.volatile.address (bit c.memory c.volatile.address)
unfolding pin driven held seen_pin
pin_seen c shut unread = rw (may_read_readable (held c.fuses c.volatile) (zone c.volatile.address) shut unread)

-- Two choices under one test stand as their sides stand.
pub cond_both {ℓ κ} :
    {A : Type ℓ} (R : A → A → Type κ) (t : Bool) {x x' y y' : A} → (t ≡ true → R x x') → (t ≡ false → R y y') →
    R (cond t x y) (cond t x' y')
cond_both R true f g = f refl
cond_both R false f g = g refl

seen_same :
    (levels : ℕ) (programming : Bool) (a : ℕ) (b b' : Bool) → (readable (zone a) ≡ true → b ≡ b') →
    seen_pin levels programming a b ≡ seen_pin levels programming a b'
unfolding seen_pin
seen_same levels programming a b b' f =
    cond_both (◌≡◌ {A = ℕ}) _
    (λ t.
    ap (λ (x : Bool). cond {A = ℕ} x 1 0)
    (f
    (and_right (not programming) _
    (and_right (not (high PGM levels)) _ (and_right (not (high RST levels)) _ (and_right (high VCC levels) _ t))))))
    (λ _. refl)

pub same_pin :
    (c c' : Card) → UnopenedCard c → UnopenedCard c' → c.volatile.r1 ≡ false → c'.volatile.r1 ≡ false → AlikePair c c' →
    pin c ≡ pin c'
same_pin c c' shut shut' unread unread' p =
    let v = c.volatile in
    cc (
      pin_seen c shut unread,
      pin_seen c' shut' unread',
      seen_same v.lines v.programming v.address (bit c.memory v.address) (bit c'.memory v.address)
          (λ e. p.outside v.address (readable_seen v.address e)),
    )
