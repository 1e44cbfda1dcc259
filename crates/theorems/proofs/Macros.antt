-- Lists of steps that are accepted throughout, and where they lead: the acts of 01's step maker, one small act at a time.
use Prim.Native.Nat.{ℕ, zero, suc, ◌+◌, ◌<◌, ◌≤◌}
use native.Mathlib.Nat.{add-zero}
use native.Mathlib.Omega.{arith}
use mathlib.Core.Path.{◌≡◌, refl, sym, subst}
use mathlib.Core.Bool.{Bool, true, false}
use mathlib.Core.List.{List, [], ◌∷◌, ◌++◌}
use lib.Dec.{eqb}
use lib.ListN.{length}
use borrow.Author.Tests.{ne_eqb, lt-leb}
use Rattle.rules.specs.Halves.{Card, EC_EN, unblown}
use Rattle.rules.specs.Lines.{CLK, mask}
use Rattle.rules.specs.Zones.{between}
use Rattle.rules.specs.Rights.{held}
use Rattle.rules.specs.Programming.{operation}
use Rattle.rules.specs.Refusals.{refusal}
use Rattle.rules.specs.Match.{compared, following, ends_match, arrived}
use Rattle.rules.specs.Steps.{next, programmed, unlatched, clocked}
use Rattle.rules.specs.Card.{Ran, run}
use Rattle.rules.specs.Computing.{the_card}
use Rattle.rules.specs.Maker.{base, io, idle, reset, walk, show_bits, program}
use Rattle.theorems.proofs.CodeMatch.{code_match, shown_match}

-- From one card the steps, each accepted, lead to the other.
pub data Leads : Card → List ℕ → Card → Type 0 where
  ends : {c d : Card} → c ≡ d → Leads c [] d
  step : {c d : Card} {n : ℕ} {ns : List ℕ} → refusal c.volatile n ≡ 0 → Leads (next c n) ns d → Leads c (n ∷ ns) d

pub then : {c d e : Card} {ns ns' : List ℕ} → Leads c ns d → Leads d ns' e → Leads c (ns ++ ns') e
then {e = e} {ns' = ns'} (ends p) after = subst (λ (x : Card). Leads x ns' e) (sym p) after
then (step accepted rest) after = step accepted (then rest after)

-- What a run of such a list comes to.
pub record Reaches (r : Ran) (d : Card) : Type 0 where
  pub accepted : r.refused ≡ 0
  pub card : r.card ≡ d

pub leads_run : {c d : Card} {ns : List ℕ} → Leads c ns d → Reaches (run c ns) d
unfolding run
leads_run (ends p) = record { accepted = refl; card = p }
leads_run (step accepted rest) = let r = leads_run rest in rw accepted (record { accepted = r.accepted; card = r.card })

module _ (c : Card) where
  -- A card whose VCC is on, with the fuses, P1 and R1 of c.
  abbrev pub on : ℕ → Bool → Bool → List ℕ → ℕ → Bool → Bool → Bool → Card
  on levels latch programming m a sv e1 matched =
      record {
        memory = m;
        fuses = c.fuses;
        volatile =
            record {
              lines = levels;
              address = a;
              sv = sv;
              p1 = c.volatile.p1;
              r1 = c.volatile.r1;
              e1 = e1;
              matched = matched;
              latch = latch;
              programming = programming;
            };
      }

  -- RST, CLK and PGM low, I/O at a level, E1 clear; "idle" is the level 1.
  abbrev pub ready : Bool → Bool → List ℕ → ℕ → Bool → Bool → Card
  ready fus level m a sv matched = on (base fus + io level) false false m a sv false matched

  -- "RST falls: address 0", which clears E1 and match; the flags SV, P1 and R1 stay.
  pub resets : (fus : Bool) (m : List ℕ) (a : ℕ) (sv e1 matched : Bool) →
      Leads (on (idle fus) false false m a sv e1 matched) (reset fus) (ready fus true m 0 sv false)
  unfolding the_card base io reset
  resets true m a sv e1 matched = step refl (step refl (ends refl))
  resets false m a sv e1 matched = step refl (step refl (ends refl))

  -- "set I/O"
  module _ (m : List ℕ) (a : ℕ) (sv matched : Bool) where
    sets_io :
        (fus level b : Bool) → Leads (ready fus level m a sv matched) ((base fus + io b) ∷ []) (ready fus b m a sv matched)
    unfolding the_card base io
    sets_io true true true = step refl (ends refl)
    sets_io true true false = step refl (ends refl)
    sets_io true false true = step refl (ends refl)
    sets_io true false false = step refl (ends refl)
    sets_io false true true = step refl (ends refl)
    sets_io false true false = step refl (ends refl)
    sets_io false false true = step refl (ends refl)
    sets_io false false false = step refl (ends refl)

  -- "compare at the old address, then the address goes up by one": below 103 the arrival does nothing more.
  clocked_below : (n levels : ℕ) (latch : Bool) (m : List ℕ) (a : ℕ) (matched : Bool) → a < 103 →
      clocked n (on levels latch false m a false false matched) ≡
      on n false false m (a + 1) false false (code_match m a latch matched)
  unfolding clocked compared following unlatched arrived ends_match between code_match
  clocked_below n levels latch m a matched h =
      let past : (x : ℕ) → 103 < x → eqb (a + 1) x ≡ false = λ x l. ne_eqb (a + 1) x (omega arith) in
      rw (
        ne_eqb a 1519 (omega arith),
        lt-leb 1200 a (omega arith),
        ne_eqb (a + 1) 0 (omega arith),
        past 104 (omega arith),
        past 1360 (omega arith),
        past 176 (omega arith),
        past 177 (omega arith),
        past 1232 (omega arith),
      )

  -- "CLK up, down"
  module _ (m : List ℕ) (a : ℕ) (matched : Bool) (h : a < 103) where
    ticks : (fus level : Bool) →
        Leads (ready fus level m a false matched) ((base fus + io level + mask CLK) ∷ (base fus + io level) ∷ [])
        (ready fus level m (a + 1) false (code_match m a level matched))
    unfolding the_card base io
    ticks true true = step refl (step refl (ends (clocked_below 49 53 true m a matched h)))
    ticks true false = step refl (step refl (ends (clocked_below 33 37 false m a matched h)))
    ticks false true = step refl (step refl (ends (clocked_below 17 21 true m a matched h)))
    ticks false false = step refl (step refl (ends (clocked_below 1 5 false m a matched h)))

  -- "Walk n": outside the code the match stays.
  pub walks : (fus : Bool) (m : List ℕ) (n a : ℕ) (matched : Bool) → a + n ≤ 103 →
      ((x : ℕ) → a ≤ x → x < a + n → between 80 95 x ≡ false) →
      Leads (ready fus true m a false matched) (walk fus n) (ready fus true m (a + n) false matched)
  unfolding walk code_match base io idle mask
  walks fus m zero a matched h outside = rw (add-zero a) (ends refl)
  walks fus m (suc n) a matched h outside =
      let here : code_match m a true matched ≡ matched = rw (outside a (omega arith) (omega arith)) in
      let there : a + 1 + n ≡ a + suc n = omega arith in
      let rest = walks fus m n (a + 1) matched (omega arith) (λ x low high. outside x (omega arith) (omega arith)) in
      then (ticks m a matched (omega arith) fus true) (rw here (rw there at rest))

  -- "per bit set I/O, CLK up, down; at the end I/O 1"
  pub shows : (fus level : Bool) (m : List ℕ) (bs : List Bool) (a : ℕ) (matched : Bool) → a + length bs ≤ 103 →
      Leads (ready fus level m a false matched) (show_bits fus bs)
      (ready fus true m (a + length bs) false (shown_match m a bs matched))
  unfolding show_bits shown_match
  shows fus level m [] a matched h = rw (add-zero a) (sets_io m a false matched fus level true)
  shows fus level m (b ∷ bs) a matched h =
      let there : a + 1 + length bs ≡ a + suc (length bs) = omega arith in
      let rest = shows fus b m bs (a + 1) (code_match m a b matched) (omega arith) in
      then (sets_io m a false matched fus level b) (then (ticks m a matched (omega arith) fus b) (rw there at rest))

  -- "program d: PGM up, I/O d, CLK up, PGM down, I/O 1, CLK down": the operation takes effect, wherever the card stands.
  module _ (m : List ℕ) (a : ℕ) (sv matched : Bool) where
    pub programs : (fus d : Bool) →
        let there = on (idle fus + mask CLK) d true m a sv false matched in
        Leads (ready fus true m a sv matched) (program fus d)
        (programmed (operation (held c.fuses there.volatile) (unblown EC_EN c.fuses) false d a) (idle fus) there)
    unfolding the_card base io program
    programs true true = search (step, ends) depth 8
    programs true false = search (step, ends) depth 8
    programs false true = search (step, ends) depth 8
    programs false false = search (step, ends) depth 8
