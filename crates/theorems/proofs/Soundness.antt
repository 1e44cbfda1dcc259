-- 01: "A state that 9 lets pass never leads to one that 9 refuses." By cases on the edge.
use Prim.Native.Nat.{ℕ, zero, suc, ◌≤◌, ◌<◌, ◌/◌}
use mathlib.Core.Path.{◌≡◌, refl, sym, ap, ◌∙◌}
use mathlib.Core.Bool.{Bool, true, false, cond, not, ◌&&◌, ◌||◌}
use mathlib.Core.List.{List}
use native.Mathlib.Omega.{arith}
use lib.Dec.{eqb, leb, ltb}
use lib.ListN.{length}
use borrow.Author.Tests.{ltb-false, le-ltb, eqb-true, eq-eqb, not-true, not-false, leb-true}
use Rattle.memory.specs.Image.{bytes, digit, cleared, bit}
use Rattle.memory.proofs.Laws.{length_written, length_erased, length_filled}
use Rattle.rules.specs.declared.Operation.{Operation}
use Rattle.rules.specs.declared.Operation.TheVariants.{Nothing, WriteBit, EraseWord, EraseZone}
use Rattle.rules.specs.declared.Operation.TheVariants.{WriteBlock, EraseBlock, BlowMF, BlowECEN, BlowISS}
use Rattle.rules.specs.Halves.{Volatile, Card, off, blown, EC_EN, unblown}
use Rattle.rules.specs.Lines.{VCC, CLK, PGM, IO, high}
use Rattle.rules.specs.Zones.{between, last}
use Rattle.rules.specs.Rights.{held, level1}
use Rattle.rules.specs.Programming.{memory_after, fuses_after}
use Rattle.rules.specs.Match.{compared, following, ends_match}
use Rattle.rules.specs.Steps.{follows, with_volatile, vcc_falls, clk_rises, rst_falls, programmed, unlatched, clocked, next}
use Rattle.rules.specs.Refusals.{line_refusal, refusal, any_set, made_up, state_refusal}
use Rattle.rules.specs.Demands.{SoundStaysSound}
use Rattle.theorems.proofs.ZoneCases.{addressed}
use Rattle.theorems.proofs.Tests.{and_left, and_right, peel, neither_left, neither_right, guarded, unguarded}
use Rattle.theorems.proofs.Tests.{every, of_every, all, below₂}
use Rattle.theorems.proofs.StepCases.{Way, Keeps, Follows, Latches, SwitchesOff, Resets, Programs, Unlatches, Clocks}
use Rattle.theorems.proofs.StepCases.{operation_of, moved, way, way_of, stepped_moves, accepted}

-- Where match may hold, and E1.
unfoldable pub may_match : ℕ → Bool
may_match a = between 81 103 a || between 1201 1359 a

unfoldable pub may_e1 : ℕ → Bool
may_e1 a = between 1232 1519 a

-- 9's clauses on the latch and programming, at these levels.
unfoldable pub unwired : ℕ → Bool → Bool → Bool
unwired lines latch programming =
    latch && not (high CLK lines) ||
    (programming && not (high CLK lines) || high VCC lines && (high CLK lines && (high PGM lines && not programming)))

-- 9's clauses on the address.
pub record Placed (a : ℕ) (matched e1 : Bool) : Type 0 where
  pub within : a ≤ last
  pub matching : matched ≡ true → may_match a ≡ true
  pub e1_held : e1 ≡ true → may_e1 a ≡ true

pub record Sound (v : Volatile) : Type 0 where
  pub levels : v.lines < 64
  pub unpowered : (not (high VCC v.lines) && any_set v) ≡ false
  pub wired : unwired v.lines v.latch v.programming ≡ false
  pub placed : Placed v.address v.matched v.e1

ruleset chain = (neither_left, neither_right, unguarded, not-false)

none_of : (a b c : Bool) → a ≡ false → b ≡ false → c ≡ false → (a || (b || c)) ≡ false
none_of a b c p q r = cc

-- What 9 lets pass is sound.
pub sound : (v : Volatile) → made_up v ≡ false → Sound v
unfolding made_up unwired may_match may_e1
sound v e =
    record {
      levels = omega (arith, ltb-false 63 v.lines (search chain));
      unpowered = search chain;
      wired = search (chain, none_of);
      placed =
          record {
            within = search (chain, ltb-false);
            matching = λ q. search chain depth 8;
            e1_held = λ q. search chain depth 8;
          };
    }

-- In programming CLK is high.
pub under_way : {v : Volatile} → Sound v → v.programming ≡ true → high CLK v.lines ≡ true
unfolding unwired
under_way {v} s q = let wired = s.wired in search chain

-- And VCC is.
pub in_power : {v : Volatile} → Sound v → v.programming ≡ true → high VCC v.lines ≡ true
unfolding any_set
in_power {v} s p = go (high VCC v.lines) refl
  where
    go : (b : Bool) → high VCC v.lines ≡ b → b ≡ true
    go true h = refl
    go false h =
        let none : any_set v ≡ false = rw h at s.unpowered in
        let idle : v.programming ≡ false = search neither_right depth 9 in
        sym idle ∙ p

-- 9 lets pass what is sound.
pub unmade : (v : Volatile) → Sound v → made_up v ≡ false
unfolding made_up unwired may_match may_e1
unmade v s =
    let p = s.placed in
    let low = not (high CLK v.lines) in
    let w = neither_right (v.latch && low) _ s.wired in
    cc (
      le-ltb 63 v.lines (omega (arith, s.levels)),
      le-ltb last v.address p.within,
      neither_left (v.latch && low) _ s.wired,
      neither_left (v.programming && low) _ w,
      neither_right (v.programming && low) _ w,
      guarded v.matched (not (may_match v.address)) (λ q. ap not (p.matching q)),
      guarded v.e1 (not (may_e1 v.address)) (λ q. ap not (p.e1_held q)),
    )

pub record SoundCard (c : Card) : Type 0 where
  pub sized : length c.memory ≡ bytes
  pub fused : c.fuses ≤ 7
  pub half : Sound c.volatile

-- The same of a card, which 10 and 14 look at too.
pub let_pass : (c : Card) → state_refusal c ≡ 0 → SoundCard c
unfolding state_refusal
let_pass c e =
    let m = peel (not (eqb (length c.memory) bytes)) 9 _ e in
    let f = peel (ltb 7 c.fuses) 13 _ m.1 in
    let v = peel (made_up c.volatile) 8 0 f.1 in
    record {
      sized = eqb-true (length c.memory) bytes (not-false _ m.0);
      fused = ltb-false 7 c.fuses f.0;
      half = sound c.volatile v.0;
    }

pub passes : (c : Card) → SoundCard c → state_refusal c ≡ 0
unfolding state_refusal
passes c s =
    cc (eq-eqb (length c.memory) bytes s.sized, le-ltb 7 c.fuses s.fused, unmade c.volatile s.half)

-- Address 0, where match and E1 have ended.
at_zero : Placed 0 false false
at_zero = record { within = omega arith; matching = λ q. cc; e1_held = λ q. cc }

-- A flag that comes up where t, and else stays.
set_or_kept : (t x flag may : Bool) → (t && x || flag) ≡ true → (flag ≡ true → may ≡ true) → (t || may) ≡ true
set_or_kept true x flag may e f = refl
set_or_kept false x flag may e f = f e

-- A flag that ends where t, and else stays.
ended_or_kept : (t flag may : Bool) → (not t && flag) ≡ true → (flag ≡ true → (t || may) ≡ true) → may ≡ true
ended_or_kept true flag may e f = cc
ended_or_kept false flag may e f = f e

-- Match after the compare.
compared_or_kept :
    (code key x y matched may : Bool) → cond code x (cond key y matched) ≡ true → (matched ≡ true → may ≡ true) →
    (code || (key || may)) ≡ true
compared_or_kept true key x y matched may e f = refl
compared_or_kept false true x y matched may e f = refl
compared_or_kept false false x y matched may e f = f e

-- An operation sets E1 only in EC.
programmed_placed :
    (a : ℕ) (matched e1 x : Bool) → Placed a matched e1 → Placed a matched (between 1232 1359 a && x || e1)
unfolding between may_e1 all
programmed_placed a matched e1 x p =
    record {
      within = p.within;
      matching = p.matching;
      e1_held =
          λ q.
          addressed (λ b. between 1232 1359 b || may_e1 b) may_e1 refl a p.within
          (set_or_kept (between 1232 1359 a) x e1 (may_e1 a) q p.e1_held);
    }

-- The next address: match comes up by a compare at 80 to 95 or 1200 to 1231 and ends at 104 and 1360; E1 comes up at 1232 and ends at 0.
clocked_placed :
    (a : ℕ) (l1 sv latch stored matched e1 x : Bool) → Placed a matched e1 →
    let b = following a in
    let k = compared l1 sv latch stored a matched in
    Placed b (not (ends_match b) && k) (not (eqb b 0) && (eqb b 1232 && (x && k) || e1))
unfolding between may_match may_e1 all following ends_match compared
clocked_placed a l1 sv latch stored matched e1 x p =
    let b = following a in
    let k = compared l1 sv latch stored a matched in
    record {
      within = leb-true b last (addressed (λ o. true) (λ o. leb (following o) last) refl a p.within refl);
      matching =
          λ q.
          ended_or_kept (ends_match b) k (may_match b) q
          (λ h.
          addressed (λ o. between 80 95 o || (between 1200 1231 o || may_match o))
          (λ o. ends_match (following o) || may_match (following o)) refl a p.within
          (compared_or_kept (between 80 95 a) (between 1200 1231 a) _ _ matched (may_match a) h p.matching));
      e1_held =
          λ q.
          ended_or_kept (eqb b 0) (eqb b 1232 && (x && k) || e1) (may_e1 b) q
          (λ h.
          addressed (λ o. eqb (following o) 1232 || may_e1 o) (λ o. eqb (following o) 0 || may_e1 (following o)) refl a p.within
          (set_or_kept (eqb b 1232) (x && k) e1 (may_e1 a) h p.e1_held));
    }

-- A blown fuse makes the fuse byte no greater.
cleared_le : (k x : ℕ) → cleared k x ≤ x
unfolding cleared
cleared_le zero x = omega arith
cleared_le (suc k) x = omega (arith, cleared_le k (x / 2))

-- An operation keeps the image's length and the fuse byte's bound.
record Lasting (op : Operation) (a : ℕ) (m : List ℕ) (f : ℕ) : Type 0 where
  sized : length (memory_after op a m) ≡ length m
  fused : fuses_after op f ≤ 7

programmed_lasting : (op : Operation) (a : ℕ) (m : List ℕ) (f : ℕ) → f ≤ 7 → Lasting op a m f
unfolding memory_after fuses_after blown
programmed_lasting Nothing a m f h = search
programmed_lasting WriteBit a m f h = search length_written
programmed_lasting EraseWord a m f h = search length_erased
programmed_lasting EraseZone a m f h = search length_filled
programmed_lasting WriteBlock a m f h = search length_filled
programmed_lasting EraseBlock a m f h = search length_filled
programmed_lasting BlowMF a m f h = let less = cleared_le 0 f in search arith
programmed_lasting BlowECEN a m f h = let less = cleared_le 1 f in search arith
programmed_lasting BlowISS a m f h = let less = cleared_le 2 f in search arith

-- What a way leaves stands with the levels n: of VCC, and of latch and programming.
wired_by : Way → ℕ → ℕ → Bool → Bool → Bool
wired_by Keeps levels n latch programming = true
wired_by Follows levels n latch programming = (high VCC n || not (high VCC levels)) && not (unwired n latch programming)
wired_by Latches levels n latch programming = high VCC n && not (unwired n (high IO n) (high PGM n))
wired_by SwitchesOff levels n latch programming = not (unwired n false false)
wired_by Resets levels n latch programming = high VCC n && not (unwired n latch programming)
wired_by Programs levels n latch programming = high VCC n && not (unwired n false false)
wired_by Unlatches levels n latch programming = high VCC n && not (unwired n false false)
wired_by Clocks levels n latch programming = high VCC n && not (unwired n false false)

-- So every accepted step of wired levels does, which with VCC off have neither latch nor programming.
stays_wired : ℕ → ℕ → Bool → Bool → Bool
stays_wired levels n programming latch =
    not (eqb (line_refusal levels programming n) 0) ||
    (unwired levels latch programming ||
    (not (high VCC levels) && (latch || programming) || wired_by (way levels programming n) levels n latch programming))

stays_wired_lem : (levels n : ℕ) → levels < 64 → n < 64 → (programming latch : Bool) → stays_wired levels n programming latch ≡ true
unfolding stays_wired wired_by unwired way every all digit
stays_wired_lem levels n h k programming =
    of_every (stays_wired levels n programming)
    (of_every (λ p. every (stays_wired levels n p))
    (below₂ 64 64 (λ l m. every (λ p. every (stays_wired l m p))) refl levels n h k) programming)

module _ (c : Card) (n : ℕ) (s : SoundCard c) (small : n < 64) where
  abbrev v : Volatile
  v = c.volatile

  -- Memory and fuses are as they were.
  lasting : (w : Volatile) → Sound w → SoundCard (with_volatile c w)
  lasting w h = record { sized = s.sized; fused = s.fused; half = h }

  -- With VCC on, 9 asks for no more than its clauses on lines and address.
  on_sound :
      (w : Volatile) → w.lines ≡ n → (high VCC n && not (unwired n w.latch w.programming)) ≡ true →
      Placed w.address w.matched w.e1 → SoundCard (with_volatile c w)
  on_sound w l k placed =
      lasting w
      (record {
        levels = rw l small;
        unpowered = cc (and_left (high VCC n) _ k);
        wired = rw l (not-true _ (and_right (high VCC n) _ k));
        placed = placed;
      })

  moved_sound : (w : Way) → wired_by w v.lines n v.latch v.programming ≡ true → SoundCard (moved w n c)
  unfolding wired_by moved follows clk_rises vcc_falls off any_set rst_falls programmed unlatched clocked
  moved_sound Keeps k = s
  moved_sound Follows k =
      lasting (follows n v)
      (record {
        levels = small;
        unpowered =
            guarded (not (high VCC n)) (any_set v)
            (λ off.
            unguarded (not (high VCC v.lines)) (any_set v) s.half.unpowered
            (rw (not-true (high VCC n) off) at (and_left (high VCC n || not (high VCC v.lines)) _ k)));
        wired = not-true _ (and_right (high VCC n || not (high VCC v.lines)) _ k);
        placed = s.half.placed;
      })
  moved_sound Latches k = on_sound (clk_rises n v) refl k s.half.placed
  moved_sound SwitchesOff k =
      lasting (off n)
      (record { levels = small; unpowered = guarded (not (high VCC n)) false (λ _. refl); wired = not-true _ k; placed = at_zero })
  moved_sound Resets k = on_sound (rst_falls n c).volatile refl k at_zero
  moved_sound Programs k =
      let op = operation_of c in
      let kept = programmed_lasting op v.address c.memory c.fuses s.fused in
      record {
        sized = kept.sized ∙ s.sized;
        fused = kept.fused;
        half =
            (on_sound (programmed op n c).volatile refl k
            (programmed_placed v.address v.matched v.e1 _ s.half.placed)).half;
      }
  moved_sound Unlatches k = on_sound (unlatched n v.matched v) refl k s.half.placed
  moved_sound Clocks k =
      on_sound (clocked n c).volatile refl k
      (clocked_placed v.address (level1 (held c.fuses v)) v.sv v.latch (bit c.memory v.address) v.matched v.e1
      (not (unblown EC_EN c.fuses)) s.half.placed)

pub sound_stays_sound : SoundStaysSound
unfolding refusal any_set stays_wired
sound_stays_sound c n e r =
    let v = c.volatile in
    let s = let_pass c e in
    let small : n < 64 = omega (arith, ltb-false 63 n (peel (ltb 63 n) 0 _ r).0) in
    let idle : (not (high VCC v.lines) && (v.latch || v.programming)) ≡ false =
    guarded (not (high VCC v.lines)) _
    (λ off. let none = unguarded _ (any_set v) s.half.unpowered off in search neither_right depth 9)
    in
    let stays = stays_wired_lem v.lines n s.half.levels small v.programming v.latch in
    passes (next c n)
    (rw (← accepted c n r, stepped_moves c n) (moved_sound c n s small (way_of c n) (rw (r, s.half.wired, idle) at stays)))
