-- A step of a ready card, line by line: the law that each `return` of the code cites.
use Prim.Native.Nat.{ℕ, suc, ◌≤◌, ◌<◌}
use native.Mathlib.Omega.{arith}
use mathlib.Core.Path.{◌≡◌, refl, sym, ap, ◌∙◌}
use mathlib.Core.Bool.{Bool, true, false, cond, not, ◌&&◌, ◌||◌, and-true, and-false, or-true, false≢true}
use mathlib.Core.List.{[]}
use lib.Dec.{eqb}
use lib.Bits.{bit_xor, bit_and}
use borrow.Author.Tests.{lt-ltb, le-ltb, ltb-false, eq-eqb, ne_eqb, not-true, not-false}
use Rattle.memory.specs.Image.{bit}
use Rattle.rules.specs.Halves as Halves
use Rattle.rules.specs.Halves.{Card, off}
use Rattle.rules.specs.Lines.{Line, VCC, RST, CLK, PGM, IO, FUS, place, mask, high, Edge, Same, Rises, Falls, Many, change, edge}
use Rattle.rules.specs.Rights.{held}
use Rattle.rules.specs.Refusals.{any_set, many, edge_refusal, refusal}
use Rattle.rules.specs.Match.{arrived}
use Rattle.rules.specs.Steps.{follows, with_volatile, vcc_falls, clk_rises, rst_falls, unlatched, clocked, clk_falls, powered, next}
use Rattle.rules.specs.Steps.{driven, pin_value, pin}
use Rattle.theorems.proofs.Tests.{cond_cases, neither_left, neither_right}
use Rattle.theorems.proofs.Soundness.{Sound, sound, under_way}
use Rattle.volatile.specs.declared.Volatile.{Volatile}
use Rattle.volatile.specs.Packed.{packed, unpacked, Given, card_of, handed_back, with_half, programmed_card, made_up_word}
use Rattle.volatile.proofs.Packing.{unpacked_packed, packed_unpacked}
use Rattle.volatile.specs.Inner.{Ready, Steps}
use Rattle.edge_laws.proofs.Turned.{by_difference, edge_by_difference, same_levels, small_step, Turned, turned_by_mask}
use Rattle.edge_laws.proofs.LineMasks.{vcc_clk_pgm, vcc_rst, clk_pgm, high_low}
use Rattle.edge_laws.proofs.EdgeRefusals.{refused, line_refusal_lem, same_refusal}

-- 9's clauses, of a packed half.
pub flags_small : (v : Volatile) → made_up_word v ≡ false → v.flags < 128
unfolding made_up_word
flags_small v e = omega (arith, ltb-false 127 v.flags (search neither_left))

pub sound_half : (v : Volatile) → made_up_word v ≡ false → Sound (unpacked v)
unfolding made_up_word
sound_half v e = sound (unpacked v) (search neither_right)

-- A test that cannot hold beside another.
off_then : (a b : Bool) → (a ≡ true → b ≡ true) → b ≡ false → a ≡ false
off_then true b f e = sym (f refl) ∙ e
off_then false b f e = refl

programming_set : (v : Halves.Volatile) → v.programming ≡ true → any_set v ≡ true
unfolding any_set
programming_set v e = simp (e, or-true)

-- The pin of a card with this packed half, as it is read.
abbrev pub pin_at : Given → Volatile → ℕ
pin_at g v = pin_value (driven g.fuses (unpacked v)) (bit g.memory v.address)

pub pin_handed_back : (c : Card) → pin_at (handed_back c) (packed c.volatile) ≡ pin c
unfolding pin packed
pin_handed_back c = rw (unpacked_packed c.volatile)

-- What 9 lets pass of a ready card.
module _ {g : Given} {p : ℕ} (ready : Ready g p) where
  half_sound : Sound (unpacked g.half)
  half_sound = sound_half g.half ready.sound

  levels_small : g.half.lines < 64
  unfolding unpacked
  levels_small = half_sound.levels

  pub address_within : g.half.address ≤ 1519
  unfolding unpacked
  address_within = half_sound.placed.within

  -- With CLK low no programming is under way.
  pub idle : high CLK g.half.lines ≡ false → (unpacked g.half).programming ≡ false
  unfolding unpacked
  idle k = off_then (unpacked g.half).programming (high CLK g.half.lines) (under_way half_sound) k

  -- In programming CLK is high and VCC on.
  pub clock_high : (unpacked g.half).programming ≡ true → high CLK g.half.lines ≡ true
  unfolding unpacked
  clock_high q = under_way half_sound q

  pub power_on : (unpacked g.half).programming ≡ true → high VCC g.half.lines ≡ true
  unfolding unpacked
  power_on q =
      let vcc = high VCC g.half.lines in
      not-false vcc (rw (programming_set (unpacked g.half) q, and-true (not vcc)) at half_sound.unpowered)

module _ {g : Given} {p : ℕ} (ready : Ready g p) (n : ℕ) where
  abbrev w : Halves.Volatile
  w = unpacked g.half

  abbrev l : ℕ
  l = g.half.lines

  abbrev card : Card
  card = card_of g

  -- An accepted step leads to the next card; a refused one leaves all as it was.
  pub goes_to : (after : Card) → refusal w n ≡ 0 → next card n ≡ after → Steps g p n (handed_back after) (pin after) 0
  goes_to after e q = record { refused = sym e; accepted = λ _. (ap handed_back (sym q), ap pin (sym q)); kept = λ h. absurd (h refl) }

  pub stays : (k : ℕ) → refusal w n ≡ suc k → Steps g p n g p (suc k)
  stays k e = record { refused = sym e; accepted = λ z. absurd (omega arith); kept = λ _. (refl, refl) }

  -- An accepted step that changes the volatile half alone, to u.
  pub record Goes (u : Halves.Volatile) : Type 0 where
    pub none : refusal w n ≡ 0
    pub there : next card n ≡ with_volatile card u

  -- Its pin is read, or is the one at hand.
  pub reads : {u : Halves.Volatile} → Goes u → Steps g p n (with_half g (packed u)) (pin_at g (packed u)) 0
  unfolding pin packed
  reads {u} to = rw (unpacked_packed u) (goes_to (with_volatile card u) to.none to.there)

  pub keeps : {u : Halves.Volatile} → Goes u → p ≡ pin (with_volatile card u) → Steps g p n (with_half g (packed u)) p 0
  keeps {u} to h = rw (sym h) at (goes_to (with_volatile card u) to.none to.there)

  -- The difference is one line's mask.
  pub turned : (x : Line) → bit_xor l n ≡ mask x → Turned x l n
  turned x = turned_by_mask x l n (levels_small ready)

  -- The refusal and the next card, by the edge.
  refusal_at : (e : Edge) → n < 64 → edge l n ≡ e → refusal w n ≡ edge_refusal e l w.programming
  unfolding refusal unpacked
  refusal_at e h q = rw (le-ltb 63 n (omega arith), q)

  next_at :
      (e : Edge) (t : Bool) → edge l n ≡ e → high VCC l ≡ t → next card n ≡ cond t (powered e n card) (with_volatile card (follows n w))
  unfolding next unpacked
  next_at e t q h = rw (q, h)

  -- What a line x that is turned over is refused by.
  abbrev told : Line → ℕ
  told x = refused x (high x l) (high VCC l) w.programming (high CLK l) (high PGM l)

  refused_by_lem : {x : Line} {k : ℕ} → Turned x l n → told x ≡ k → refusal w n ≡ k
  refused_by_lem {x} t e = refusal_at (change x l) t.small t.edge_is ∙ (line_refusal_lem l w.programming x ∙ e)

  -- It leads to what its edge does with VCC on; "Without VCC the lines only follow."
  on_goes :
      {x : Line} {u : Halves.Volatile} → Turned x l n → told x ≡ 0 → high VCC l ≡ true →
      powered (change x l) n card ≡ with_volatile card u → Goes u
  on_goes {x} t e h q = record { none = refused_by_lem t e; there = next_at (change x l) true t.edge_is h ∙ q }

  off_goes : {x : Line} → Turned x l n → told x ≡ 0 → high VCC l ≡ false → Goes (follows n w)
  off_goes {x} t e h = record { none = refused_by_lem t e; there = next_at (change x l) false t.edge_is h }

  -- A line that does no more than follow, with VCC and without.
  follows_goes :
      {x : Line} → Turned x l n → told x ≡ 0 →
      powered (Falls x) n card ≡ with_volatile card (follows n w) → powered (Rises x) n card ≡ with_volatile card (follows n w) →
      Goes (follows n w)
  unfolding change
  follows_goes {x} t e f r = go (high VCC l) refl
    where
      go : (vcc : Bool) → high VCC l ≡ vcc → Goes (follows n w)
      go true h =
          on_goes t e h
          (cond_cases (λ (y : Edge). powered y n card ≡ with_volatile card (follows n w)) (high x l) (λ _. f) (λ _. r))
      go false h = off_goes t e h

  -- FUS.
  module _ (t : Turned FUS l n) where
    pub fus_refused : w.programming ≡ true → Steps g p n g p 3
    fus_refused q = stays 2 (refused_by_lem t (rw (q, power_on ready q)))

    pub fus_goes : w.programming ≡ false → Goes (follows n w)
    unfolding powered
    fus_goes q = follows_goes t (rw (q, and-false (high VCC l))) refl refl

  -- PGM.
  module _ (t : Turned PGM l n) where
    rises_in_clk : (high VCC l && (not (high PGM l) && high CLK l)) ≡ eqb (bit_and n 13) 13
    unfolding place
    rises_in_clk = rw (← t.others VCC refl, ← t.others CLK refl, ← t.over) (sym (vcc_clk_pgm n))

    pub pgm_refused : bit_and n 13 ≡ 13 → Steps g p n g p 6
    pgm_refused h = stays 5 (refused_by_lem t (rw (rises_in_clk, h)))

    pub pgm_goes : (bit_and n 13 ≡ 13 → ⊥) → Goes (follows n w)
    unfolding powered
    pgm_goes h = follows_goes t (rw (rises_in_clk, ne_eqb (bit_and n 13) 13 h)) refl refl

  -- I/O, which changes nothing that the pin looks at.
  module _ (t : Turned IO l n) where
    pub io_goes : Goes (follows n w)
    unfolding powered
    io_goes = follows_goes t refl refl refl

    pub io_kept : p ≡ pin (with_volatile card (follows n w))
    unfolding follows pin driven held place unpacked
    io_kept = ready.pinned ∙ rw (t.others VCC refl, t.others RST refl, t.others PGM refl, t.others FUS refl)

  -- RST.
  module _ (t : Turned RST l n) where
    pub rst_in_programming : w.programming ≡ true → Steps g p n g p 3
    rst_in_programming q = stays 2 (refused_by_lem t (rw (power_on ready q, q)))

    module _ (q : w.programming ≡ false) where
      -- It rises, or VCC is off.
      pub rst_follows : (bit_and n 3 ≡ 1 → ⊥) → Goes (follows n w)
      unfolding powered change place
      rst_follows h = go (high VCC l) (high RST l) refl refl (rw (t.others VCC refl, t.over) at no_fall)
        where
          no_fall : (high VCC n && not (high RST n)) ≡ false
          no_fall = sym (vcc_rst n) ∙ ne_eqb (bit_and n 3) 1 h

          go : (a b : Bool) → high VCC l ≡ a → high RST l ≡ b → (a && not (not b)) ≡ false → Goes (follows n w)
          go true true vcc rst e = absurd (false≢true (sym e))
          go true false vcc rst e = on_goes t (rw (vcc, q, rst)) vcc (rw rst)
          go false b vcc rst e = off_goes t (rw vcc) vcc

      module _ (falls : bit_and n 3 ≡ 1) where
        fell_low : (high VCC l ≡ true) × (high RST l ≡ true)
        unfolding place
        fell_low =
            let e = high_low (high VCC n) (high RST n) (sym (vcc_rst n) ∙ eq-eqb (bit_and n 3) 1 falls) in
            (sym (t.others VCC refl) ∙ e.0, not-false (high RST l) (sym t.over ∙ e.1))

        pub rst_refused : high CLK n ≡ true → Steps g p n g p 5
        unfolding place
        rst_refused k = stays 4 (refused_by_lem t (rw (fell_low.0, q, fell_low.1, ← t.others CLK refl, k)))

        pub rst_falls_lem : high CLK n ≡ false → Goes (arrived [] 0 0 (follows n w))
        unfolding powered change rst_falls arrived place
        rst_falls_lem k =
            on_goes t (rw (fell_low.0, q, fell_low.1, ← t.others CLK refl, k)) fell_low.0 (rw fell_low.1)

  -- VCC.
  module _ (t : Turned VCC l n) where
    vcc_falls_lem : high VCC l ≡ true → Goes (off n)
    unfolding powered change vcc_falls
    vcc_falls_lem h = on_goes t (rw h) h (rw h)

    off_pin : high VCC n ≡ false → pin (with_volatile card (off n)) ≡ 1
    unfolding off pin pin_value driven
    off_pin e = rw e

    pub vcc_off : high VCC n ≡ false → Steps g p n (with_half g (packed (off n))) 1 0
    vcc_off e =
        let goes = vcc_falls_lem (not-false (high VCC l) (sym t.over ∙ e)) in
        rw (off_pin e) at (goes_to (with_volatile card (off n)) goes.none goes.there)

    pub power_cut : w.programming ≡ true → Steps g p n (with_half g (packed (off n))) 1 0
    power_cut q = vcc_off (t.over ∙ rw (power_on ready q))

    module _ (e : high VCC n ≡ true) where
      was_off : high VCC l ≡ false
      was_off = not-true (high VCC l) (sym t.over ∙ e)

      lines_up : not (high CLK l || high PGM l) ≡ eqb (bit_and n 12) 0
      unfolding place
      lines_up = rw (← t.others CLK refl, ← t.others PGM refl) (sym (clk_pgm n))

      pub vcc_refused : (bit_and n 12 ≡ 0 → ⊥) → Steps g p n g p 7
      vcc_refused h =
          let up = not-false (high CLK l || high PGM l) (lines_up ∙ ne_eqb (bit_and n 12) 0 h) in
          stays 6 (refused_by_lem t (rw (was_off, up)))

      pub vcc_rises : bit_and n 12 ≡ 0 → Goes (follows n w)
      vcc_rises h =
          let low = not-true (high CLK l || high PGM l) (lines_up ∙ eq-eqb (bit_and n 12) 0 h) in
          off_goes t (rw (was_off, low)) was_off

  -- CLK.
  module _ (t : Turned CLK l n) where
    same_vcc : {b : Bool} → high VCC n ≡ b → high VCC l ≡ b
    unfolding place
    same_vcc e = sym (t.others VCC refl) ∙ e

    same_rst : {b : Bool} → high RST n ≡ b → high RST l ≡ b
    unfolding place
    same_rst e = sym (t.others RST refl) ∙ e

    same_pgm : {b : Bool} → high PGM n ≡ b → high PGM l ≡ b
    unfolding place
    same_pgm e = sym (t.others PGM refl) ∙ e

    pub clk_unpowered : high VCC n ≡ false → Goes (follows n w)
    clk_unpowered e =
        let h = same_vcc e in
        off_goes t (rw h) h

    pub clk_unpowered_kept : high VCC n ≡ false → p ≡ pin (with_volatile card (follows n w))
    unfolding follows pin pin_value driven unpacked
    clk_unpowered_kept e = ready.pinned ∙ rw (same_vcc e, e)

    module _ (on : high VCC n ≡ true) where
      module _ (up : high CLK n ≡ true) where
        was_low : high CLK l ≡ false
        was_low = not-true (high CLK l) (sym t.over ∙ up)

        pub clk_rises_lem : Goes (clk_rises n w)
        unfolding powered change
        clk_rises_lem = on_goes t (simp (was_low, and-false)) (same_vcc on) (rw was_low)

        -- The pin is as it was with PGM low, and released with PGM high.
        pub clk_rises_kept : p ≡ pin (with_volatile card (clk_rises n w))
        unfolding clk_rises pin driven held place unpacked
        clk_rises_kept = ready.pinned ∙ go (high PGM n) refl
          where
            go : (b : Bool) → high PGM n ≡ b → pin card ≡ pin (with_volatile card (clk_rises n w))
            go true h = simp (same_pgm h, h, and-false)
            go false h = rw (t.others VCC refl, t.others RST refl, t.others FUS refl, h, same_pgm h, idle ready was_low)

      module _ (down : high CLK n ≡ false) (q : w.programming ≡ false) where
        was_high : high CLK l ≡ true
        was_high = not-false (high CLK l) (sym t.over ∙ down)

        none_refused : told CLK ≡ 0
        none_refused = rw (q, and-false (high VCC l))

        pub clk_reset : high RST n ≡ true → Goes (unlatched n w.matched w)
        unfolding powered change clk_falls unpacked
        clk_reset r = on_goes t none_refused (same_vcc on) (rw (was_high, q, same_rst r))

        pub clk_reset_kept : high RST n ≡ true → p ≡ pin (with_volatile card (unlatched n w.matched w))
        unfolding unlatched pin driven unpacked
        clk_reset_kept r = ready.pinned ∙ simp (same_rst r, r, and-false)

        module _ (r : high RST n ≡ false) where
          is_clocked : powered (change CLK l) n card ≡ clocked n card
          unfolding powered change clk_falls unpacked
          is_clocked = rw (was_high, q, same_rst r)

          pub clk_walks : (u : Halves.Volatile) → clocked n card ≡ with_volatile card u → Goes u
          clk_walks u there = on_goes t none_refused (same_vcc on) (is_clocked ∙ there)

          pub clk_counts : Steps g p n (with_half g (packed (clocked n card).volatile)) (pin (clocked n card)) 0
          unfolding clocked
          clk_counts =
              goes_to (clocked n card) (refused_by_lem t none_refused)
              (next_at (change CLK l) true t.edge_is (same_vcc on) ∙ is_clocked)

    module _ (q : w.programming ≡ true) where
      pub clk_refused : high PGM n ≡ true → Steps g p n g p 4
      clk_refused h = stays 3 (refused_by_lem t (rw (power_on ready q, clock_high ready q, q, same_pgm h)))

      pub clk_programs :
          high PGM n ≡ false → {left : Given} → left ≡ handed_back (programmed_card g n) → Steps g p n left (pin_at left left.half) 0
      unfolding powered change clk_falls programmed_card
      clk_programs h is =
          rw (is, pin_handed_back (programmed_card g n))
          (goes_to (programmed_card g n)
          (refused_by_lem t (rw (power_on ready q, clock_high ready q, q, same_pgm h)))
          (next_at (change CLK l) true t.edge_is (power_on ready q) ∙ rw (clock_high ready q, q)))

  -- No line: the step is the present levels.
  pub same_step : bit_xor l n ≡ 0 → Steps g p n g p 0
  unfolding by_difference powered follows unpacked
  same_step d =
      rw (packed_unpacked g.half (flags_small g.half ready.sound), sym ready.pinned) at
      (goes_to card none (there (high VCC l) refl))
    where
      small : n < 64
      small = small_step l n (levels_small ready) (rw d (omega arith))

      is_same : edge l n ≡ Same
      is_same = edge_by_difference l n (levels_small ready) small ∙ rw d

      none : refusal w n ≡ 0
      none = refusal_at Same small is_same ∙ same_refusal l w.programming

      there : (b : Bool) → high VCC l ≡ b → next card n ≡ card
      there true h = next_at Same true is_same h
      there false h = next_at Same false is_same h ∙ rw (same_levels l n (levels_small ready) small d)

  -- A byte over 63.
  pub over_63 : 63 < n → Steps g p n g p 1
  unfolding refusal
  over_63 h = stays 0 (rw (lt-ltb 63 n h))

  -- More than one line.
  pub many_lines :
      n < 64 → (bit_xor l n ≡ 0 → ⊥) → (bit_xor l n ≡ 1 → ⊥) → (bit_xor l n ≡ 2 → ⊥) → (bit_xor l n ≡ 4 → ⊥) → (bit_xor l n ≡ 8 → ⊥) →
      (bit_xor l n ≡ 16 → ⊥) → (bit_xor l n ≡ 32 → ⊥) → Steps g p n g p 2
  unfolding by_difference edge_refusal many
  many_lines small h0 h1 h2 h4 h8 h16 h32 =
      let d = bit_xor l n in
      stays 1
      (refusal_at Many small
      (edge_by_difference l n (levels_small ready) small ∙
      rw (ne_eqb d 0 h0, ne_eqb d 1 h1, ne_eqb d 2 h2, ne_eqb d 4 h4, ne_eqb d 8 h8, ne_eqb d 16 h16, ne_eqb d 32 h32)))
