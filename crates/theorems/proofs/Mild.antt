-- What 01's table of rights leaves without SV, and that what is left touches none of the three hidden zones.
use Prim.Native.Nat.{ℕ, ◌<◌, ◌/◌}
use mathlib.Core.Path.{◌≡◌, refl, ap, ◌∙◌}
use mathlib.Core.Bool.{Bool, true, false, cond, not, ◌&&◌, ◌||◌, beq, false≢true, true≢false, and-false}
use mathlib.Core.List.{List}
use native.Mathlib.Omega.{arith}
use lib.Dec.{eqb, ltb}
use lib.ListN.{length}
use borrow.Author.Tests.{eqb-true, ne_eqb, ltb-true, not-true}
use Rattle.memory.specs.Image.{bit, erased_word}
use Rattle.memory.proofs.Laws.{bit_written_lem, bit_erased, length_written, length_erased}
use Rattle.rules.specs.declared.Zone.{Zone}
use Rattle.rules.specs.declared.Zone.TheVariants.{SC, SCAC, AZ, EZ, EC, MTZ, FuseECEN}
use Rattle.rules.specs.declared.Operation.{Operation}
use Rattle.rules.specs.declared.Operation.TheVariants.{Nothing, WriteBit, EraseWord, EraseZone}
use Rattle.rules.specs.declared.Operation.TheVariants.{WriteBlock, EraseBlock, BlowMF, BlowECEN, BlowISS}
use Rattle.rules.specs.Zones.{between, zone, row, is_fuse}
use Rattle.rules.specs.Rights.{Held, level1, granted, rights, may_read}
use Rattle.rules.specs.Programming.{barred, asks, may_program, effect, operation, memory_after, turns, opens}
use Rattle.rules.specs.Demands.{hidden}
use Rattle.theorems.proofs.Tests.{all, beq_true, and_left, and_right, every, of_every}
use Rattle.rules.proofs.PastLast.{past_all}
use Rattle.rules.proofs.Rows.{at_row, each_zone}
use Rattle.theorems.proofs.ZoneCases.{asked_where, hidden_past, everywhere}

is : Zone → Zone → Bool
is z y = eqb (row z) (row y)

-- Without SV and R1 every zone of the memory is read but SC, AZ and EZ.
pub readable : Zone → Bool
unfolding is
readable z = ltb (row z) 10 && not (is z SC || (is z AZ || is z EZ))

-- Without SV there is a write in SCAC, EC and MTZ, the erase of the MTZ word, and the blowing of EC_EN.
allowed : Bool → Bool → Zone → Bool
unfolding is
allowed l1 latch z = cond latch (is z MTZ) (is z SCAC || (is z EC || (is z MTZ || is z FuseECEN && l1)))

-- So an operation without SV is nothing, a write outside the hidden zones, the erase of the MTZ word, or the blowing of EC_EN.
mild : Operation → Zone → Bool
unfolding readable
mild Nothing z = true
mild WriteBit z = readable z
mild EraseWord z = is z MTZ
mild EraseZone z = false
mild WriteBlock z = false
mild EraseBlock z = false
mild BlowMF z = false
mild BlowECEN z = true
mild BlowISS z = false

module _ (h : Held) where
  -- What is there without SV.
  abbrev unopened : Bool → Bool → Bool → Held
  unopened r1 fus iss = record { sv = false; p1 = h.p1; r1 = r1; e1 = h.e1; mf = h.mf; iss = iss; fus = fus }

  abbrev reads : Zone → Bool → Bool → Bool
  reads z fus iss = beq (granted (rights (fus && iss) z).read (unopened false fus iss)) (readable z)

  abbrev programs : Zone → Bool → Bool → Bool → Bool → Bool
  programs z fus iss latch bar =
      beq (granted (asked_where (fus && iss) latch bar z) (unopened h.r1 fus iss)) (allowed (fus && iss) latch z) &&
      (not (allowed (fus && iss) latch z) || mild (effect (fus && iss) latch z) z)

  abbrev agrees_at : Zone → Bool → Bool → Bool
  agrees_at z fus iss = reads z fus iss && every (λ latch. every (programs z fus iss latch))

  agrees : Zone → Bool
  unfolding every readable allowed rights granted mild effect
  agrees z = every (λ fus. every (agrees_at z fus))

  agreed : (z : Zone) → agrees z ≡ true
  unfolding agrees at_row all
  agreed = each_zone agrees refl

  module _ (z : Zone) where
    abbrev l1 : Bool
    l1 = h.fus && h.iss

    agreed_at : agrees_at z h.fus h.iss ≡ true
    unfolding agrees
    agreed_at = of_every (agrees_at z h.fus) (of_every (λ f. every (agrees_at z f)) (agreed z) h.fus) h.iss

    read_agrees : granted (rights l1 z).read (unopened false h.fus h.iss) ≡ readable z
    read_agrees = beq_true _ _ (and_left _ _ agreed_at)

    module _ (latch bar : Bool) where
      programs_agree : programs z h.fus h.iss latch bar ≡ true
      programs_agree =
          of_every (programs z h.fus h.iss latch)
          (of_every (λ l. every (programs z h.fus h.iss l)) (and_right (reads z h.fus h.iss) _ agreed_at) latch) bar

      program_agrees : granted (asked_where l1 latch bar z) (unopened h.r1 h.fus h.iss) ≡ allowed l1 latch z
      program_agrees = beq_true _ _ (and_left _ _ programs_agree)

      effect_mild : (not (allowed l1 latch z) || mild (effect l1 latch z) z) ≡ true
      effect_mild =
          and_right (beq (granted (asked_where l1 latch bar z) (unopened h.r1 h.fus h.iss)) (allowed l1 latch z)) _ programs_agree

  -- The same of whatever is there, SV being 0.
  without_sv : (r1 : Bool) → h.sv ≡ false → h.r1 ≡ r1 → h ≡ unopened r1 h.fus h.iss
  without_sv r1 e f i = record { sv = e i; p1 = h.p1; r1 = f i; e1 = h.e1; mf = h.mf; iss = h.iss; fus = h.fus }

-- What may be read without SV and R1, of the zone alone.
pub may_read_readable : (h : Held) (z : Zone) → h.sv ≡ false → h.r1 ≡ false → may_read h z ≡ readable z
unfolding may_read level1
may_read_readable h z e f =
    ap (λ (x : Held). may_read x z) (without_sv h false e f) ∙ read_agrees h z

-- What CLK's fall in programming carries out without SV, of level, RST, latch and zone alone.
pub mild_operation : Bool → Bool → Bool → Zone → Operation
unfolding allowed
mild_operation l1 rst latch z = cond (beq rst (is_fuse z) && allowed l1 latch z) (effect l1 latch z) Nothing

-- The operation of a card with SV 0 is that one.
pub operation_mild :
    (h : Held) (ec_en rst latch : Bool) (a : ℕ) → h.sv ≡ false →
    operation h ec_en rst latch a ≡ mild_operation (level1 h) rst latch (zone a)
unfolding operation may_program asks barred mild_operation level1 is
operation_mild h ec_en rst latch a e =
    let l1 : Bool = h.fus && h.iss in
    let bar : Bool = not l1 && (not ec_en && not (eqb a 1232)) in
    ap (λ (x : Held). operation x ec_en rst latch a) (without_sv h h.r1 e refl) ∙
    rw (program_agrees h (zone a) latch bar)

-- What is readable without SV is not hidden.
pub readable_seen : (a : ℕ) → readable (zone a) ≡ true → hidden a ≡ false
unfolding readable zone hidden all
readable_seen a e =
    not-true (hidden a)
    (everywhere (λ b. readable (zone b)) (λ b. not (hidden b)) refl (λ b past _. ap not (hidden_past b (omega arith))) a e)

-- The MTZ is one word.
mtz_word : (a : ℕ) → is (zone a) MTZ ≡ true → a / 16 ≡ 85
unfolding is zone all
mtz_word a e =
    eqb-true (a / 16) 85
    (everywhere (λ b. is (zone b) MTZ) (λ b. eqb (b / 16) 85) refl (λ b past q. cc (past_all b past)) a e)

chosen_mild : (t u : Bool) (op : Operation) (z : Zone) → (not u || mild op z) ≡ true → mild (cond (t && u) op Nothing) z ≡ true
unfolding mild
chosen_mild true true op z f = f
chosen_mild true false op z f = refl
chosen_mild false u op z f = refl

-- An operation without SV is mild.
mild_operation_lem :
    (h : Held) (ec_en rst latch : Bool) (a : ℕ) → h.sv ≡ false → mild (operation h ec_en rst latch a) (zone a) ≡ true
unfolding mild_operation level1
mild_operation_lem h ec_en rst latch a e =
    rw (operation_mild h ec_en rst latch a e)
    (chosen_mild (beq rst (is_fuse (zone a))) (allowed (h.fus && h.iss) latch (zone a)) _ (zone a)
    (effect_mild h (zone a) latch false))

-- What holds of each of these holds of an operation without SV.
module _
    (P : Operation → Type 0) (a : ℕ) (nothing : P Nothing) (writes : hidden a ≡ false → P WriteBit)
    (erases : a / 16 ≡ 85 → P EraseWord) (blows : P BlowECEN) where
  mild_cases : (op : Operation) → mild op (zone a) ≡ true → P op
  unfolding mild
  mild_cases Nothing e = nothing
  mild_cases WriteBit e = writes (readable_seen a e)
  mild_cases EraseWord e = erases (mtz_word a e)
  mild_cases EraseZone e = absurd (false≢true e)
  mild_cases WriteBlock e = absurd (false≢true e)
  mild_cases EraseBlock e = absurd (false≢true e)
  mild_cases BlowMF e = absurd (false≢true e)
  mild_cases BlowECEN e = blows
  mild_cases BlowISS e = absurd (false≢true e)

-- The hidden zones lie below the MTZ.
hidden_below : (b : ℕ) → hidden b ≡ true → b < 1360
unfolding hidden between all
hidden_below b h =
    ltb-true b 1360
    (everywhere hidden (λ a. ltb a 1360) refl (λ a past q. cc (hidden_past a (omega arith))) b h)

-- The MTZ word's erase leaves what is below it.
erased_above : (m : List ℕ) (a b : ℕ) → a / 16 ≡ 85 → b < 1360 → bit (erased_word m a) b ≡ bit m b
erased_above m a b w h = rw (bit_erased m a b, ne_eqb (a / 16) (b / 16) (omega arith))

-- What an operation without SV does, of the card that it is carried out on.
module _ (h : Held) (ec_en rst latch : Bool) (a : ℕ) (shut : h.sv ≡ false) where
  abbrev op : Operation
  op = operation h ec_en rst latch a

  cases : (P : Operation → Type 0) → P Nothing → (hidden a ≡ false → P WriteBit) → (a / 16 ≡ 85 → P EraseWord) → P BlowECEN → P op
  cases P nothing writes erases blows =
      mild_cases P a nothing writes erases blows op (mild_operation_lem h ec_en rst latch a shut)

  pub mild_length : (m : List ℕ) → length (memory_after op a m) ≡ length m
  unfolding memory_after
  mild_length m =
      cases (λ (o : Operation). length (memory_after o a m) ≡ length m) refl (λ _. length_written m a) (λ _. length_erased m a) refl

  pub mild_keeps_hidden : (m : List ℕ) (b : ℕ) → hidden b ≡ true → bit (memory_after op a m) b ≡ bit m b
  unfolding memory_after
  mild_keeps_hidden m b in-zone =
      cases (λ (o : Operation). bit (memory_after o a m) b ≡ bit m b) refl
      (λ (seen : hidden a ≡ false).
      rw (bit_written_lem m a b, ne_eqb a b (λ (q : a ≡ b). true≢false (cc))))
      (λ (w : a / 16 ≡ 85). erased_above m a b w (hidden_below b in-zone)) refl

  pub mild_keeps_zeros : (m : List ℕ) (b : ℕ) → b < 1360 → bit m b ≡ false → bit (memory_after op a m) b ≡ false
  unfolding memory_after
  mild_keeps_zeros m b low zero_bit =
      cases (λ (o : Operation). bit (memory_after o a m) b ≡ false) zero_bit
      (λ _. rw (bit_written_lem m a b, zero_bit) (and-false (not (eqb a b))))
      (λ (w : a / 16 ≡ 85). erased_above m a b w low ∙ zero_bit) zero_bit

  pub mild_keeps_equal :
      (m m' : List ℕ) (b : ℕ) → length m ≡ length m' → bit m b ≡ bit m' b →
      bit (memory_after op a m) b ≡ bit (memory_after op a m') b
  unfolding memory_after
  mild_keeps_equal m m' b l e =
      cases (λ (o : Operation). bit (memory_after o a m) b ≡ bit (memory_after o a m') b) e
      (λ _. rw (bit_written_lem m a b, bit_written_lem m' a b, e)) (λ _. rw (bit_erased m a b, bit_erased m' a b, l, e)) e

  -- Only a write that turns a bit opens.
  pub mild_shuts : (m : List ℕ) (matched : Bool) → (between 96 103 a ≡ true → bit m a ≡ false) → opens op m a matched ≡ false
  unfolding opens turns
  mild_shuts m matched spent = go (between 96 103 a) refl
    where
      unturned : bit m a ≡ false → turns op m a ≡ false
      unturned zero_bit = cases (λ (o : Operation). turns o m a ≡ false) refl (λ _. zero_bit) (λ _. refl) refl

      go : (t : Bool) → between 96 103 a ≡ t → (t && (matched && turns op m a)) ≡ false
      go true e = rw (unturned (spent e)) (and-false matched)
      go false e = refl
