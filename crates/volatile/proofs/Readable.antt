-- The rights to read that need no table.
use Prim.Native.Nat.{ℕ, ◌+◌, ◌-◌, ◌≤◌, ◌<◌}
use native.Mathlib.Omega.{arith}
use native.Mathlib.Decide.{dec_lt}
use mathlib.Core.Path.{◌≡◌, refl, ◌∙◌}
use mathlib.Core.Bool.{Bool, true, false, not, ◌&&◌, ◌||◌}
use lib.Dec.{eqb, ltb}
use lib.Bits.{bit_and}
use borrow.Author.Tests.{eqb-true, lt-ltb, le-ltb}
use Rattle.memory.specs.Image.{digit}
use Rattle.memory.proofs.Below.{all, below, and_left, and_right}
use Rattle.rules.specs.declared.Zone.{Zone}
use Rattle.rules.specs.declared.Zone.TheVariants.{Gap}
use Rattle.rules.specs.Zones.{zone}
use Rattle.rules.specs.Rights as Rights
use Rattle.rules.specs.Rights.{Held, level1, granted, rights, may_read}
use Rattle.rules.proofs.PastLast.{past_all}
use Rattle.volatile.proofs.Packing.{digit_low, masked_test}

-- Reading in this zone asks for the same at both levels.
unfoldable asks : ℕ → Zone → Bool
unfolding rights
asks asked z = eqb (rights true z).read asked && eqb (rights false z).read asked

-- And at all of `count` addresses from `low` on.
unfoldable ask_in : ℕ → ℕ → ℕ → Bool
unfolding asks all zone
ask_in low count asked = all count (λ (k : ℕ). asks asked (zone (low + k)))

asked_for : (h : Held) (asked : ℕ) (z : Zone) → asks asked z ≡ true → may_read h z ≡ granted asked h
unfolding asks may_read
asked_for h asked z e = go (level1 h)
  where
    go : (l : Bool) → granted (rights l z).read h ≡ granted asked h
    go true = rw (eqb-true (rights true z).read asked (and_left (eqb (rights true z).read asked) _ e)) refl
    go false = rw (eqb-true (rights false z).read asked (and_right (eqb (rights true z).read asked) _ e)) refl

read_in :
    (low count asked : ℕ) → ask_in low count asked ≡ true → (h : Held) (b : ℕ) → low ≤ b → b < low + count →
    may_read h (zone b) ≡ granted asked h
unfolding ask_in
read_in low count asked t h b k l =
    let e : low + (b - low) ≡ b = omega arith in
    asked_for h asked (zone b) (rw e at (below count (λ (k : ℕ). asks asked (zone (low + k))) t (b - low) (omega arith)))

-- FZ and IZ are always read, AZ with SV or R1.
pub low_readable : (h : Held) (b : ℕ) → b ≤ 79 → may_read h (zone b) ≡ true
unfolding ask_in granted
low_readable h b k = read_in 0 80 Rights.yes refl h b (omega arith) (omega arith)

pub az_readable : (h : Held) (b : ℕ) → 176 ≤ b → b ≤ 1199 → may_read h (zone b) ≡ (h.sv || h.r1)
unfolding ask_in granted
az_readable h b k l = read_in 176 1024 Rights.SV_or_R1 refl h b k (omega arith)

-- SCAC and CPZ are always read.
pub middle_readable : (h : Held) (b : ℕ) → 96 ≤ b → b ≤ 175 → may_read h (zone b) ≡ true
unfolding ask_in granted
middle_readable h b k l = read_in 96 80 Rights.yes refl h b k (omega arith)

-- From 1232 on the zones of the memory are always read, and nothing past them is.
pub high_readable : (h : Held) (b : ℕ) → 1232 ≤ b → may_read h (zone b) ≡ ltb b 1392
unfolding ask_in granted
high_readable h b k = go (dec_lt b 1392) (dec_lt b 1520)
  where
    go : Dec (b < 1392) → Dec (b < 1520) → may_read h (zone b) ≡ ltb b 1392
    go (yes q) _ = rw (lt-ltb b 1392 q) (read_in 1232 160 Rights.yes refl h b k (omega arith))
    go (no q) (yes l) = rw (le-ltb b 1392 (omega arith)) (read_in 1392 128 Rights.no refl h b (omega arith) (omega arith))
    go (no q) (no l) = rw (le-ltb b 1392 (omega arith), ← past_all b (omega arith)) (asked_for h Rights.no Gap refl)

-- SV or R1, by one mask.
pub sv_or_r1 : (x : ℕ) → not (eqb (bit_and x 5) 0) ≡ (digit 0 x || digit 2 x)
unfolding all digit
sv_or_r1 x =
    masked_test 3 5 (λ (y : ℕ). not (eqb y 0)) (λ (y : ℕ). digit 0 y || digit 2 y) (omega arith) refl x ∙
    rw (digit_low 3 0 x (omega arith), digit_low 3 2 x (omega arith))

pub ruleset readable = (low_readable, middle_readable, az_readable, high_readable, sv_or_r1)
