-- The levels of VCC, RST, CLK and PGM, by one mask.
use Prim.Native.Nat.{ℕ, ◌<◌}
use native.Mathlib.Omega.{arith}
use mathlib.Core.Path.{◌≡◌, refl, ◌∙◌}
use mathlib.Core.Bool.{Bool, true, false, not, ◌&&◌, ◌||◌, beq}
use lib.Dec.{eqb}
use lib.Bits.{bit_and}
use borrow.Author.Tests.{not-true}
use Rattle.memory.specs.Image.{digit}
use Rattle.memory.proofs.Below.{all, and_left, and_right}
use Rattle.rules.specs.Lines.{VCC, RST, CLK, PGM, place, high}
use Rattle.volatile.proofs.Packing.{digit_low, masked_test}

module _ (n : ℕ) where
  by_mask :
      (c r : ℕ) (g : Bool → Bool → Bool → Bool → Bool) → c < 16 →
      all 16 (λ (x : ℕ). beq (eqb (bit_and x c) r) (g (digit 0 x) (digit 1 x) (digit 2 x) (digit 3 x))) ≡ true →
      eqb (bit_and n c) r ≡ g (high VCC n) (high RST n) (high CLK n) (high PGM n)
  unfolding high place
  by_mask c r g h t =
      masked_test 4 c (λ (x : ℕ). eqb x r) (λ (x : ℕ). g (digit 0 x) (digit 1 x) (digit 2 x) (digit 3 x)) h t n ∙
      rw (digit_low 4 0 n (omega arith), digit_low 4 1 n (omega arith), digit_low 4 2 n (omega arith), digit_low 4 3 n (omega arith))

  pub vcc_clk_pgm : eqb (bit_and n 13) 13 ≡ (high VCC n && (high PGM n && high CLK n))
  unfolding all digit
  vcc_clk_pgm = by_mask 13 13 (λ vcc rst clk pgm. vcc && (pgm && clk)) (omega arith) refl

  pub vcc_rst : eqb (bit_and n 3) 1 ≡ (high VCC n && not (high RST n))
  unfolding all digit
  vcc_rst = by_mask 3 1 (λ vcc rst clk pgm. vcc && not rst) (omega arith) refl

  pub vcc_clk : eqb (bit_and n 5) 1 ≡ (high VCC n && not (high CLK n))
  unfolding all digit
  vcc_clk = by_mask 5 1 (λ vcc rst clk pgm. vcc && not clk) (omega arith) refl

  pub clk_pgm : eqb (bit_and n 12) 0 ≡ not (high CLK n || high PGM n)
  unfolding all digit
  clk_pgm = by_mask 12 0 (λ vcc rst clk pgm. not (clk || pgm)) (omega arith) refl

-- Two tests that hold; one that holds and another that does not.
pub both : (a b : Bool) → (a && b) ≡ true → (a ≡ true) × (b ≡ true)
both a b e = (and_left a b e, and_right a b e)

pub high_low : (a b : Bool) → (a && not b) ≡ true → (a ≡ true) × (b ≡ false)
high_low a b e = (and_left a (not b) e, not-true b (and_right a (not b) e))
