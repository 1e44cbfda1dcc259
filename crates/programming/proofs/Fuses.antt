-- A fuse is blown by a mask on the byte.
use Prim.Native.Nat.{ℕ, ◌<◌}
use mathlib.Core.Path.{◌≡◌, refl}
use mathlib.Core.Bool.{true}
use lib.Dec.{eqb}
use lib.Bits.{bit_and}
use borrow.Author.Tests.{eqb-true}
use Rattle.memory.specs.Image.{cleared}
use Rattle.memory.proofs.Below.{all, below}
use Rattle.rules.specs.Halves.{MF, EC_EN, ISS, blown, fuse_place}

mask_blows :
    (k c : ℕ) → all 256 (λ (f : ℕ). eqb (bit_and f c) (cleared k f)) ≡ true → (f : ℕ) → f < 256 → bit_and f c ≡ cleared k f
mask_blows k c t f h = eqb-true (bit_and f c) (cleared k f) (below 256 (λ (x : ℕ). eqb (bit_and x c) (cleared k x)) t f h)

pub mf_blown : (f : ℕ) → f < 256 → bit_and f 254 ≡ blown MF f
unfolding blown fuse_place all cleared
mf_blown f h = mask_blows 0 254 refl f h

pub ec_en_blown : (f : ℕ) → f < 256 → bit_and f 253 ≡ blown EC_EN f
unfolding blown fuse_place all cleared
ec_en_blown f h = mask_blows 1 253 refl f h

pub iss_blown : (f : ℕ) → f < 256 → bit_and f 251 ≡ blown ISS f
unfolding blown fuse_place all cleared
iss_blown f h = mask_blows 2 251 refl f h
