-- What each line's change is refused by: 01's chain 2 to 7, taken apart.
use Prim.Native.Nat.{ℕ}
use mathlib.Core.Path.{◌≡◌}
use mathlib.Core.Bool.{Bool, true, false, cond, not, ◌&&◌, ◌||◌, and-true, and-false}
use Rattle.rules.specs.Lines.{Line, VCC, RST, CLK, PGM, IO, FUS, high, Rises, Falls, Same, change}
use Rattle.rules.specs.Refusals.{edge_refusal}

-- By the line's own level before it, VCC, programming, CLK and PGM.
abbrev pub refused : Line → Bool → Bool → Bool → Bool → Bool → ℕ
refused VCC was vcc programming clk pgm = cond (not was && (clk || pgm)) 7 0
refused RST was vcc programming clk pgm = cond (vcc && programming) 3 (cond (vcc && (was && clk)) 5 0)
refused CLK was vcc programming clk pgm = cond (vcc && (programming && (was && pgm))) 4 0
refused PGM was vcc programming clk pgm = cond (vcc && (not was && clk)) 6 0
refused IO was vcc programming clk pgm = 0
refused FUS was vcc programming clk pgm = cond (vcc && programming) 3 0

module _ (levels : ℕ) (programming : Bool) where
  abbrev by_rule : Line → Bool → ℕ
  by_rule x was = refused x was (high VCC levels) programming (high CLK levels) (high PGM levels)

  by_level : (x : Line) (was : Bool) → edge_refusal (cond was (Falls x) (Rises x)) levels programming ≡ by_rule x was
  unfolding edge_refusal
  by_level VCC true = simp and-false
  by_level VCC false = simp and-false
  by_level RST true = simp (and-true, and-false)
  by_level RST false = simp (and-true, and-false)
  by_level CLK true = simp and-false
  by_level CLK false = simp and-false
  by_level PGM true = simp and-false
  by_level PGM false = simp and-false
  by_level IO true = simp and-false
  by_level IO false = simp and-false
  by_level FUS true = simp (and-true, and-false)
  by_level FUS false = simp (and-true, and-false)

  pub line_refusal_lem : (x : Line) → edge_refusal (change x levels) levels programming ≡ by_rule x (high x levels)
  unfolding change
  line_refusal_lem x = by_level x (high x levels)

  pub same_refusal : edge_refusal Same levels programming ≡ 0
  unfolding edge_refusal
  same_refusal = simp and-false
