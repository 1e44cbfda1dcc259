-- What the acts are made of.
use Rattle.std.specs.Prelude.{ℕ, ◌+◌, Bool, true, false, List, [], ◌∷◌, ◌++◌}
use Rattle.rules.specs.Lines.{CLK, mask}
use Rattle.rules.specs.Maker.{base, io, idle, reset, walk, show, program}

-- A line "up, down".
unfoldable pub pulse : ℕ → Bool → List ℕ
unfolding idle
pulse line fus = (idle fus + line) ∷ idle fus ∷ []

-- "per bit set I/O, CLK up, down"
unfoldable pub shown_bit : Bool → Bool → List ℕ
unfolding base io mask
shown_bit fus b = (base fus + io b) ∷ (base fus + io b + mask CLK) ∷ (base fus + io b) ∷ []

-- "reset, walk 80, show"
abbrev pub up_to_code : Bool → ℕ → List ℕ
up_to_code fus code = reset fus ++ (walk fus 80 ++ show fus 16 code)

-- "walk k, write, erase"
abbrev pub use_try : Bool → ℕ → List ℕ
use_try fus k = walk fus k ++ (program fus false ++ program fus true)
