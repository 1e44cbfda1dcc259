-- The steps that are told without the loop of a run: what each comes to, and what a single step answers of it.
use Prim.Native.Nat.{ℕ}
use mathlib.Core.Path.{◌≡◌, refl, sym, ◌∙◌}
use mathlib.Core.Bool.{false}
use mathlib.Core.List.{[]}
use lib.Bits.{bit_xor, bit_and}
use borrow.Author.Tests.{eq-eqb}
use Rattle.rules.specs.Halves as Halves
use Rattle.rules.specs.Lines.{Line, VCC, RST, CLK, PGM, FUS, place, high, mask}
use Rattle.rules.specs.Match.{arrived}
use Rattle.rules.specs.Steps.{follows, pin}
use Rattle.volatile.specs.declared.Volatile.{Volatile}
use Rattle.volatile.specs.Packed.{packed, unpacked, Given, card_of, with_half}
use Rattle.refusals.specs.Before.{given_refusal}
use Rattle.std.specs.Prelude.{Some, Ok}
use Rattle.volatile.specs.Inner.{Ready}
use Rattle.card.specs.Moves.{QuickTo}
use Rattle.card.specs.Calls.{StepAnswered}
use Rattle.edge_laws.proofs.Turned.{Turned}
use Rattle.edge_laws.proofs.LineMasks.{vcc_clk, high_low}
use Rattle.edge_laws.proofs.ByLine.{pin_at, Goes, turned, idle, reads, pgm_goes, fus_goes, rst_follows, rst_falls_lem}
use Rattle.refusals.proofs.Laws.{ready_at}
use Rattle.card.proofs.Answers.{step_done}

module _ (v : Volatile) (n : ℕ) where
  -- The one line that is turned over has the card go to u.
  pub quick_by :
      (x : Line) (u : Halves.Volatile) → bit_xor v.lines n ≡ mask x →
      ((g : Given) (p : ℕ) (ready : Ready (with_half g v) p) → Turned x v.lines n → Goes ready n u) →
      QuickTo v n (Some (packed u))
  unfolding QuickTo
  quick_by x u e goes g p ready = reads ready n (goes g p ready (turned ready n x e))

  pub pgm_quick : bit_xor v.lines n ≡ mask PGM → (bit_and n 13 ≡ 13 → ⊥) → QuickTo v n (Some (packed (follows n (unpacked v))))
  pgm_quick e h = quick_by PGM (follows n (unpacked v)) e (λ g p ready t. pgm_goes ready n t h)

  -- With CLK low neither FUS nor RST is refused.
  module _ (low : bit_and n 5 ≡ 1) where
    clk : high CLK n ≡ false
    clk = (high_low (high VCC n) (high CLK n) (sym (vcc_clk n) ∙ eq-eqb (bit_and n 5) 1 low)).1

    pub fus_quick : bit_xor v.lines n ≡ mask FUS → QuickTo v n (Some (packed (follows n (unpacked v))))
    unfolding place
    fus_quick e =
        quick_by FUS (follows n (unpacked v)) e
        (λ g p ready t. fus_goes ready n t (idle ready (sym (t.others CLK refl) ∙ clk)))

    module _ (e : bit_xor v.lines n ≡ mask RST) where
      pub rst_rises_quick : (bit_and n 3 ≡ 1 → ⊥) → QuickTo v n (Some (packed (follows n (unpacked v))))
      unfolding place
      rst_rises_quick h =
          quick_by RST (follows n (unpacked v)) e
          (λ g p ready t. rst_follows ready n t (idle ready (sym (t.others CLK refl) ∙ clk)) h)

      pub rst_falls_quick : bit_and n 3 ≡ 1 → QuickTo v n (Some (packed (arrived [] 0 0 (follows n (unpacked v)))))
      unfolding place
      rst_falls_quick h =
          quick_by RST (arrived [] 0 0 (follows n (unpacked v))) e
          (λ g p ready t. rst_falls_lem ready n t (idle ready (sym (t.others CLK refl) ∙ clk)) h clk)

-- What a single step answers.
pub quick_told :
    (g : Given) (n : ℕ) (after : Volatile) → given_refusal g ≡ 0 → QuickTo g.half n (Some after) →
    StepAnswered g n (with_half g after) (Ok (pin_at g after))
unfolding QuickTo
quick_told g n after z to = step_done g n z (to g (pin (card_of g)) (ready_at g (pin (card_of g)) z refl))
