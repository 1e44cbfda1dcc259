-- One step inside the card: what its private functions take for granted, and what they hand on.
use Rattle.std.specs.Prelude.{ℕ, ◌≤◌, ◌≡◌, false, length}
use Rattle.memory.specs.Image.{bytes}
use Rattle.rules.specs.Refusals.{refusal}
use Rattle.rules.specs.Steps.{next, pin}
use Rattle.volatile.specs.Packed.{unpacked, Given, card_of, handed_back, made_up_word}

-- A card that 10, 14 and 9 let pass, with its pin at hand.
pub record Ready (g : Given) (p : ℕ) : Type 0 where
  pub sized : length g.memory ≡ bytes
  pub fused : g.fuses ≤ 7
  pub sound : made_up_word g.half ≡ false
  pub pinned : p ≡ pin (card_of g)

-- A step of such a card: what it leaves, the pin, and the refusal, 0 if none. "A refused step changes nothing".
pub record Steps (g : Given) (p n : ℕ) (left : Given) (shown k : ℕ) : Type 0 where
  pub refused : k ≡ refusal (unpacked g.half) n
  pub accepted : k ≡ 0 → (left ≡ handed_back (next (card_of g) n)) × (shown ≡ pin (next (card_of g) n))
  pub kept : (k ≡ 0 → ⊥) → (left ≡ g) × (shown ≡ p)
