-- Bytes at a place of a lent buffer, the rest kept.
use Rattle.std.specs.Prelude.{ℕ, ◌+◌, ◌-◌, min, ◌≡◌, List, length}
use Rattle.std.proofs.lemmas.List.Edits.{sets}

-- The bytes stand from `at` on, as many as there is room for, all other bytes are as before, and `next` is the place behind them.
pub record Put (before : List ℕ) (at : ℕ) (bytes : List ℕ) (next : ℕ) (after : List ℕ) : Type 0 where
  pub place : next ≡ at + min (length bytes) (length before - at)
  pub stored : after ≡ sets before at bytes
