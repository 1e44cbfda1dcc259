-- A range's test, by where the number lies.
pub use Rattle.theorems.proofs.Between.{within, under, over}
