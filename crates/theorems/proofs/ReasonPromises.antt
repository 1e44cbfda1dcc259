-- The proof of each statement of `specs.ReasonPromises`, in its order, and after it examples that the statement speaks of.
use Rattle.rules.specs.ReasonPromises.{TheRightIsThere, ReasonIsTrue, GrantingBringsOn}
use Rattle.theorems.proofs.Reasons as Reasons
use Rattle.theorems.proofs.Carried as Carried
use Rattle.theorems.proofs.Granting as Granting
use Rattle.theorems.proofs.ReasonExamples as Examples

pub right_is_there : TheRightIsThere
right_is_there = Reasons.right_is_there

pub reason_is_true : ReasonIsTrue
reason_is_true = Carried.reason_is_true

pub spent : Examples.Spent
spent = Examples.spent

pub unspent : Examples.Unspent
unspent = Examples.unspent

pub granting_brings_on : GrantingBringsOn
granting_brings_on = Granting.granting_brings_on

pub granted_in_order : Examples.GrantedInOrder
granted_in_order = Examples.granted_in_order
