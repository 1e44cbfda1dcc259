use Prim.Native.Nat.{◌<◌}
use native.Mathlib.Omega.{arith}
use mathlib.Core.Path.{refl, ◌∙◌}
use Rattle.memory.proofs.Below.{all}
use Rattle.rules.specs.Zones.{between}
use Rattle.shown.specs.Shown.{plain_at}
use borrow.Author.Tests.{lt-ltb, le-ltb}
use Rattle.volatile.proofs.Readable.{low_readable, middle_readable, high_readable}
use Rattle.shown.proofs.Plain.{past_last, no_walk_in, shown, az_shown}
use Rattle.shown.proofs.shows.Goals as goal

pub returns-in-178-to-1198 : goal.returns-in-178-to-1198
returns-in-178-to-1198 c = az_shown _ _ (omega arith) (omega arith)

pub returns-in-1392-to-1519 : goal.returns-in-1392-to-1519
unfolding all plain_at between
returns-in-1392-to-1519 c =
    let a = c.args.a in
    let past = le-ltb a 1392 (omega arith) in
    shown a _ 1392 128 refl (omega arith) (omega arith) (λ h. high_readable h a (omega arith) ∙ past)

pub returns-in-0-to-79 : goal.returns-in-0-to-79
unfolding all plain_at between
returns-in-0-to-79 c =
    let a = c.args.a in
    shown a _ 0 80 refl (omega arith) (omega arith) (λ h. low_readable h a (omega arith))

pub returns-in-0-to-79-2 : goal.returns-in-0-to-79-2
unfolding all plain_at between
returns-in-0-to-79-2 c =
    let a = c.args.a in
    shown a _ 105 71 refl (omega arith) (omega arith) (λ h. middle_readable h a (omega arith) (omega arith))

pub returns-in-0-to-79-3 : goal.returns-in-0-to-79-3
unfolding all plain_at between
returns-in-0-to-79-3 c =
    let a = c.args.a in
    let past : a < 1392 = omega arith in
    shown a _ 1233 127 refl (omega arith) (omega arith) (λ h. high_readable h a (omega arith) ∙ lt-ltb a 1392 past)

pub returns-in-0-to-79-4 : goal.returns-in-0-to-79-4
unfolding all plain_at between
returns-in-0-to-79-4 c =
    let a = c.args.a in
    let past : a < 1392 = omega arith in
    shown a _ 1361 31 refl (omega arith) (omega arith) (λ h. high_readable h a (omega arith) ∙ lt-ltb a 1392 past)

pub returns-in_default : goal.returns-in_default
unfolding all plain_at between
returns-in_default c = no_walk_in c.args.a c.args.flags 80 25 refl (omega arith) (omega arith)

pub returns-in_default-2 : goal.returns-in_default-2
unfolding all plain_at between
returns-in_default-2 c = no_walk_in c.args.a c.args.flags 176 2 refl (omega arith) (omega arith)

pub returns-in_default-3 : goal.returns-in_default-3
unfolding all plain_at between
returns-in_default-3 c = no_walk_in c.args.a c.args.flags 1199 34 refl (omega arith) (omega arith)

pub returns-in_default-4 : goal.returns-in_default-4
unfolding all plain_at between
returns-in_default-4 c = no_walk_in c.args.a c.args.flags 1360 1 refl (omega arith) (omega arith)

pub returns-in_default-5 : goal.returns-in_default-5
returns-in_default-5 c = past_last _ (omega arith)
