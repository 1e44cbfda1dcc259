use native.Mathlib.Omega.{arith}
use mathlib.Core.Path.{sym, ◌∙◌}
use mathlib.Core.Bool.{and-false}
use borrow.Author.Tests.{eq-eqb, ne_eqb, lt-ltb, le-ltb, le-leb, lt-leb}
use Rattle.memory.specs.Image.{bytes}
use Rattle.walk.specs.Calls.{walks, walk_of}
use Rattle.walk.proofs.step.Goals as goal

pub returns-then-levels-ne1 : goal.returns-then-levels-ne1
unfolding walk_of walks
returns-then-levels-ne1 c = rw (ne_eqb _ 1 c.if-levels-ne1.true)

pub returns-then-not-is_calm : goal.returns-then-not-is_calm
unfolding walk_of walks
returns-then-not-is_calm c =
    let test = c.is_calm in
    simp (sym test.ensures ∙ c.if-not-is_calm.true, and-false)

pub returns-then-v-ge-LAST : goal.returns-then-v-ge-LAST
unfolding walk_of walks
returns-then-v-ge-LAST c = simp (le-ltb _ 1519 c.if-v-ge-LAST.true, and-false)

pub returns-then-image-ne-BYTES : goal.returns-then-image-ne-BYTES
unfolding walk_of walks
returns-then-image-ne-BYTES c = simp (ne_eqb _ bytes c.if-image-ne-BYTES.true, and-false)

pub returns-then-fuses-gt7 : goal.returns-then-fuses-gt7
unfolding walk_of walks
returns-then-fuses-gt7 c = simp (lt-leb _ 7 c.if-fuses-gt7.true, and-false)

pub comes_to-requires : goal.comes_to-requires
comes_to-requires c =
    record {
      byte = omega (arith, c.ranges);
      still = c.if-levels-ne1.false;
      turns = sym c.is_calm.ensures ∙ c.if-not-is_calm.false;
      address = c.if-v-ge-LAST.false;
      sized = c.if-image-ne-BYTES.false;
      fused = c.if-fuses-gt7.false;
    }

pub returns : goal.returns
unfolding walk_of walks
returns c =
    rw (
      c.comes_to.ensures,
      eq-eqb _ 1 c.if-levels-ne1.false,
      sym c.is_calm.ensures ∙ c.if-not-is_calm.false,
      lt-ltb _ 1519 c.if-v-ge-LAST.false,
      eq-eqb _ bytes c.if-image-ne-BYTES.false,
      le-leb _ 7 c.if-fuses-gt7.false,
    )
