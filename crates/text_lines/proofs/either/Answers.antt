use Rattle.std.proofs.Common.{◌≡◌, rules, refl, ap, eq-eqb}
use Rattle.words.specs.Names.{row, row_of, row_in}
use Rattle.words.proofs.Rows.{apart}
use Rattle.text_lines.specs.Faults.{number, numbered}
use Rattle.text_lines.specs.Orders.{either}
use Rattle.text_lines.proofs.either.Goals as goal

pub returns-then-eq-2 : goal.returns-then-eq-2
unfolding either numbered row_in
returns-then-eq-2 c =
    let at : row_of c.args.object.now ≡ row c.in_ok-name.name = search rules in
    let that : c.in_ok-name.name ≡ c.args.that.0 = search rules in
    rw (at, apart _ _ (λ (this : c.in_ok-name.name ≡ c.args.this.0). search rules), eq-eqb _ _ (ap row that)) refl

pub returns : goal.returns
unfolding either number numbered row_in
returns c =
    let at : row_of c.args.object.now ≡ row c.in_ok-name.name = search rules in
    rw (
      at,
      apart _ _ (λ (this : c.in_ok-name.name ≡ c.args.this.0). search rules),
      apart _ _ (λ (that : c.in_ok-name.name ≡ c.args.that.0). search rules),
    )
    refl
