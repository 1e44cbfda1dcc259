-- A line gives no fuse byte over 7.
use Prim.Native.Nat.{ℕ, ◌≤◌}
use mathlib.Core.Path.{◌≡◌, refl}
use mathlib.Core.Bool.{Bool, true, false, cond}
use mathlib.Core.List.{List}
use native.Mathlib.Omega.{arith}
use borrow.Author.Tests.{ltb-false}
use lib.Dec.{ltb}
use Rattle.std.specs.Prelude.{Option, Some, None, Result, Ok, Err}
use Rattle.text_lines.specs.Orders.{beyond, all_unblown}
use Rattle.text_lines.specs.Orders.{alone, either, named, with_number, walk_order, lines_order, fuses_order, show_order, open_order}
use Rattle.text_lines.specs.Orders.{numbered, bytes_order, byte_order, zone_order, order_of, words_order, line_order}
use Rattle.text_lines.specs.declared.Change.TheVariants.{Fill, Bytes, Fuses}
use Rattle.text_lines.specs.declared.Order.{Order}
use Rattle.text_lines.specs.declared.Order.TheVariants.{Nothing, Image, Drive}

-- The fuse byte that a line gives, 0 where it gives none.
abbrev pub given : Result Order ℕ → ℕ
given (Ok Nothing) = 0
given (Ok (Image (Fill first count v))) = 0
given (Ok (Image (Bytes first count x))) = 0
given (Ok (Image (Fuses n))) = n
given (Ok (Drive act)) = 0
given (Err k) = 0

pub record Fitting (o : Result Order ℕ) : Type 0 where
  pub fuses : given o ≤ all_unblown

both : (t : Bool) (x y : Result Order ℕ) → Fitting x → Fitting y → Fitting (cond t x y)
both true x y p q = p
both false x y p q = q

each : (m : Option ℕ) (f : ℕ → Result Order ℕ) → ((n : ℕ) → Fitting (f n)) → Fitting (with_number m f)
unfolding with_number
each (Some n) f p = p n
each None f p = record { fuses = omega arith }

none : {o : Result Order ℕ} → given o ≡ 0 → Fitting o
none e = record { fuses = omega (arith, e) }

-- A fuse byte over 7 is wrong.
small : (n : ℕ) → Fitting (cond (ltb all_unblown n) (Err beyond) (Ok (Image (Fuses n))))
small n = go (ltb all_unblown n) refl
  where
    go : (t : Bool) → ltb all_unblown n ≡ t → Fitting (cond t (Err beyond) (Ok (Image (Fuses n))))
    go true e = none refl
    go false e = record { fuses = ltb-false all_unblown n e }

ruleset fits = (small, both, each, none)

order_fits : (verb count : ℕ) (object value : List ℕ) → Fitting (order_of verb count object value)
unfolding order_of alone named either numbered walk_order lines_order fuses_order show_order open_order byte_order zone_order bytes_order
order_fits verb count object value = search fits depth 15

pub line_fits : (line : List ℕ) → Fitting (line_order line)
unfolding line_order words_order
line_fits line = order_fits _ _ _ _
