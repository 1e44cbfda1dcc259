-- What a caller knows from the answer: a session fits its buffer.
use Prim.Native.Nat.{ℕ, ◌≤◌}
use mathlib.Core.Path.{◌≡◌, refl, sym, ◌∙◌}
use mathlib.Core.Bool.{Bool, true, false, cond}
use mathlib.Core.List.{List}
use borrow.Author.Tests.{ltb-false}
use lib.Dec.{ltb}
use lib.ListN.{length}
use Rattle.std.specs.Prelude.{Result, Ok, Err}
use Rattle.text.specs.Meaning.{Reading, Whole, Amiss, meaning, session}
use Rattle.text.specs.Assembling.{no_room, too_long, longest_text, wrong, told, answer_to, assembled}
use Rattle.text.specs.declared.Wrong.{Wrong}

answer_fits : (m : Reading) (room n : ℕ) → answer_to m room ≡ Ok n → n ≤ room
unfolding answer_to
answer_fits (Whole s) room n e = go (ltb room (length (session s))) refl e
  where
    go :
        (t : Bool) → ltb room (length (session s)) ≡ t
        → cond t (wrong 0 no_room) (Ok (length (session s))) ≡ Ok n → n ≤ room
    go true z q = cc
    go false z q = let w : n ≡ length (session s) = cc in rw w (ltb-false room (length (session s)) z)
answer_fits (Amiss line k) room n e = cc

fits : (text : List ℕ) (room n : ℕ) → assembled text room ≡ Ok n → n ≤ room
unfolding assembled
fits text room n e = go (ltb longest_text (length text)) e
  where
    go : (t : Bool) → cond t (wrong 0 too_long) (answer_to (meaning text) room) ≡ Ok n → n ≤ room
    go true q = cc
    go false q = answer_fits (meaning text) room n q

pub session_fits : (text : List ℕ) (room n : ℕ) (r : Result ℕ Wrong) → told r ≡ assembled text room → r ≡ Ok n → n ≤ room
unfolding told
session_fits text room n (Ok m) e q = fits text room n (sym e ∙ cc)
session_fits text room n (Err w) e q = cc
