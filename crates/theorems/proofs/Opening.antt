-- Demand 2: "the maker's steps for showing a code and using a try that is still there open the card and restore its counter word if the
-- code is right. If it is wrong they spend exactly one try and the card stays shut."
use Prim.Native.Nat.{ℕ, ◌+◌, ◌*◌, ◌≤◌, ◌<◌}
use native.Mathlib.Omega.{arith}
use mathlib.Core.Path.{◌≡◌, refl, sym, ap, ◌∙◌}
use mathlib.Core.Bool.{Bool, true, false, cond, or-true}
use mathlib.Core.List.{◌++◌}
use lib.ListN.{length}
use borrow.Author.Tests.{le-ltb, ne_eqb, eq-eqb}
use Rattle.memory.specs.Image.{digit, written, erased_word}
use Rattle.memory.proofs.Laws.{bit_written_lem}
use Rattle.rules.specs.Halves.{Volatile, Card}
use Rattle.rules.specs.Lines.{CLK, place, high}
use Rattle.rules.specs.Zones.{between}
use Rattle.rules.specs.Refusals.{made_up, state_refusal, run_refusal}
use Rattle.rules.specs.Steps.{with_volatile}
use Rattle.rules.specs.Card.{checked_run}
use Rattle.rules.specs.Maker.{idle, reset, walk, digits, show_bits, program, zeros_before, open_card, act_refusal, open_refusal}
use Rattle.rules.specs.Demands.{Idle, attempts, first_try, shown}
use Rattle.rules.specs.Demands.{TryIsFound, RightCodeOpens, WrongCodeSpendsOneTry, OpensAsMade}
use Rattle.theorems.proofs.Between.{bounds, under, over}
use Rattle.theorems.proofs.CodeMatch.{shown_match, right_matches, wrong_fails}
use Rattle.theorems.proofs.MakerLaws.{length_open}
use Rattle.theorems.proofs.Macros.{Leads, then, Reaches, leads_run, on, ready, resets, walks, shows}
use Rattle.theorems.proofs.Counter.{uses_try, first_try_lem, try_there, erased_after_write, word_restored}

clk_low : (fus : Bool) → high CLK (idle fus) ≡ false
unfolding high digit place idle
clk_low true = refl
clk_low false = refl

-- With CLK low 9 lets pass no latch and no programming.
at_rest : (fus : Bool) (v : Volatile) → v.lines ≡ idle fus → made_up v ≡ false → (v.latch ≡ false) × (v.programming ≡ false)
unfolding made_up
at_rest fus v lines sound = (
  clear v.latch (λ e. simp (made_up, lines, clk_low fus, e, or-true)),
  clear v.programming (λ e. simp (made_up, lines, clk_low fus, e, or-true)),
)
  where
    clear : (x : Bool) → (x ≡ true → made_up v ≡ true) → x ≡ false
    clear false set = refl
    clear true set = sym (set refl) ∙ sound

-- "a powered, idle, unopened card", told by its fields.
idle_card : (fus : Bool) (c : Card) → Idle fus c →
    let v = c.volatile in
    c ≡ on c (idle fus) false false c.memory v.address false v.e1 v.matched
idle_card fus c i =
    let rest = at_rest fus c.volatile i.lines i.sound in
    λ j.
    with_volatile c
    (record {
      lines = i.lines j;
      address = c.volatile.address;
      sv = i.unopened j;
      p1 = c.volatile.p1;
      r1 = c.volatile.r1;
      e1 = c.volatile.e1;
      matched = c.volatile.matched;
      latch = rest.0 j;
      programming = rest.1 j;
    })

-- The card after the maker's steps, t being whether the code matched.
abbrev used : (fus t : Bool) → Card → Card
used fus t c =
    let m = c.memory in
    let w = first_try c in
    ready c fus true (cond t (erased_word (written m w) w) (written m w)) w t t

opening_steps : (fus : Bool) (code : ℕ) (c : Card) → Idle fus c → first_try c < 104 →
    Leads c
    (reset fus ++
    (walk fus 80 ++
    (show_bits fus (digits 16 code) ++ (walk fus (zeros_before 8 (attempts c)) ++ (program fus false ++ program fus true)))))
    (used fus (shown_match c.memory 80 (digits 16 code) false) c)
unfolding digits
opening_steps fus code c i left =
    let m = c.memory in
    let v = c.volatile in
    let k = zeros_before 8 (attempts c) in
    let matched = shown_match m 80 (digits 16 code) false in
    let before : (x : ℕ) → 0 ≤ x → x < 80 → between 80 95 x ≡ false = λ x _ high. under 80 95 x high in
    let after : (x : ℕ) → 96 ≤ x → x < 96 + k → between 80 95 x ≡ false = λ x low _. over 80 95 x low in
    rw (idle_card fus c i)
    (then (resets c fus m v.address false v.e1 v.matched)
    (then (walks c fus m 80 0 false (omega arith) before)
    (then (shows c fus true m (digits 16 code) 80 false (omega arith))
    (then (walks c fus m k 96 matched (omega arith) after)
    (uses_try c fus m (96 + k) matched (omega arith) (omega arith) (first_try_lem m (omega arith)))))))

reaches : (fus : Bool) (code : ℕ) (c : Card) → Idle fus c → first_try c < 104 →
    Reaches (shown fus code c) (used fus (shown_match c.memory 80 (digits 16 code) false) c)
unfolding open_card
reaches fus code c i left = leads_run (opening_steps fus code c i left)

pub try_is_found : TryIsFound
try_is_found c a inside one = let w = bounds 96 103 a inside in try_there c.memory a w.0 w.1 one

pub right_code_opens : RightCodeOpens
right_code_opens fus code c i left right =
    let m = c.memory in
    let r : Reaches (shown fus code c) (used fus true c) = rw (right_matches code c right) at (reaches fus code c i left) in
    let memory : (shown fus code c).card.memory ≡ erased_word m 96 =
    rw r.card (erased_after_write m (zeros_before 8 (attempts c)) (omega arith))
    in
    record {
      accepted = r.accepted;
      opened = ap (λ (x : Card). x.volatile.sv) r.card;
      memory = memory;
      restored = λ a. rw memory (word_restored m a i.sized);
      fuses = ap (λ (x : Card). x.fuses) r.card;
    }

pub wrong_code_spends_one_try : WrongCodeSpendsOneTry
wrong_code_spends_one_try fus code c i left wrong =
    let m = c.memory in
    let w = first_try c in
    let r : Reaches (shown fus code c) (used fus false c) = rw (wrong_fails code c wrong) at (reaches fus code c i left) in
    let memory : (shown fus code c).card.memory ≡ written m w = ap (λ (x : Card). x.memory) r.card in
    record {
      accepted = r.accepted;
      shut = ap (λ (x : Card). x.volatile.sv) r.card;
      was = first_try_lem m (omega arith);
      spent = rw (memory, bit_written_lem m w w, eq-eqb w w refl);
      kept = λ a other. rw (memory, bit_written_lem m w a, ne_eqb w a (λ e. other (sym e)));
      memory = memory;
      fuses = ap (λ (x : Card). x.fuses) r.card;
    }

-- With room for the steps and their answers, the maker gives them and none of 10, 14, 9, 18 and 19 comes.
pub opens_as_made : OpensAsMade
unfolding act_refusal open_refusal checked_run run_refusal state_refusal
opens_as_made fus code c room i left enough =
    let k = zeros_before 8 (attempts c) in
    let steps = length_open fus code (attempts c) in
    let fits = le-ltb room (223 + 2 * k) enough in (
      rw (ne_eqb k 8 (omega arith), steps, fits),
      rw (
        eq-eqb (length c.memory) 174 i.sized,
        le-ltb 7 c.fuses i.fused,
        i.sound,
        steps,
        le-ltb 4096 (223 + 2 * k) (omega arith),
        fits,
      ),
    )
