-- The user's demands as statements about the definitions of a checked step, a checked run and the maker's lists, each proved under its own
-- name. Of demand 1, that every call gets an answer and an end, and of demand 2 the first sentence are the contracts of step and run
-- themselves (`StepAnswered`, `RunAnswered` of the crate card), which hold for every input; that they give what the checked step and run
-- give is proved there too (`AsDefined`), for a half whose word has none but a card's flags. With another flag there, 9.
use Rattle.std.specs.Prelude.{ℕ, zero, suc, ◌+◌, ◌*◌, ◌<◌, ◌≤◌, ◌≡◌, Bool, true, false, cond, ◌||◌, List, [], ◌∷◌, eqb, length, get_or, take, Result}
use Rattle.memory.specs.Image.{bytes, bit, written, erased_word}
use Rattle.rules.specs.Halves.{Card, off, fresh}
use Rattle.rules.specs.Lines.{VCC, high}
use Rattle.rules.specs.Zones.{between}
use Rattle.rules.specs.Refusals.{refusal, made_up, state_refusal, run_refusal}
use Rattle.rules.specs.Steps.{next}
use Rattle.rules.specs.Card.{refusal_in, Ran, checked_step, checked_answer, run, checked_run}
use Rattle.rules.specs.Maker.{idle, digits, zeros_before, open_card, act_refusal, open_refusal}

-- Demand 1: "A waveform without a meaning is refused by its number in document 01; card, lines and lent buffers then hold what they held
-- after the last accepted step."

abbrev pub RefusedStepKeepsAll : Type 0
RefusedStepKeepsAll = (c : Card) (n : ℕ) → (refusal_in (checked_answer c n) ≡ 0 → ⊥) → checked_step c n ≡ c

-- The steps that were done.
abbrev pub done : Ran → ℕ
done r = length r.answers

-- The result of a run of ns from c, k being the refusal that it gets before any step. The answers are all that it writes into the buffer.
pub record Stops (c : Card) (ns : List ℕ) (k : ℕ) (r : Ran) : Type 0 where
  pub before : run c (take (done r) ns) ≡ record { card = r.card; answers = r.answers; refused = 0 }
  pub number : (r.refused ≡ 0 → ⊥) → r.refused ≡ cond (eqb k 0) (refusal r.card.volatile (get_or ns (done r) 0)) k
  pub all : r.refused ≡ 0 → done r ≡ length ns

abbrev pub RunStopsAtARefusal : Type 0
RunStopsAtARefusal =
    (c : Card) (ns : List ℕ) (room : ℕ) →
    Stops c ns (run_refusal c (length ns) room) (checked_run c ns room)

-- Demand 2: "After each accepted step the pin, the flags, the fuses and the memory are those of the data sheet, source document 004, as 01
-- settles it." The contracts of step and run say so. 01 adds: "A state that 9 lets pass never leads to one that 9 refuses." With it, an
-- image of 174 bytes and a fuse byte up to 7 stay so.
abbrev pub SoundStaysSound : Type 0
SoundStaysSound =
    (c : Card) (n : ℕ) → state_refusal c ≡ 0 → refusal c.volatile n ≡ 0 → state_refusal (next c n) ≡ 0

-- Demand 2: "On a powered, idle, unopened card, the maker's steps for showing a code and using a try that is still there open the card
-- and restore its counter word if the code is right. If it is wrong they spend exactly one try and the card stays shut."

-- "a powered, idle, unopened card" that 10, 14 and 9 let pass, whatever its address, match and other flags.
pub record Idle (fus : Bool) (c : Card) : Type 0 where
  pub sized : length c.memory ≡ bytes
  pub fused : c.fuses ≤ 7
  pub sound : made_up c.volatile ≡ false
  pub lines : c.volatile.lines ≡ idle fus
  pub unopened : c.volatile.sv ≡ false

-- The byte of bits 96 to 103.
abbrev pub attempts : Card → ℕ
attempts c = get_or c.memory 12 0

-- The first one of bits 96 to 103; it is there where it is below 104.
abbrev pub first_try : Card → ℕ
first_try c = 96 + zeros_before 8 (attempts c)

-- "a try that is still there": a one anywhere in bits 96 to 103.
abbrev pub TryIsFound : Type 0
TryIsFound = (c : Card) (a : ℕ) → between 96 103 a ≡ true → bit c.memory a ≡ true → first_try c < 104

-- The bits a, a + 1, .. of an image, so many of them.
unfoldable pub bits_from : List ℕ → ℕ → ℕ → List Bool
bits_from m a zero = []
bits_from m a (suc n) = bit m a ∷ bits_from m (a + 1) n

-- The code equals bits 80 to 95.
abbrev pub CodeIsRight : ℕ → Card → Type 0
CodeIsRight code c = digits 16 code ≡ bits_from c.memory 80 16

-- The maker's steps for this card and code, run.
abbrev pub shown : Bool → ℕ → Card → Ran
shown fus code c = run c (open_card fus code (attempts c))

-- The code was right: SV is set, all 16 bits of the counter word are ones, and nothing else of memory or fuses has changed.
pub record Opened (c : Card) (r : Ran) : Type 0 where
  pub accepted : r.refused ≡ 0
  pub opened : r.card.volatile.sv ≡ true
  pub memory : r.card.memory ≡ erased_word c.memory 96
  pub restored : (a : ℕ) → bit r.card.memory a ≡ (between 96 111 a || bit c.memory a)
  pub fuses : r.card.fuses ≡ c.fuses

-- The code was wrong: SV is 0, and exactly one bit has changed, the first one of bits 96 to 103 to 0.
pub record Spent (c : Card) (r : Ran) : Type 0 where
  pub accepted : r.refused ≡ 0
  pub shut : r.card.volatile.sv ≡ false
  pub was : bit c.memory (first_try c) ≡ true
  pub spent : bit r.card.memory (first_try c) ≡ false
  pub kept : (a : ℕ) → (a ≡ first_try c → ⊥) → bit r.card.memory a ≡ bit c.memory a
  pub memory : r.card.memory ≡ written c.memory (first_try c)
  pub fuses : r.card.fuses ≡ c.fuses

abbrev pub RightCodeOpens : Type 0
RightCodeOpens =
    (fus : Bool) (code : ℕ) (c : Card) → Idle fus c → first_try c < 104 → CodeIsRight code c → Opened c (shown fus code c)

abbrev pub WrongCodeSpendsOneTry : Type 0
WrongCodeSpendsOneTry =
    (fus : Bool) (code : ℕ) (c : Card) → Idle fus c → first_try c < 104 → (CodeIsRight code c → ⊥) → Spent c (shown fus code c)

-- The steps shown are the ones that the maker gives, and that a run takes: neither refuses them where there is room for 223 + 2k.
abbrev pub OpensAsMade : Type 0
OpensAsMade =
    (fus : Bool) (code : ℕ) (c : Card) (room : ℕ) → Idle fus c → first_try c < 104 →
    223 + 2 * zeros_before 8 (attempts c) ≤ room →
    (act_refusal (open_refusal (attempts c)) (open_card fus code (attempts c)) room ≡ 0) ×
    (checked_run c (open_card fus code (attempts c)) room ≡ shown fus code c)

-- Demand 3: "Take two cards, switched off with all lines low, alike in fuses and in every bit outside the security code, the erase key
-- and the application zone, bit 177 being zero in both. Give both the same steps. Before the step at which either opens, their pin
-- answers and refusals are equal and those three zones keep every bit."

-- "the security code, the erase key and the application zone"
unfoldable pub hidden : ℕ → Bool
hidden a = between 80 95 a || (between 176 1199 a || between 1200 1231 a)

-- "switched off with all lines low, .. bit 177 being zero", and let pass by 10 and 14
pub record Concealed (c : Card) : Type 0 where
  pub sized : length c.memory ≡ bytes
  pub fused : c.fuses ≤ 7
  pub off : c.volatile ≡ fresh
  pub unreadable : bit c.memory 177 ≡ false

-- "alike in fuses and in every bit outside" those zones
pub record Alike (c c' : Card) : Type 0 where
  pub concealed : Concealed c
  pub concealed' : Concealed c'
  pub fuses : c.fuses ≡ c'.fuses
  pub outside : (a : ℕ) → hidden a ≡ false → bit c.memory a ≡ bit c'.memory a

-- A card that is switched off with all lines low.
abbrev pub fresh_card : List ℕ → ℕ → Card
fresh_card m fuses = record { memory = m; fuses = fuses; volatile = fresh }

-- The card after a list of steps. A refused step changes nothing, and the next one is tried.
unfoldable pub after : Card → List ℕ → Card
after c [] = c
after c (n ∷ ns) = after (checked_step c n) ns

-- What each of the steps got: the pin's answer or the refusal.
unfoldable pub answers : Card → List ℕ → List (Result ℕ ℕ)
answers c [] = []
answers c (n ∷ ns) = checked_answer c n ∷ answers (checked_step c n) ns

-- The card has not opened by the end of any first part of the list: the list is one before the step at which it opens.
unfoldable pub Unopened : Card → List ℕ → Type 0
Unopened c ns = (k : ℕ) → (after c (take k ns)).volatile.sv ≡ false

-- The three zones of the second card hold every bit that they hold in the first.
abbrev pub ZonesKept : Card → Card → Type 0
ZonesKept c d = (a : ℕ) → hidden a ≡ true → bit d.memory a ≡ bit c.memory a

pub record Indistinguishable (c c' : Card) (ns : List ℕ) : Type 0 where
  pub same : answers c ns ≡ answers c' ns
  pub kept : ZonesKept c (after c ns)
  pub kept' : ZonesKept c' (after c' ns)

abbrev pub HiddenBeforeOpening : Type 0
HiddenBeforeOpening =
    (c c' : Card) (ns : List ℕ) → Alike c c' → Unopened c ns → Unopened c' ns → Indistinguishable c c' ns

-- The same of a checked run.
unfoldable pub UnopenedRun : Card → List ℕ → ℕ → Type 0
UnopenedRun c ns room = (k : ℕ) → (checked_run c (take k ns) room).card.volatile.sv ≡ false

pub record IndistinguishableRuns (c c' : Card) (ns : List ℕ) (room : ℕ) : Type 0 where
  pub same : (checked_run c ns room).answers ≡ (checked_run c' ns room).answers
  pub refused : (checked_run c ns room).refused ≡ (checked_run c' ns room).refused
  pub kept : ZonesKept c (checked_run c ns room).card
  pub kept' : ZonesKept c' (checked_run c' ns room).card

abbrev pub HiddenInARun : Type 0
HiddenInARun =
    (c c' : Card) (ns : List ℕ) (room : ℕ) → Alike c c' → UnopenedRun c ns room → UnopenedRun c' ns room →
    IndistinguishableRuns c c' ns room

-- "A card that is switched off with no try left never opens, whatever steps and power cuts follow."
pub record NoTryLeft (c : Card) (levels : ℕ) : Type 0 where
  pub sized : length c.memory ≡ bytes
  pub fused : c.fuses ≤ 7
  pub off : c.volatile ≡ off levels
  pub unpowered : high VCC levels ≡ false
  pub sound : made_up c.volatile ≡ false
  pub spent : (a : ℕ) → between 96 103 a ≡ true → bit c.memory a ≡ false

abbrev pub ShutForGood : Type 0
ShutForGood = (c : Card) (levels : ℕ) (ns : List ℕ) → NoTryLeft c levels → (after c ns).volatile.sv ≡ false

abbrev pub ShutInARun : Type 0
ShutInARun =
    (c : Card) (levels : ℕ) (ns : List ℕ) (room : ℕ) → NoTryLeft c levels → (checked_run c ns room).card.volatile.sv ≡ false
