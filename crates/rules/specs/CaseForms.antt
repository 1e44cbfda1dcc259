-- What a case of the table is made of, and when it holds. The cases are in `specs.Cases`.
use Rattle.std.specs.Prelude.{ℕ, ◌+◌, ◌-◌, ◌/◌, ◌%◌, Bool, true, false, cond, ◌&&◌, List, [], ◌∷◌, ◌++◌, eqb, length, take, drop, replicate, set, Result, Ok, Err}
use Rattle.std.specs.Bool.{beq}
use Rattle.std.specs.Int.Count.{ones_in}
use Rattle.memory.specs.Image.{digit, bytes}
use Rattle.rules.specs.Halves.{Volatile, Card, fresh}
use Rattle.rules.specs.declared.Reason.{Reason}
use Rattle.rules.specs.Refusals.{state_refusal}
use Rattle.rules.specs.Reason.{number, reason}
use Rattle.rules.specs.Card.{checked_step, checked_answer, checked_run, refusal_in, flags_refusal, tries_left}
use Rattle.rules.specs.File.{memory_section, fuse_section, step_section, card_refusal, session_refusal}
use Rattle.rules.specs.Maker.{idle, walk, show_bits, program, blow, act_refusal}
use Rattle.rules.specs.Computing.{the_card}

-- The pin's answers: a stored 0, a stored 1, and the line released.
abbrev pub zero : ℕ
zero = 0

abbrev pub one : ℕ
one = 1

abbrev pub released : ℕ
released = 1

-- What stands in an answer's place beside a refusal, where a byte is needed.
abbrev pub no_answer : ℕ
no_answer = 1

-- What a volatile half holds besides lines and address: a sum of these, which are the masks of the packed half's word.
abbrev pub none : ℕ
none = 0

abbrev pub SV : ℕ
SV = 1

abbrev pub P1 : ℕ
P1 = 2

abbrev pub R1 : ℕ
R1 = 4

abbrev pub Programming : ℕ
Programming = 8

abbrev pub Latch : ℕ
Latch = 16

abbrev pub E1 : ℕ
E1 = 32

abbrev pub Match : ℕ
Match = 64

-- A volatile half at these levels and this address, holding such a sum.
unfoldable pub state : ℕ → ℕ → ℕ → Volatile
unfolding digit
state levels a holding =
    record {
      lines = levels;
      address = a;
      sv = digit 0 holding;
      p1 = digit 1 holding;
      r1 = digit 2 holding;
      e1 = digit 5 holding;
      matched = digit 6 holding;
      latch = digit 4 holding;
      programming = digit 3 holding;
    }

-- A card of these fuses and this image, at these levels and this address.
unfoldable pub card_at : ℕ → ℕ → List ℕ → ℕ → ℕ → Card
unfolding state
card_at levels fuses m a holding = record { memory = m; fuses = fuses; volatile = state levels a holding }

-- FUS, for the maker's idle lines: with ISS unblown, high is level 1 and low level 2.
abbrev pub L1 : Bool
L1 = true

abbrev pub L2 : Bool
L2 = false

-- A card of this image and these fuses, idle at this address.
unfoldable pub idle_at : Bool → ℕ → List ℕ → ℕ → ℕ → Card
unfolding card_at idle
idle_at fus = card_at (idle fus)

unfoldable pub ones : List ℕ
ones = replicate bytes 255

unfoldable pub zeros : List ℕ
zeros = replicate bytes 0

-- An image by its runs of equal bytes: of so many, each this.
unfoldable pub image : List (ℕ × ℕ) → List ℕ
image [] = []
image (r ∷ rs) = replicate r.0 r.1 ++ image rs

-- A code and a key.
abbrev pub code : ℕ
code = 0xa53c

abbrev pub key : ℕ
key = 0x5a6996f0

-- Ones but for bit 0, the code in bits 80 to 95 and the key in bits 1200 to 1231.
unfoldable pub sample : List ℕ
unfolding ones
sample = set (set (set (set (set (set (set ones 0 127) 10 0xa5) 11 0x3c) 150 0x5a) 151 0x69) 152 0x96) 153 0xf0

-- A card file and a session, laid out as 01 says.
unfoldable pub card_file : List ℕ → ℕ → List ℕ
card_file m fuses = 174 ∷ 0 ∷ (m ++ (1 ∷ 0 ∷ fuses ∷ []))

unfoldable pub session : List ℕ → ℕ → List ℕ → List ℕ
unfolding card_file
session m fuses steps = card_file m fuses ++ (length steps % 256 ∷ length steps / 256 ∷ steps)

pub data Case : Type 0 where
  -- Of this card these steps, all accepted, make that card, and these are the last of their answers.
  Runs : Card → List ℕ → Card → List ℕ → Case
  -- Of this card these steps, with room for so many answers, get this refusal before anything is done.
  Refuses : Card → List ℕ → ℕ → ℕ → Case
  -- At each of these addresses the pin of a card so held says this.
  Shows : Bool → ℕ → List ℕ → ℕ → List (ℕ × ℕ) → Case
  -- Of this card this step makes that card and gets this answer, alone and in a run.
  Step : Card → ℕ → Card → Result ℕ ℕ → Case
  -- The state check gives this refusal, 0 or 9, in an empty run, in a step and to the call that reads flags.
  Checks : Card → ℕ → Case
  -- Opening this card file, or this session, into a buffer of this length gets this refusal, 0 if it opens.
  OpensCard : List ℕ → ℕ → ℕ → Case
  OpensSession : List ℕ → ℕ → ℕ → Case
  -- An act with this refusal of its own and these steps takes this much room, and less gets 22.
  Takes : ℕ → List ℕ → ℕ → Case
  -- Without any room it gets this refusal.
  Unmade : ℕ → List ℕ → ℕ → Case
  -- Running this session prints "steps done and given, refusal (0 if none), the answers without spaces, ones left in bits 96 to 103".
  Prints : List ℕ → ℕ → ℕ → ℕ → List ℕ → ℕ → Case
  -- A card that 10, 14 and 9 let pass has this reason.
  Tells : Card → Reason → Case
  -- A claim over many cards at once, computed.
  Claims : Bool → Case

unfoldable pub same_bytes : List ℕ → List ℕ → Bool
same_bytes [] [] = true
same_bytes [] (y ∷ ys) = false
same_bytes (x ∷ xs) [] = false
same_bytes (x ∷ xs) (y ∷ ys) = eqb x y && same_bytes xs ys

unfoldable pub same_half : Volatile → Volatile → Bool
same_half v w =
    eqb v.lines w.lines &&
    (eqb v.address w.address &&
    (beq v.sv w.sv &&
    (beq v.p1 w.p1 &&
    (beq v.r1 w.r1 &&
    (beq v.e1 w.e1 &&
    (beq v.matched w.matched &&
    (beq v.latch w.latch && beq v.programming w.programming)))))))

unfoldable pub same_card : Card → Card → Bool
unfolding same_half same_bytes
same_card c d =
    same_half c.volatile d.volatile && (eqb c.fuses d.fuses && same_bytes c.memory d.memory)

-- The last answers of a run are these.
unfoldable pub ends_in : List ℕ → List ℕ → Bool
unfolding same_bytes
ends_in all these = same_bytes (drop (length all - length these) all) these

unfoldable pub shows : Bool → ℕ → List ℕ → ℕ → List (ℕ × ℕ) → Bool
unfolding the_card idle_at
shows fus fuses m holding [] = true
shows fus fuses m holding (p ∷ ps) =
    same_bytes (checked_run (idle_at fus fuses m p.0 holding) (idle fus ∷ []) 1).answers (p.1 ∷ []) &&
    shows fus fuses m holding ps

unfoldable pub same_answer : Result ℕ ℕ → Result ℕ ℕ → Bool
same_answer (Ok a) (Ok b) = eqb a b
same_answer (Ok a) (Err k) = false
same_answer (Err j) (Ok b) = false
same_answer (Err j) (Err k) = eqb j k

-- What an answer leaves in a run's answers.
unfoldable pub pins : Result ℕ ℕ → List ℕ
pins (Ok b) = b ∷ []
pins (Err k) = []

-- When a case holds. The runs and steps are checked ones: a start that 10, 14 or 9 refuses holds only in a case that says so.
unfoldable pub holds : Case → Bool
unfolding the_card same_card ends_in shows same_answer pins refusal_in flags_refusal act_refusal tries_left ones_in memory_section fuse_section step_section card_refusal session_refusal reason
holds (Runs c ns d answers) =
    let r = checked_run c ns (length ns) in
    eqb r.refused 0 && (same_card r.card d && ends_in r.answers answers)
holds (Refuses c ns room k) =
    let r = checked_run c ns room in
    eqb r.refused k && (same_card r.card c && eqb (length r.answers) 0)
holds (Shows fus fuses m holding pins) = shows fus fuses m holding pins
holds (Step c n d x) =
    let r = checked_run c (n ∷ []) 1 in
    same_card (checked_step c n) d &&
    (same_answer (checked_answer c n) x &&
    (same_card r.card d && (eqb r.refused (refusal_in x) && same_bytes r.answers (pins x))))
holds (Checks c k) =
    eqb (checked_run c [] 0).refused k &&
    (eqb (refusal_in (checked_answer c c.volatile.lines)) k && eqb (flags_refusal c.volatile) k)
holds (OpensCard file room k) = eqb (card_refusal file room) k
holds (OpensSession file room k) = eqb (session_refusal file room) k
holds (Takes refused steps room) = eqb (act_refusal refused steps room) 0 && eqb (act_refusal refused steps (room - 1)) 22
holds (Unmade refused steps k) = eqb (act_refusal refused steps 0) k
holds (Prints file done given refused answers left) =
    let c : Card = record { memory = memory_section file; fuses = fuse_section file; volatile = fresh } in
    let r = checked_run c (step_section file) (length (step_section file)) in
    eqb (session_refusal file bytes) 0 &&
    (eqb (length r.answers) done &&
    (eqb (length (step_section file)) given &&
    (eqb r.refused refused && (same_bytes r.answers answers && eqb (tries_left r.card.memory) left))))
holds (Tells c r) = eqb (state_refusal c) 0 && eqb (number (reason c.fuses c.volatile)) (number r)
holds (Claims claim) = claim

unfoldable pub every : List Case → Bool
unfolding holds
every [] = true
every (k ∷ ks) = holds k && every ks

unfoldable pub joined : List (List Case) → List Case
joined [] = []
joined (ks ∷ rest) = ks ++ joined rest

-- Shapes of case. A write, and an erase, of an idle card make this image.
unfoldable pub writes : Bool → ℕ → List ℕ → ℕ → ℕ → List ℕ → Case
unfolding idle_at program
writes fus fuses m a holding after =
    Runs (idle_at fus fuses m a holding) (program fus false) (idle_at fus fuses after a holding) []

unfoldable pub erases : Bool → ℕ → List ℕ → ℕ → ℕ → List ℕ → Case
unfolding idle_at program
erases fus fuses m a holding after =
    Runs (idle_at fus fuses m a holding) (program fus true) (idle_at fus fuses after a holding) []

-- A walk of an idle card leads there, holding this.
unfoldable pub walks : ℕ → Bool → ℕ → List ℕ → ℕ → ℕ → ℕ → ℕ → List ℕ → Case
unfolding idle_at walk
walks n fus fuses m a holding b then answers =
    Runs (idle_at fus fuses m a holding) (walk fus n) (idle_at fus fuses m b then) answers

-- Bits shown to an idle card lead there, holding this.
unfoldable pub compares : List Bool → Bool → ℕ → ℕ → ℕ → ℕ → ℕ → Case
unfolding idle_at show_bits sample
compares bits fus fuses a holding b then =
    Runs (idle_at fus fuses sample a holding) (show_bits fus bits) (idle_at fus fuses sample b then) []

-- A blow, which ends at 0, makes these fuses.
unfoldable pub blows : Bool → ℕ → ℕ → ℕ → ℕ → Case
unfolding idle_at blow sample
blows fus fuses a holding after = Runs (idle_at fus fuses sample a holding) (blow fus) (idle_at fus after sample 0 holding) (zero ∷ [])

-- One step, from these levels to those.
unfoldable pub one_step : ℕ → ℕ → ℕ → ℕ → ℕ → ℕ → ℕ → Case
unfolding card_at sample
one_step levels a holding n b then answer = Step (card_at levels 7 sample a holding) n (card_at n 7 sample b then) (Ok answer)

-- One step that is refused.
unfoldable pub refuses_step : ℕ → ℕ → ℕ → ℕ → ℕ → Case
unfolding card_at sample
refuses_step levels a holding n k = Step (card_at levels 7 sample a holding) n (card_at levels 7 sample a holding) (Err k)

-- A state that 9 refuses, and one that it lets pass.
unfoldable pub made_up_at : ℕ → ℕ → ℕ → Case
unfolding card_at sample
made_up_at levels a holding = Checks (card_at levels 7 sample a holding) 9

unfoldable pub sound_at : ℕ → ℕ → ℕ → Case
unfolding card_at sample
sound_at levels a holding = Checks (card_at levels 7 sample a holding) 0

-- VCC falls in programming: memory and fuses stay, and nothing is left of the volatile half but the lines.
unfoldable pub cuts : ℕ → ℕ → List ℕ → ℕ → ℕ → Case
unfolding card_at
cuts levels fuses m a holding =
    Step (card_at levels fuses m a (holding + Programming)) (levels - 1) (card_at (levels - 1) fuses m 0 none) (Ok released)

-- A step of a card without power that 10, 14 or 9 refuses, alone and in a run, and that 1 or 2 would refuse or let pass.
unfoldable pub unready : ℕ → ℕ → List ℕ → ℕ → ℕ → ℕ → Case
unfolding card_at
unready levels fuses m holding n k =
    Step (card_at levels fuses m 0 holding) n (card_at levels fuses m 0 holding) (Err k)

-- Programming of this kind is under way: a latched 1 erases, 0 writes.
unfoldable pub tells : Bool → ℕ → ℕ → ℕ → ℕ → Reason → Case
unfolding card_at sample
tells erase levels fuses a holding r = Tells (card_at levels fuses sample a (holding + Programming + cond erase Latch 0)) r

-- A file's first bytes, so many: a count, the sample image, a count, a fuse byte, a count, and zeros.
unfoldable pub laid_out : ℕ → ℕ → ℕ → ℕ → ℕ → List ℕ
unfolding sample
laid_out first second fuses third length =
    take length
    (first % 256 ∷
    first / 256 ∷
    (sample ++ (second % 256 ∷ second / 256 ∷ fuses ∷ third % 256 ∷ third / 256 ∷ replicate 300 0)))
