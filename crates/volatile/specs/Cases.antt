-- The packed half at some words, and what the edges make of it. `proofs.AgainstCases` computes it from the definitions.
--
-- Levels are sums as in 01: VCC 1, RST 2, CLK 4, PGM 8, I/O 16, FUS 32. The flags of a packed half are sums too: SV 1, P1 2, R1 4,
-- programming 8, latch 16, E1 32, match 64.
use Rattle.std.specs.Prelude.{ℕ, ◌+◌, ◌≡◌, true, false, List, [], ◌∷◌, map, set}
use Rattle.rules.specs.declared.Operation.TheVariants.{Nothing, WriteBit, EraseWord, EraseZone, BlowISS}
use Rattle.rules.specs.Programming.{may_program_now, operation_now}
use Rattle.rules.specs.CaseForms.{none, SV, P1, R1, E1, Match, Latch, Programming, state, card_at, ones, sample}
use Rattle.volatile.specs.declared.Volatile.{Volatile}
use Rattle.volatile.specs.Packed.{unpacked, packed, given, card_of, handed_back, with_half, made_up_word, wired, plainly_sound}
use Rattle.volatile.specs.Packed.{programmed_half, compared_here, gone_on, arrival_flags, opening_flags}

-- Of what stands left in each row f makes what stands right.
abbrev pub Gives : {A B : Type 0} → (A → B) → List (A × B) → Type 0
Gives f rows = map (λ r. f r.0) rows ≡ map (λ r. r.1) rows

-- A packed half of these levels, address and flags.
abbrev pub half : ℕ → ℕ → ℕ → Volatile
half levels a flags = record { lines = levels; address = a; flags = flags }

-- "flags SV, P1, R1, E1, one match flag, the latched data, and whether programming is under way": each alone in its place, there and back.
abbrev pub FlagsApart : Type 0
FlagsApart =
    Gives (λ flags. unpacked (half 21 85 flags))
    ((0, state 21 85 none) ∷
    (1, state 21 85 SV) ∷
    (2, state 21 85 P1) ∷
    (4, state 21 85 R1) ∷
    (8, state 21 85 Programming) ∷
    (16, state 21 85 Latch) ∷
    (32, state 21 85 E1) ∷
    (64, state 21 85 Match) ∷
    []) ×
    Gives (λ holding. packed (state 21 85 holding))
    ((none, half 21 85 0) ∷
    (SV, half 21 85 1) ∷
    (P1, half 21 85 2) ∷
    (R1, half 21 85 4) ∷
    (Programming, half 21 85 8) ∷
    (Latch, half 21 85 16) ∷
    (E1, half 21 85 32) ∷
    (Match, half 21 85 64) ∷
    []) ×
    (card_of (given sample 5 (half 21 85 65)) ≡ card_at 21 5 sample 85 (SV + Match)) ×
    (handed_back (card_at 21 5 sample 85 (SV + Match)) ≡ given sample 5 (half 21 85 65)) ×
    -- The same card with another half.
    (with_half (given sample 5 (half 21 85 65)) (half 17 86 1) ≡ given sample 5 (half 17 86 1))

-- 9: a word over 127 is made up; up to there 01's clauses decide.
abbrev pub MadeUp : Type 0
MadeUp =
    Gives (λ flags. made_up_word (half 21 1240 flags)) ((127, false) ∷ (128, true) ∷ (255, true) ∷ []) ×
    -- "match outside 81 to 103", "E1 outside 1232 to 1519"
    Gives (λ a. made_up_word (half 17 a 64)) ((80, true) ∷ (81, false) ∷ []) ×
    Gives (λ a. made_up_word (half 17 a 32)) ((1231, true) ∷ (1232, false) ∷ []) ×
    -- "latch set with CLK low; programming with CLK low; VCC, CLK and PGM high without programming"
    Gives (λ flags. made_up_word (half 25 0 flags)) ((7, false) ∷ (8, true) ∷ (16, true) ∷ []) ×
    Gives (λ flags. made_up_word (half 29 0 flags)) ((7, true) ∷ (8, false) ∷ (16, true) ∷ (24, false) ∷ [])

-- 9's short cut, with VCC on and neither match nor E1. The levels are VCC, and it with CLK, PGM and both.
abbrev pub PlainlySoundRows : Type 0
PlainlySoundRows =
    Gives (λ levels. wired levels 0) ((1, true) ∷ (5, true) ∷ (9, true) ∷ (13, false) ∷ []) ×
    Gives (λ levels. wired levels 8) ((1, false) ∷ (5, true) ∷ (9, false) ∷ (13, true) ∷ []) ×
    Gives (λ levels. wired levels 16) ((1, false) ∷ (5, true) ∷ (9, false) ∷ (13, false) ∷ []) ×
    Gives (λ levels. wired levels 24) ((1, false) ∷ (5, true) ∷ (9, false) ∷ (13, true) ∷ []) ×
    Gives (λ levels. plainly_sound (half levels 0 24)) ((62, false) ∷ (63, true) ∷ (69, false) ∷ []) ×
    Gives (λ a. plainly_sound (half 17 a 7)) ((1519, true) ∷ (1520, false) ∷ []) ×
    Gives (λ flags. plainly_sound (half 21 1240 flags)) ((31, true) ∷ (32, false) ∷ (64, false) ∷ [])

-- 01, "Opening" and "Key": SV or E1 come of a write that turned a 1 into 0 while match held; programming ends, all else stays.
abbrev pub Programmed : Type 0
Programmed =
    -- At level 2 with EC_EN unblown, and where it is otherwise.
    Gives (λ a. opening_flags a false true true)
    ((95, 0) ∷ (96, 1) ∷ (103, 1) ∷ (104, 0) ∷ (1231, 0) ∷ (1232, 32) ∷ (1359, 32) ∷ (1360, 0) ∷ []) ×
    Gives (λ a. opening_flags a true true true) ((96, 1) ∷ (1240, 0) ∷ []) ×
    Gives (λ a. opening_flags a false false true) ((96, 1) ∷ (1240, 0) ∷ []) ×
    Gives (λ a. opening_flags a false true false) ((96, 0) ∷ (1240, 0) ∷ []) ×
    Gives (λ a. programmed_half false true true 17 (state 5 a (Match + Programming)))
    ((95, state 17 95 Match) ∷
    (96, state 17 96 (SV + Match)) ∷
    (103, state 17 103 (SV + Match)) ∷
    (104, state 17 104 Match) ∷
    (1231, state 17 1231 Match) ∷
    (1232, state 17 1232 (E1 + Match)) ∷
    (1359, state 17 1359 (E1 + Match)) ∷
    (1360, state 17 1360 Match) ∷
    []) ×
    Gives (λ a. programmed_half true true true 17 (state 5 a (Match + Programming)))
    ((96, state 17 96 (SV + Match)) ∷ (1240, state 17 1240 Match) ∷ []) ×
    Gives (λ a. programmed_half false false true 17 (state 5 a (Match + Programming)))
    ((96, state 17 96 (SV + Match)) ∷ (1240, state 17 1240 Match) ∷ []) ×
    -- Nothing turned, and no match.
    Gives (λ a. programmed_half false true false 17 (state 5 a (Match + Programming)))
    ((96, state 17 96 Match) ∷ (1240, state 17 1240 Match) ∷ []) ×
    Gives (λ a. programmed_half false true true 17 (state 21 a (P1 + R1 + Latch + Programming)))
    ((96, state 17 96 (P1 + R1)) ∷ (1240, state 17 1240 (P1 + R1)) ∷ []) ×
    Gives (programmed_half false true true 17) ((state 5 500 (SV + E1 + Programming), state 17 500 (SV + E1)) ∷ [])

-- 01, "CLK falls otherwise, RST low": the compare, the move and the arrival. Of `sample` bits 80 and 85 are 1, bit 1200 is 0.
abbrev pub Moved : Type 0
Moved =
    Gives (compared_here sample false)
    ((state 21 80 Latch, true) ∷
    (state 5 80 none, false) ∷
    (state 21 85 (Match + Latch), true) ∷
    (state 21 85 Latch, false) ∷
    (state 21 85 (SV + Match + Latch), false) ∷
    (state 21 100 (SV + Match), true) ∷
    (state 5 1200 SV, true) ∷
    []) ×
    Gives (compared_here sample true) ((state 21 80 Latch, true) ∷ (state 5 1200 none, false) ∷ []) ×
    Gives (gone_on 17 97)
    ((state 21 96 (SV + R1 + Match + Latch), state 17 97 (SV + R1 + Match)) ∷
    (state 21 96 (P1 + E1 + Programming), state 17 97 (P1 + E1)) ∷
    []) ×
    Gives (λ a. arrival_flags ones 5 a true) ((175, 0) ∷ (176, 2) ∷ (177, 4) ∷ (178, 0) ∷ (1231, 0) ∷ (1232, 32) ∷ (1233, 0) ∷ []) ×
    Gives (λ a. arrival_flags (set ones 22 0x7f) 7 a true) ((176, 0) ∷ (177, 4) ∷ (1232, 0) ∷ []) ×
    Gives (λ a. arrival_flags (set ones 22 0xbf) 7 a true) ((176, 2) ∷ (177, 0) ∷ []) ×
    Gives (λ a. arrival_flags ones 5 a false) ((1232, 0) ∷ [])

-- 01, "CLK falls in programming: the operation takes effect under the flags and lines of that moment".
abbrev pub Operates : Type 0
Operates =
    -- A write and an erase in SCAC, and the erase with SV; the write with RST high.
    Gives (operation_now 7)
    ((state 5 96 Programming, WriteBit) ∷
    (state 21 96 (Latch + Programming), Nothing) ∷
    (state 21 96 (SV + Latch + Programming), EraseWord) ∷
    (state 7 96 Programming, Nothing) ∷
    []) ×
    Gives (may_program_now 7)
    ((state 5 96 Programming, true) ∷
    (state 21 96 (Latch + Programming), false) ∷
    (state 21 96 (SV + Latch + Programming), true) ∷
    (state 7 96 Programming, false) ∷
    []) ×
    -- The erase in EC at level 2 with EC_EN blown at 1232; past it with EC_EN unblown and blown; and a write that blows ISS.
    Gives (operation_now 5) ((state 21 1232 (SV + E1 + Latch + Programming), EraseZone) ∷ []) ×
    Gives (may_program_now 5) ((state 21 1232 (SV + E1 + Latch + Programming), true) ∷ []) ×
    Gives (λ fuses. operation_now fuses (state 21 1233 (SV + E1 + Latch + Programming))) ((7, EraseZone) ∷ (5, Nothing) ∷ []) ×
    Gives (λ fuses. may_program_now fuses (state 21 1233 (SV + E1 + Latch + Programming))) ((7, true) ∷ (5, false) ∷ []) ×
    Gives (λ fuses. operation_now fuses (state 7 1504 (SV + Programming))) ((7, BlowISS) ∷ (3, Nothing) ∷ []) ×
    Gives (λ fuses. may_program_now fuses (state 7 1504 (SV + Programming))) ((7, true) ∷ (3, false) ∷ [])
