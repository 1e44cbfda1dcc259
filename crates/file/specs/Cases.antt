-- 01, "Card file and session": the results of opening some files, each by the opener's own promise. `proofs.AgainstCases` computes them
-- from the definitions.
use Rattle.std.specs.Prelude.{ℕ, ◌+◌, ◌≡◌, List, [], ◌∷◌, ◌++◌, length, take, replicate, set, Result, Ok, Err}
use Rattle.std.specs.Borrow.{Bor}
use Rattle.rules.specs.CaseForms.{sample, card_file as card_bytes, session as session_bytes}
use Rattle.rules.specs.Numbers.{refused}
use Rattle.file.specs.declared.CardFile.{CardFile}
use Rattle.file.specs.declared.Session.{Session}
use Rattle.file.specs.Opening.{card_fuses, session_fuses, session_steps}
use Rattle.file.specs.Opening.{CardOpened, SessionOpened, Handed}

-- The lent memory buffer, before anything is opened into it.
unfoldable pub buffer : List ℕ
buffer = replicate 174 9

-- A card file, and a session of one step, with these fuses.
unfoldable pub card_with : ℕ → List ℕ
unfolding card_bytes sample
card_with fuses = card_bytes sample fuses

unfoldable pub session_with : ℕ → List ℕ
unfolding session_bytes sample
session_with fuses = session_bytes sample fuses (16 ∷ [])

-- Both kinds of an opener's answer.
abbrev pub card : ℕ → Result CardFile ℕ
card fuses = Ok (record { fuses = fuses })

abbrev pub no_card : ℕ → Result CardFile ℕ
no_card k = Err k

abbrev pub parts : ℕ → ℕ → Result Session ℕ
parts fuses steps = Ok (record { fuses = fuses; steps = steps })

abbrev pub no_parts : ℕ → Result Session ℕ
no_parts k = Err k

-- "Refused: no buffer changes."
abbrev pub CardRefused : List ℕ → List ℕ → ℕ → Type 0
CardRefused file memory k = CardOpened file memory (no_card k) memory

-- "Accepted: the lent buffer holds the memory section, nothing else changes.", and each refusal.
abbrev pub CardsOpen : Type 0
CardsOpen =
    CardOpened (card_with 5) buffer (card 5) sample ×
    CardRefused (card_with 5) (take 173 buffer) 10 ×
    CardRefused (take 178 (card_with 5)) buffer 11 ×
    CardRefused (set (card_with 5) 0 175) buffer 12 ×
    CardRefused (set (card_with 5) 176 2) buffer 13 ×
    CardRefused (card_with 8) buffer 14 ×
    CardRefused (card_with 5 ++ (0 ∷ [])) buffer 17

-- Bytes that lie in block 3 of the caller's memory, from a place on.
unfoldable pub lying_at : ℕ → List ℕ → Bor (List ℕ)
lying_at place bytes = record { ref_ptr = (3, place); now = bytes }

-- This session, opened into this buffer, gets this answer and leaves that buffer; "The step section is handed back as that part of the
-- caller's bytes": these, which start at this place of the session.
abbrev pub SessionParts : List ℕ → List ℕ → Result Session ℕ → List ℕ → List ℕ → ℕ → Type 0
SessionParts file memory r after steps from =
    SessionOpened file memory r after × Handed (lying_at 40 file) (length memory) (lying_at (40 + from) steps)

-- "Refused: no buffer changes.", and the steps are "the empty part", the session's first 0 bytes.
abbrev pub SessionRefused : List ℕ → List ℕ → ℕ → Type 0
SessionRefused file memory k = SessionParts file memory (no_parts k) memory [] 0

abbrev pub SessionsOpen : Type 0
SessionsOpen =
    SessionParts (session_bytes sample 5 (16 ∷ 17 ∷ 21 ∷ [])) buffer (parts 5 3) sample (16 ∷ 17 ∷ 21 ∷ []) 181 ×
    SessionParts (session_bytes sample 0 []) buffer (parts 0 0) sample [] 181 ×
    SessionRefused (session_with 5) (9 ∷ buffer) 10 ×
    SessionRefused [] buffer 11 ×
    SessionRefused (set (session_with 5) 1 1) buffer 12 ×
    SessionRefused (set (session_with 5) 177 1) buffer 13 ×
    SessionRefused (session_with 8) buffer 14 ×
    SessionRefused (card_with 5) buffer 15 ×
    SessionRefused (set (session_with 5) 180 17) buffer 16 ×
    SessionRefused (session_with 5 ++ (17 ∷ [])) buffer 17

-- "Opening answers either the parts or a number": 0 is the number of the parts, and beside a refusal every value is 0.
abbrev pub AnswersTold : Type 0
AnswersTold =
    (refused (card 5) ≡ 0) ×
    (card_fuses (card 5) ≡ 5) ×
    (refused (no_card 11) ≡ 11) ×
    (refused (no_card 14) ≡ 14) ×
    (card_fuses (no_card 14) ≡ 0) ×
    (refused (parts 5 3) ≡ 0) ×
    (session_fuses (parts 5 3) ≡ 5) ×
    (session_steps (parts 5 3) ≡ 3) ×
    (refused (no_parts 11) ≡ 11) ×
    (refused (no_parts 16) ≡ 16) ×
    (session_fuses (no_parts 16) ≡ 0) ×
    (session_steps (no_parts 16) ≡ 0)
