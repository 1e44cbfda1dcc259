-- 01, "Card file and session": what the session program prints for some inputs. `proofs.AgainstCases` computes it from the definitions.
use Rattle.std.specs.Prelude.{ℕ, ◌+◌, ◌≡◌, true, List, [], ◌∷◌, ◌++◌, take, set}
use Prim.Native.String.{String}
use Rattle.rules.specs.Maker.{reset, walk, open_card}
use Rattle.rules.specs.CaseForms.{zero, released, L1, code, sample, session as session_bytes, ends_in}
use Rattle.report.specs.Cases.{quoted, case_s_memory, case_s_steps, case_s_text}
use Rattle.fresh_run.specs.FreshRun.{session_text}

abbrev pub Prints : List ℕ → String → Type 0
Prints input text = session_text input ≡ quoted text

-- A session of one step.
unfoldable pub one_step_session : List ℕ
unfolding session_bytes sample
one_step_session = session_bytes sample 5 (0 ∷ [])

-- Power, the right code and a try with FUS high, and then to bit 81.
unfoldable pub reads_the_code : List ℕ
unfolding open_card reset walk
reads_the_code = 32 ∷ 48 ∷ 49 ∷ (open_card L1 code 255 ++ (reset L1 ++ walk L1 81))

-- An answer of the pin as its byte: 48 is `0`.
abbrev pub shown : ℕ → ℕ
shown answer = 48 + answer

abbrev pub SessionsPrint : Type 0
SessionsPrint =
    -- "four lines: steps done and given, refusal (0 if none), the answers without spaces, ones left in bits 96 to 103."
    Prints (session_bytes case_s_memory 7 case_s_steps) case_s_text ×
    Prints (session_bytes sample 5 []) "done 0 of 0\nrefused 0\n\nleft 8\n" ×
    Prints (session_bytes (set sample 12 0x1f) 0 (64 ∷ 0 ∷ [])) "done 0 of 2\nrefused 1\n\nleft 5\n" ×
    -- The fuses are the session's: with FUS high and SV, bit 81, a 0, is read with ISS unblown alone.
    (ends_in (session_text (session_bytes sample 7 reads_the_code)) (shown zero ∷ quoted "\nleft 8\n") ≡ true) ×
    (ends_in (session_text (session_bytes sample 3 reads_the_code)) (shown released ∷ quoted "\nleft 8\n") ≡ true) ×
    -- The ones left are those after the run: a wrong code has spent a try.
    (ends_in (session_text (session_bytes sample 7 (32 ∷ 48 ∷ 49 ∷ open_card L1 0xa53d 255))) (quoted "left 7\n") ≡ true) ×
    -- "It prints `bad N` alone": 11 to 17.
    Prints [] "bad 11\n" ×
    Prints (take 178 one_step_session) "bad 11\n" ×
    Prints (set one_step_session 0 175) "bad 12\n" ×
    Prints (set one_step_session 176 0) "bad 13\n" ×
    Prints (set one_step_session 178 8) "bad 14\n" ×
    Prints (take 180 one_step_session) "bad 15\n" ×
    Prints (set one_step_session 180 17) "bad 16\n" ×
    Prints (one_step_session ++ (0 ∷ [])) "bad 17\n"
