-- 01, "Rights": the table of rights, block and fuses.
use Rattle.std.specs.Prelude.{◌+◌, ◌-◌, true, false, not, ◌&&◌, List, [], ◌∷◌, set, eqb, leb}
use Rattle.std.specs.Bool.{beq}
use Rattle.memory.specs.Image.{bit, written, erased_word, filled}
use Rattle.rules.specs.declared.Zone.TheVariants.{Block, FuseMF, FuseECEN, FuseISS, Gap}
use Rattle.rules.specs.declared.Operation.TheVariants.{Nothing, WriteBit, EraseWord, EraseZone}
use Rattle.rules.specs.declared.Operation.TheVariants.{WriteBlock, EraseBlock, BlowMF, BlowECEN, BlowISS}
use Rattle.rules.specs.Zones.{is_fuse}
use Rattle.rules.specs.Programming.{turns, opens, key_opens, effect, memory_after, fuses_after}
use Rattle.rules.specs.CaseForms.{none, SV, P1, R1, E1, L1, L2}
use Rattle.rules.specs.CaseForms.{ones, zeros, image, sample, same_bytes, Case, Claims, writes, erases, blows}
use Rattle.rules.specs.CaseRanges.{each_in, each_of}
use Rattle.rules.specs.ClaimForms.{borders, leaves, changes_nothing, everything, bit_written, application_erased, block_written, block_erased}
use Rattle.rules.specs.ClaimsRights.{MF, Always, Never, With, SV_or_R1, ZoneRow, zone_row, accessed, needs_rst_low, FuseRow, fuse_row, blown, carries_out, empty}

-- 01's table: bits; read, write and erase at level 1; the same at level 2. The erase in EC at level 2 is the one of the application zone.
unfoldable pub zone_rows : List ZoneRow
zone_rows =
    zone_row 0 15 Always Never Never Always Never Never ∷
    zone_row 16 79 Always (With SV) (With SV) Always Never Never ∷
    zone_row 80 95 (With SV) (With SV) (With SV) Never (With SV) (With SV) ∷
    zone_row 96 111 Always Always (With SV) Always Always (With SV) ∷
    zone_row 112 175 Always (With SV) (With SV) Always (With SV) (With SV) ∷
    zone_row 176 1199 SV_or_R1 (With SV) (With SV) SV_or_R1 (With (SV + P1)) Never ∷
    zone_row 1200 1231 (With SV) (With SV) (With SV) Never Never Never ∷
    zone_row 1232 1359 Always Always (With SV) Always Always (With (SV + E1)) ∷
    zone_row 1360 1375 Always Always Always Always Always Always ∷
    zone_row 1376 1391 Always (With (SV + MF)) (With (SV + MF)) Always Never Never ∷
    []

unfoldable pub zone_cases : List Case
unfolding zone_rows accessed needs_rst_low each_of
zone_cases =
    Claims (each_of zone_rows accessed) ∷
    -- "These need RST low", and so does the block.
    Claims (each_of zone_rows (λ z. needs_rst_low z.first z.last)) ∷
    Claims (needs_rst_low 1392 1407) ∷
    []

-- "L2 erase in EC with SV, E1 and RST low: bits 176 to 1199 become 1, EC stays. With EC_EN blown only at 1232."
unfoldable pub erase_cases : List Case
unfolding changes_nothing leaves application_erased each_in each_of erases zeros image
erase_cases =
    Claims (each_in 1233 1359 (λ a. changes_nothing true 17 5 a (SV + E1))) ∷
    Claims
    (each_of (1233 ∷ 1359 ∷ [])
    (λ a. each_of (0 ∷ 1 ∷ []) (λ fuses. changes_nothing true 17 fuses a (SV + E1) && changes_nothing true 49 fuses a (SV + E1)))) ∷
    Claims (each_of (0 ∷ 1 ∷ 4 ∷ 5 ∷ []) (λ fuses. leaves true 17 fuses 1232 (SV + E1) fuses application_erased)) ∷
    Claims (each_of (1233 ∷ 1248 ∷ 1295 ∷ 1343 ∷ 1344 ∷ 1358 ∷ []) (λ a. leaves true 17 3 a (SV + E1) 3 application_erased)) ∷
    -- At level 1 the word, with EC_EN unblown and blown.
    erases L1 7 zeros 1240 SV (image ((154, 0) ∷ (2, 255) ∷ (18, 0) ∷ [])) ∷
    erases L1 7 zeros 1359 (SV + E1) (image ((168, 0) ∷ (2, 255) ∷ (4, 0) ∷ [])) ∷
    erases L1 5 zeros 1233 SV (image ((154, 0) ∷ (2, 255) ∷ (18, 0) ∷ [])) ∷
    erases L1 5 zeros 1359 (SV + E1) (image ((168, 0) ∷ (2, 255) ∷ (4, 0) ∷ [])) ∷
    []

-- The image on its own: past its end a bit is 0, nothing is stored, and a part that does not fit is not filled.
unfoldable pub image_cases : List Case
unfolding bit written erased_word filled same_bytes each_in
image_cases =
    Claims (each_in 8 15 (λ a. not (bit (255 ∷ []) a)) && (bit (0 ∷ 1 ∷ []) 15 && (bit (0 ∷ 128 ∷ []) 8 && not (bit (255 ∷ 127 ∷ []) 8)))) ∷
    Claims (same_bytes (written (255 ∷ []) 8) (255 ∷ []) && same_bytes (erased_word (0 ∷ 0 ∷ 0 ∷ []) 16) (0 ∷ 0 ∷ 255 ∷ [])) ∷
    Claims (same_bytes (filled 1 2 9 (1 ∷ 2 ∷ 3 ∷ 4 ∷ [])) (1 ∷ 9 ∷ 9 ∷ 4 ∷ [])) ∷
    Claims (same_bytes (filled 1 2 9 (1 ∷ 2 ∷ 3 ∷ [])) (1 ∷ 9 ∷ 9 ∷ [])) ∷
    Claims (same_bytes (filled 1 2 9 (1 ∷ 2 ∷ [])) (1 ∷ 2 ∷ [])) ∷
    []

-- "A write sets one bit to 0. An erase sets the 16-bit word to 1.": the address stays.
unfoldable pub program_cases : List Case
unfolding writes erases ones zeros sample image leaves bit_written each_in
program_cases =
    -- Each bit of a byte; words side by side.
    Claims (each_in 1360 1375 (λ a. leaves false 17 0 a none 0 (bit_written a))) ∷
    erases L1 7 zeros 31 SV (image ((2, 0) ∷ (2, 255) ∷ (170, 0) ∷ [])) ∷
    erases L1 7 zeros 32 SV (image ((4, 0) ∷ (2, 255) ∷ (168, 0) ∷ [])) ∷
    -- A write on a 0 and an erase of ones change no bit; other bits of the byte and of the word are kept.
    writes L2 7 (set sample 170 0x5a) 1360 none (set sample 170 0x5a) ∷
    writes L2 7 (set sample 170 0x5a) 1361 none (set sample 170 0x1a) ∷
    erases L2 7 (set sample 170 0x5a) 1375 none sample ∷
    -- "Erasing the bit while standing on it doesn't set the flag, writing it doesn't clear it."
    erases L1 7 zeros 176 SV (image ((22, 0) ∷ (2, 255) ∷ (150, 0) ∷ [])) ∷
    erases L1 7 zeros 177 SV (image ((22, 0) ∷ (2, 255) ∷ (150, 0) ∷ [])) ∷
    writes L1 7 ones 176 (SV + P1 + R1) (set ones 22 0x7f) ∷
    writes L1 7 ones 177 (SV + P1 + R1) (set ones 22 0xbf) ∷
    []

-- "a write that turns a 1 into 0": no other operation does. At a gap there is no operation and no right; a fuse is blown by right only
-- where ISS is unblown.
unfoldable pub operation_cases : List Case
unfolding turns opens key_opens effect memory_after fuses_after carries_out borders ones zeros same_bytes each_in each_of
operation_cases =
    Claims
    (each_of borders
    (λ a.
    beq (opens WriteBit ones a true) (leb 96 a && leb a 103) &&
    beq (key_opens WriteBit ones a true false true) (leb 1232 a && leb a 1359))) ∷
    Claims
    (each_of (1424 ∷ 1480 ∷ 1482 ∷ 1503 ∷ [])
    (λ a. each_of (true ∷ false ∷ []) (λ erase. not (carries_out erase 49 7 a) && not (carries_out erase 51 7 a)))) ∷
    Claims
    (each_of (1408 ∷ 1481 ∷ 1504 ∷ [])
    (λ a. carries_out false 51 7 a && (carries_out false 51 4 a && each_in 0 3 (λ fuses. not (carries_out false 51 fuses a))))) ∷
    Claims
    (each_of (Nothing ∷ EraseWord ∷ EraseZone ∷ WriteBlock ∷ EraseBlock ∷ BlowMF ∷ BlowECEN ∷ BlowISS ∷ [])
    (λ op. not (turns op ones 96) && not (turns op ones 1232))) ∷
    Claims (turns WriteBit ones 96 && not (turns WriteBit zeros 96)) ∷
    Claims
    (each_of (true ∷ false ∷ [])
    (λ latch.
    let op = effect latch latch Gap in
    eqb (fuses_after op 7) 7 && (same_bytes (memory_after op 96 ones) ones && same_bytes (memory_after op 96 zeros) zeros))) ∷
    []

-- "Block, 1392 to 1407, RST low, L1, SV: bits 16 to 1359 take the latched bit; fuses stay."
unfoldable pub block_cases : List Case
unfolding block_written block_erased leaves changes_nothing everything each_of
block_cases =
    Claims (each_of (1392 ∷ 1400 ∷ 1407 ∷ []) (λ a. leaves true 49 4 a SV 4 block_erased && leaves false 49 4 a SV 4 block_written)) ∷
    -- Without SV, with FUS low, with ISS blown: nothing, for both latched values.
    Claims
    (each_of (true ∷ false ∷ [])
    (λ erase.
    changes_nothing erase 49 7 1392 (everything 1392 - SV) &&
    (changes_nothing erase 17 7 1400 (everything 1400) && changes_nothing erase 49 3 1407 (everything 1407)))) ∷
    []

-- "Fuses, write only, RST high, ISS unblown: MF at 1408 to 1423 with SV; EC_EN at 1481 with FUS high (004 names no SV); ISS at 1504 to
-- 1519 with SV. Here FUS is free except for EC_EN."
unfoldable pub fuse_rows : List FuseRow
fuse_rows =
    fuse_row 1408 1423 true false (0 ∷ 1 ∷ 2 ∷ 3 ∷ 4 ∷ 4 ∷ 6 ∷ 6 ∷ []) ∷
    fuse_row 1481 1481 false true (0 ∷ 1 ∷ 2 ∷ 3 ∷ 4 ∷ 5 ∷ 4 ∷ 5 ∷ []) ∷
    fuse_row 1504 1519 true false (0 ∷ 1 ∷ 2 ∷ 3 ∷ 0 ∷ 1 ∷ 2 ∷ 3 ∷ []) ∷
    []

unfoldable pub fuse_cases : List Case
unfolding is_fuse fuse_rows blown empty blows each_of
fuse_cases =
    Claims (each_of fuse_rows blown) ∷
    Claims (is_fuse FuseMF && (is_fuse FuseECEN && (is_fuse FuseISS && (not (is_fuse Block) && not (is_fuse Gap))))) ∷
    Claims (each_of (1424 ∷ 1450 ∷ 1480 ∷ 1482 ∷ 1492 ∷ 1503 ∷ []) empty) ∷
    -- The maker's blow ends at 0.
    blows L1 7 1423 SV 6 ∷
    blows L1 7 1407 SV 7 ∷
    blows L1 7 1481 none 5 ∷
    blows L1 4 1504 SV 0 ∷
    []
