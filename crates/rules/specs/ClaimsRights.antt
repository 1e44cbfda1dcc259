-- When the rows of rights and fuses hold: 01, "Rights".
use Rattle.std.specs.Prelude.{ℕ, ◌+◌, ◌-◌, ◌/◌, ◌%◌, Bool, true, false, cond, not, ◌&&◌, ◌||◌, List, [], ◌∷◌, eqb, leb, get_or}
use Rattle.rules.specs.Halves.{EC_EN, unblown}
use Rattle.rules.specs.Zones.{zone}
use Rattle.rules.specs.Rights.{held}
use Rattle.rules.specs.Programming.{may_program}
use Rattle.rules.specs.CaseForms.{none, SV, P1, R1, E1, zero, one, released}
use Rattle.rules.specs.CaseForms.{state, ones}
use Rattle.rules.specs.CaseRanges.{each_in, each_of}
use Rattle.rules.specs.ClaimForms.{idle_low, RST, Way, ways, everything, leaves, changes_nothing, bit_written, word_erased, application_erased, pin_is}
use Rattle.rules.specs.Computing.{the_card}

-- What 01's table asks of an access: nothing, a sum of SV, P1, E1 and MF, or one of SV and R1; or it is never there.
abbrev pub MF : ℕ
MF = 128

pub data Asked : Type 0 where
  Always : Asked
  Never : Asked
  With : ℕ → Asked
  SV_or_R1 : Asked

-- A row of 01's table: bits, and read, write and erase at level 1, then at level 2.
pub record ZoneRow : Type 0 where
  pub first : ℕ
  pub last : ℕ
  pub read1 : Asked
  pub write1 : Asked
  pub erase1 : Asked
  pub read2 : Asked
  pub write2 : Asked
  pub erase2 : Asked

abbrev pub zone_row : ℕ → ℕ → Asked → Asked → Asked → Asked → Asked → Asked → ZoneRow
zone_row a b r w e r' w' e' =
    record { first = a; last = b; read1 = r; write1 = w; erase1 = e; read2 = r'; write2 = w'; erase2 = e' }

-- Both ends of a range and its middle.
unfoldable pub places : ℕ → ℕ → List ℕ
places first last = first ∷ (first + last) / 2 ∷ last ∷ []

-- With nothing but what is asked for, and EC_EN where an erase in EC at level 2 needs it, the operation takes effect.
unfoldable pub takes_effect : Bool → Bool → Way → ℕ → ℕ → Bool
unfolding leaves bit_written word_erased application_erased
takes_effect erase l1 w a sum =
    let in-EC = erase && (not l1 && (leb 1232 a && leb a 1359)) in
    let fuses = w.iss + cond (leb MF sum) 1 0 + cond (in-EC && not (eqb a 1232)) 2 0 in
    leaves erase (idle_low + w.fus) fuses a (sum % MF) fuses
    (cond erase (cond in-EC application_erased (word_erased a)) (bit_written a))

-- With everything else there, each thing of the sum is needed.
unfoldable pub needs_each : Bool → Way → ℕ → ℕ → Bool
unfolding changes_nothing everything
needs_each erase w a sum =
    let levels = idle_low + w.fus in
    (not (leb MF sum) || changes_nothing erase levels (w.iss + 2) a (everything a)) &&
    each_of (SV ∷ P1 ∷ E1 ∷ [])
    (λ flag. eqb (sum / flag % 2) 0 || changes_nothing erase levels (w.iss + 3) a (everything a - flag))

unfoldable pub programs_as : Bool → Bool → Way → ℕ → Asked → Bool
unfolding takes_effect needs_each changes_nothing everything each_of
programs_as erase l1 w a Always = takes_effect erase l1 w a none
programs_as erase l1 w a Never = changes_nothing erase (idle_low + w.fus) (w.iss + 3) a (everything a)
programs_as erase l1 w a (With sum) = takes_effect erase l1 w a sum && needs_each erase w a sum
programs_as erase l1 w a SV_or_R1 = false

-- With just these flags the stored bit is driven.
unfoldable pub drives : Way → ℕ → ℕ → Bool
unfolding pin_is
drives w a holding = pin_is false w a holding zero && pin_is true w a holding one

unfoldable pub reads_as : Way → ℕ → Asked → Bool
unfolding drives pin_is everything
reads_as w a Always = drives w a none
reads_as w a Never = pin_is false w a (everything a) released
reads_as w a (With sum) = drives w a sum && pin_is false w a (everything a - sum) released
reads_as w a SV_or_R1 = drives w a SV && (drives w a R1 && pin_is false w a (everything a - SV - R1) released)

-- Read, write and erase at both ends and in the middle of a zone, at both levels.
unfoldable pub accessed : ZoneRow → Bool
unfolding reads_as programs_as places ways each_of
accessed z =
    each_of (places z.first z.last)
    (λ a.
    each_of (ways true) (λ w. reads_as w a z.read1 && (programs_as false true w a z.write1 && programs_as true true w a z.erase1)) &&
    each_of (ways false) (λ w. reads_as w a z.read2 && (programs_as false false w a z.write2 && programs_as true false w a z.erase2)))

-- "These need RST low": with everything there and RST high, nothing.
unfoldable pub needs_rst_low : ℕ → ℕ → Bool
unfolding changes_nothing everything places each_of
needs_rst_low first last =
    each_of (first ∷ last ∷ [])
    (λ a.
    each_of (true ∷ false ∷ [])
    (λ erase. changes_nothing erase 51 7 a (everything a) && changes_nothing erase 19 7 a (everything a)))

-- A fuse's word: first and last address, whether the blow asks for SV and for FUS high, and what it makes of each fuse byte.
pub record FuseRow : Type 0 where
  pub first : ℕ
  pub last : ℕ
  pub asks_sv : Bool
  pub asks_fus : Bool
  pub blown : List ℕ

abbrev pub fuse_row : ℕ → ℕ → Bool → Bool → List ℕ → FuseRow
fuse_row a b sv fus bytes = record { first = a; last = b; asks_sv = sv; asks_fus = fus; blown = bytes }

-- A write there with RST high, of this fuse byte, with FUS low or high, and with SV alone or with everything but SV.
unfoldable pub blows_as : FuseRow → ℕ → ℕ → ℕ → Bool → Bool
unfolding leaves everything ones
blows_as f a fuses fus sv =
    let there = (not f.asks_sv || sv) && (not f.asks_fus || eqb fus 32) in
    leaves false (idle_low + RST + fus) fuses a (cond sv SV (everything a - SV)) (cond there (get_or f.blown fuses 0) fuses) ones

-- Under every fuse byte; and at the ends and within its word. "write only": an erase does nothing, with everything there. "RST high": with
-- RST low neither does anything.
unfoldable pub blown : FuseRow → Bool
unfolding blows_as changes_nothing leaves everything places each_in each_of
blown f =
    each_in 0 7
    (λ fuses. each_of (0 ∷ 32 ∷ []) (λ fus. each_of (true ∷ false ∷ []) (λ sv. blows_as f f.first fuses fus sv))) &&
    each_of (places f.first f.last)
    (λ a.
    blows_as f a 7 32 true &&
    (changes_nothing true 51 7 a (everything a) &&
    (changes_nothing true 49 7 a (everything a) && changes_nothing false 49 7 a (everything a))))

-- With everything there, the operation is carried out by right, whether or not a bit changes.
unfoldable pub carries_out : Bool → ℕ → ℕ → ℕ → Bool
unfolding the_card state everything
carries_out erase levels fuses a =
    may_program (held fuses (state levels a (everything a))) (unblown EC_EN fuses) (eqb (levels / RST % 2) 1) erase a (zone a)

-- Where nothing is stored, nothing changes: with everything there, at both levels of RST.
unfoldable pub empty : ℕ → Bool
unfolding changes_nothing everything each_of
empty a = each_of (49 ∷ 51 ∷ []) (λ levels. changes_nothing true levels 7 a (everything a) && changes_nothing false levels 7 a (everything a))
