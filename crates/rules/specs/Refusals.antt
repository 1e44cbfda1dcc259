-- 01, "Numbers a caller can get": "That is the order".
use Rattle.std.specs.Prelude.{ℕ, Bool, true, false, cond, not, ◌&&◌, ◌||◌, List, eqb, ltb, length}
use Rattle.memory.specs.Image.{bytes}
use Rattle.rules.specs.Halves.{Volatile, Card}
use Rattle.rules.specs.Lines.{Line, VCC, RST, CLK, PGM, FUS, place, high, Edge, Same, Rises, Falls, Many, edge}
use Rattle.rules.specs.Zones.{between, last}

-- "more than one line differs"
unfoldable pub many : Edge → Bool
many Same = false
many Many = true
many (Rises x) = false
many (Falls x) = false

unfoldable pub rises : Line → Edge → Bool
unfolding place
rises x Same = false
rises x Many = false
rises x (Rises y) = eqb (place x) (place y)
rises x (Falls y) = false

unfoldable pub falls : Line → Edge → Bool
unfolding place
falls x Same = false
falls x Many = false
falls x (Rises y) = false
falls x (Falls y) = eqb (place x) (place y)

unfoldable pub changes : Line → Edge → Bool
unfolding rises falls
changes x e = rises x e || falls x e

-- 2 to 7, of an edge, the lines before it, and whether programming is under way; 0 where it is accepted. "3 to 6 need VCC."
unfoldable pub edge_refusal : Edge → ℕ → Bool → ℕ
unfolding many rises falls changes
edge_refusal e levels programming =
    cond (many e) 2
    (cond (high VCC levels && (programming && (changes RST e || changes FUS e))) 3
    (cond (high VCC levels && (programming && (falls CLK e && high PGM levels))) 4
    (cond (high VCC levels && (falls RST e && high CLK levels)) 5
    (cond (high VCC levels && (rises PGM e && high CLK levels)) 6
    (cond (rises VCC e && (high CLK levels || high PGM levels)) 7 0)))))

-- 1 to 7, of the lines, programming and the step alone; 0 where the step is accepted.
unfoldable pub line_refusal : ℕ → Bool → ℕ → ℕ
unfolding edge_refusal
line_refusal levels programming n = cond (ltb 63 n) 1 (edge_refusal (edge levels n) levels programming)

unfoldable pub refusal : Volatile → ℕ → ℕ
unfolding line_refusal
refusal v n = line_refusal v.lines v.programming n

-- Anything of the volatile half but the lines is not zero.
unfoldable pub any_set : Volatile → Bool
any_set v =
    not (eqb v.address 0) ||
    (v.sv || (v.p1 || (v.r1 || (v.e1 || (v.matched || (v.latch || v.programming))))))

-- 9: "line levels over 63; address over 1519; VCC off with anything but the lines non-zero; latch set with CLK low; programming with
-- CLK low; VCC, CLK and PGM high without programming; match outside 81 to 103 and 1201 to 1359; E1 outside 1232 to 1519."
unfoldable pub made_up : Volatile → Bool
unfolding any_set between
made_up v =
    ltb 63 v.lines ||
    (ltb last v.address ||
    (not (high VCC v.lines) && any_set v ||
    (v.latch && not (high CLK v.lines) ||
    (v.programming && not (high CLK v.lines) ||
    (high VCC v.lines && (high CLK v.lines && (high PGM v.lines && not v.programming)) ||
    (v.matched && not (between 81 103 v.address || between 1201 1359 v.address) ||
    v.e1 && not (between 1232 1519 v.address)))))))

-- 10, 14, 9, where `made` says whether the state is made up: "memory buffer isn't 174 bytes", "fuse byte over 7", "made-up state".
unfoldable pub before_a_step : List ℕ → ℕ → Bool → ℕ
before_a_step m fuses made = cond (not (eqb (length m) bytes)) 10 (cond (ltb 7 fuses) 14 (cond made 9 0))

unfoldable pub state_refusal : Card → ℕ
unfolding made_up before_a_step
state_refusal c = before_a_step c.memory c.fuses (made_up c.volatile)

-- "a run of over 4,096 steps"
abbrev pub longest : ℕ
longest = 4096

-- 18 and 19, after a refusal k that comes before them: 10, 14, 9, or 0 for none.
unfoldable pub before_a_run : ℕ → ℕ → ℕ → ℕ
before_a_run k steps room = cond (not (eqb k 0)) k (cond (ltb longest steps) 18 (cond (ltb room steps) 19 0))

unfoldable pub run_refusal : Card → ℕ → ℕ → ℕ
unfolding state_refusal before_a_run
run_refusal c steps room = before_a_run (state_refusal c) steps room
