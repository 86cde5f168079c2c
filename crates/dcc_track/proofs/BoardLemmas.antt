-- An accessory decoder on both tracks.
use Rattle.std.proofs.Common.{◌≡◌, ℕ, ◌<◌, ◌/◌, Bool, true, false, List, refl, ◌∙◌, ap, arith}
use Rattle.std.specs.Prelude.{◌&&◌, ◌||◌, ◌==◌, nat_lt}
use Rattle.std.proofs.lemmas.Bool.Decides.{nat_tests, Decides-eqb}
use Rattle.dcc_packet.specs.declared.accessory.Board.{Board}
use Rattle.dcc_packet.specs.declared.packet.Packet.{Packet}
use Rattle.dcc_packet.specs.declared.packet.Packet.TheVariants.{Idle, Loco as ToLoco, Accessory, Signal, Other}
use Rattle.dcc_regs.specs.declared.board_state.BoardState.{BoardState}
use Rattle.dcc_regs.specs.declared.register.Who.{Who}
use Rattle.dcc_regs.specs.declared.register.Who.TheVariants.{Board as BoardWho}
use Rattle.dcc_regs.specs.BoardState.{board_map, board_who}
use Rattle.dcc_regs.specs.Heard.{hears}
use Rattle.dcc_regs.specs.Result.{RegisterMap, step}
use Rattle.dcc_track.specs.BoardsWithCvs.{board_on_tracks}
use Rattle.dcc_track.specs.DecoderState.{DecoderState, after_packet}
use Rattle.dcc_track.specs.Laws.{Board511HearsBroadcasts}

-- a packet does the same to all decoders that hear it and have the same registers
pub same_step : (one other : Who) (m : RegisterMap) (p : Packet) → hears one p ≡ true → hears other p ≡ true
    → step one m p ≡ step other m p
same_step one other m p h k = rw (h, k) refl

abbrev board_with : List ℕ → Board → RegisterMap → DecoderState
board_with cvs board m = record { who = BoardWho board; registers = m; cvs = cvs }

pub board_applied : (s s' : BoardState) (cvs : List ℕ) (p : Packet) → s'.board ≡ s.board
    → board_map s' ≡ step (board_who s) (board_map s) p
    → board_on_tracks s' cvs ≡ after_packet (board_on_tracks s cvs) p
board_applied s s' cvs p same stepped =
    ap (λ (board : Board). board_with cvs board (board_map s')) same ∙ ap (board_with cvs s.board) stepped

-- a signal below 2044 is at an address below 511
no_signal : (n : ℕ) (t u : Bool) → (nat_lt n 2044) ≡ t → (511 == n / 4) ≡ u → (t && u) ≡ false
no_signal n false u e f = refl
no_signal n true false e f = refl
no_signal n true true e f =
    let below : n < 2044 = grind (arith, nat_tests) in
    let is : 511 ≡ n / 4 = (Decides-eqb 511 (n / 4)).0 f in
    absurd (omega arith)

either_heard : (a b : Bool) → (a || b) ≡ true → b ≡ false → a ≡ true
either_heard true b h none = refl
either_heard false b h none = absurd (cc)

first_or : (a b : Bool) → a ≡ true → (a || b) ≡ true
first_or true b e = refl
first_or false b e = absurd (cc)

last_or : (a b : Bool) → b ≡ true → (a || b) ≡ true
last_or true b e = refl
last_or false b e = e

-- a packet that the address 511 hears is heard by all accessory decoders
broadcast : (own other : Board) (p : Packet) → own.number ≡ 511 → hears (BoardWho own) p ≡ true
    → hears (BoardWho other) p ≡ true
broadcast own other Idle is h = h
broadcast own other (ToLoco to what) is h = h
broadcast own other (Accessory board output on) is h =
    let to_all : (board.number == 511) ≡ true = grind (arith, nat_tests) in
    last_or (other.number == board.number) (board.number == 511) to_all
broadcast own other (Signal address aspect) is h =
    let one : (address.number == 2047 || (nat_lt address.number 2044 && 511 == address.number / 4)) ≡ true =
    rw is at h in
    first_or (address.number == 2047) (nat_lt address.number 2044 && other.number == address.number / 4)
    (either_heard (address.number == 2047) (nat_lt address.number 2044 && 511 == address.number / 4) one
    (no_signal address.number (nat_lt address.number 2044) (511 == address.number / 4) refl refl))
broadcast own other (Other frame) is h = h

pub board_511_hears_broadcasts : Board511HearsBroadcasts
board_511_hears_broadcasts own p is = (λ h other. broadcast own other p is h, λ all. all own)
