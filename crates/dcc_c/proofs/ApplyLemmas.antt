-- A decoder that applied a packet, under other names.
use Rattle.std.proofs.Common.{◌≡◌, true, false, subst, refl, rules, Bool, List, ℕ}
use Rattle.dcc_packet.specs.Spelling.{spelling}
use Rattle.dcc_regs.specs.Writes.{is_own_write}
use Rattle.std.specs.Prelude.{if◌then◌else◌, Option, None, Some, IfSome, Result, Ok, Err, MatchResult}
use Rattle.std.specs.Result.{result_ok}
use Rattle.dcc_packet.specs.declared.packet.Packet.{Packet}
use Rattle.dcc_regs.specs.declared.loco_state.LocoState.{LocoState}
use Rattle.dcc_regs.specs.declared.register.Who.{Who}
use Rattle.dcc_regs.specs.declared.loco_registers.LocoRegisters.{LocoRegisters}
use Rattle.dcc_regs.specs.LocoRegisters.{registers_in, with_cvs}
use Rattle.dcc_c.specs.declared.loco_numbers.DccLoco.{DccLoco}
use Rattle.dcc_c.specs.Locos.{loco_numbers}
use Rattle.dcc_service.specs.declared.progress.ServiceProgress.{ServiceProgress}
use Rattle.dcc_service.specs.Machine.{ServiceState, Step}
use Rattle.dcc_service.specs.Progress.{state_with_cvs as with_service_cvs}
use Rattle.dcc_c.specs.declared.service.DccService.{DccService}
use Rattle.dcc_c.specs.Services.{service_numbers}
use Rattle.dcc_regs.specs.Result.{RegisterMap}
use Rattle.dcc_regs.specs.Setting.{left_pending}
use Rattle.dcc_regs.specs.declared.board_state.BoardState.{BoardState}
use Rattle.dcc_c.specs.Applied.{HasApplied}
use Rattle.dcc_c.specs.Boards.{is_single}
use Rattle.dcc_regs.specs.BoardState.{board_who, board_map}

pub applied : (packet : Packet) (w u w' u' : Who) (m n m' n' : RegisterMap) → w ≡ u → w' ≡ u' → m ≡ n → m' ≡ n'
    → HasApplied packet w m w' m' → HasApplied packet u n u' n'
applied packet w u w' u' m n m' n' e e' f f' h = rw (← e, ← e', ← f, ← f') h

pub same_some : {A : Type 0} (x y : A) (o : Option A) → o ≡ Some x → o ≡ Some y → x ≡ y
same_some x y o e f = cc

-- registers of a state, and the CVs of its numbers, are that state
pub same_state : (registers : LocoRegisters) (loco : DccLoco) (state : LocoState) → registers ≡ registers_in state
    → loco ≡ loco_numbers state → with_cvs registers loco.cvs ≡ state
same_state registers loco state e f = rw (e, f) refl

-- what a packet leaves pending is spelled as the packet
left_by : (p : Packet) (own : Bool) (bytes : List ℕ) → spelling p ≡ bytes
    → IfSome (if own then Some p else None) (λ (q : Packet). spelling q ≡ bytes)
left_by p true bytes e = e
left_by p false bytes e = search rules

pub left_spells : (p : Packet) (left : Option Packet) (bytes : List ℕ) → spelling p ≡ bytes → left ≡ left_pending p
    → IfSome left (λ (q : Packet). spelling q ≡ bytes)
left_spells p left bytes e f = rw f (left_by p (is_own_write p) bytes e)

-- the same on the programming track
pub same_service : (progress : ServiceProgress) (service : DccService) (state : ServiceState)
    → progress ≡ record { in_service = state.in_service; pending = state.pending } → service ≡ service_numbers state
    → with_service_cvs progress service.cvs ≡ state
same_service progress service state e f = rw (e, f) refl

pub same_small_service : (progress : ServiceProgress) (state : ServiceState)
    → progress ≡ record { in_service = state.in_service; pending = state.pending }
    → with_service_cvs progress state.cvs ≡ state
same_small_service progress state e = rw e refl

pub stepped : (before old after : ServiceState) (bytes frame : List ℕ) (answer : Bool) → old ≡ before → bytes ≡ frame
    → Step old bytes after answer → Step before frame after answer
stepped before old after bytes frame answer e f h = rw (← e, ← f) h

-- what a board in this state comes to
abbrev BoardComes : Packet → Option BoardState → BoardState → Type 0
BoardComes packet result before =
    is_single before ≡ true → (after : BoardState) × (result ≡ Some after) × (is_single after ≡ true)
    × HasApplied packet (board_who before) (board_map before) (board_who after) (board_map after)

pub board_heard_as : (packet : Packet) (taken before : BoardState) (result read : Option BoardState) → read ≡ Some taken
    → read ≡ Some before
    → BoardComes packet result taken → BoardComes packet result before
board_heard_as packet taken before result read e f h =
    subst (λ (s : BoardState). BoardComes packet result s) (same_some taken before read e f) h

pub same_ok : {A E : Type 0} (x y : A) (r : Result A E) → r ≡ Ok x → r ≡ Ok y → x ≡ y
same_ok x y r e f = cc

pub none_some : {A : Type 0} (o : Option A) (x : A) → o ≡ None → o ≡ Some x → ⊥
none_some o x e f = cc

pub if_some : {A : Type 0} (o : Option A) (P Q : A → Type 0) → ((x : A) → P x → Q x) → IfSome o P → IfSome o Q
if_some None P Q f h = h
if_some (Some x) P Q f h = f x h

-- what holds of a value that is taken of a result
pub ok_of : {A E : Type 0} (P : A → Type 0) (Q : E → Type 0) (r : Result A E) (x : A) → Some x ≡ result_ok r
    → MatchResult r P Q → P x
ok_of P Q (Ok y) x e h = let same : y ≡ x = cc in subst P same h
ok_of P Q (Err fault) x e h = absurd (cc)
