-- The packets that a command station sends: a stop, the commands of the queue, then the entries.
use Rattle.std.specs.Prelude.{ℕ, ◌+◌, ◌≡◌, ◌⊎◌, Bool, true, false, not, List, [], ◌∷◌, ◌++◌, filter}
use Rattle.std.specs.Prelude.{if◌then◌else◌, nat_le}
use Rattle.std.specs.Option.{option_map_or}
use Rattle.std.proofs.Common.{zero, suc, lit≤}
use Rattle.dcc_packet.specs.Address.{same_address}
use Rattle.dcc_packet.specs.declared.address.Address.{Address}
use Rattle.dcc_packet.specs.declared.address.Address.TheVariants.{Broadcast}
use Rattle.dcc_packet.specs.declared.instruction.What.TheVariants.{Speed28}
use Rattle.dcc_packet.specs.declared.packet.Packet.{Packet}
use Rattle.dcc_packet.specs.declared.packet.Packet.TheVariants.{Idle, Loco}
use Rattle.dcc_regs.specs.Conflict.{Conflict}
use Rattle.dcc_regs.specs.Heard.{address_of}
use Rattle.dcc_regs.specs.Safety.{can_move}
use Rattle.dcc_regs.specs.Writes.{is_own_write, writes_cv29}
use Rattle.circular_buffer.specs.Buffer.{keep_last}
use Rattle.dcc_station.specs.Commands.{is_refreshed}

-- the state of a station: its queue `waiting`, its `entries` and its sizes. If `stopping` is true,
-- a stop of all locomotives waits before the queue. The station has returned `sent` copies of the
-- packet that it sends next: of the stop if `stopping` is true, otherwise of the first command in
-- the queue.
pub record Sending : Type 0 where
  pub waiting : List Packet
  pub stopping : Bool
  pub sent : ℕ
  pub entries : List Packet
  pub queue : ℕ
  pub slots : ℕ
  pub repeats : ℕ

-- the state of a new station with the sizes `queue`, `slots` and `repeats`
abbrev pub idle_sending : ℕ → ℕ → ℕ → Sending
idle_sending queue slots repeats =
    record {
      waiting = [];
      stopping = false;
      sent = 0;
      entries = [];
      queue = queue;
      slots = slots;
      repeats = repeats;
    }

-- the packet that a stop sends, `loco all speed28 f 3`. It is the emergency stop of all
-- locomotives, and it leaves their directions unchanged.
abbrev pub stop_packet : Packet
stop_packet = Loco Broadcast (Speed28 true (record { bits = 3; in_range = lit≤ tt }))

-- the stop if `stopping` is true, and then the commands `waiting`
abbrev pub with_stop : Bool → List Packet → List Packet
with_stop stopping waiting = if stopping then stop_packet ∷ waiting else waiting

-- the packets that a station in state `s` sends before its entries, each several times: the stop if
-- it waits, and then the commands in the queue
abbrev pub outgoing : Sending → List Packet
outgoing s = with_stop s.stopping s.waiting

-- the commands of a list that a stop leaves in the queue, in order. A stop withdraws each command
-- that sets the speed of a locomotive to a step.
abbrev pub not_withdrawn : List Packet → List Packet
not_withdrawn = filter (λ p. not (can_move p))

-- the state of a station in state `s` after a stop. All copies of the stop are to be sent. If a
-- command in the queue was partly sent and stays, all its copies are to be sent again.
abbrev pub stopped : Sending → Sending
stopped s = record s { waiting = not_withdrawn s.waiting; stopping = true; sent = 0 }

-- the number of copies of the command `p` that are sent in a row. For an own write the number is
-- `repeats + 1`, because the write takes effect at its second copy. For any other command it is
-- `repeats`.
abbrev pub copies : ℕ → Packet → ℕ
copies repeats p = if is_own_write p then repeats + 1 else repeats

-- the command `p` displaces `entry`. Either the two packets are equal, or they conflict, or `p`
-- writes CV29 and both packets have the same address.
abbrev pub Displaces : Packet → Packet → Type 0
Displaces p entry = (entry ≡ p) ⊎ (Conflict p entry ⊎ ((writes_cv29 p ≡ true) × (address_of entry ≡ address_of p)))

-- `kept` are the entries of a list that the command `p` does not displace, in order
abbrev pub Leaves : Packet → List Packet → List Packet → Type 0
Leaves p [] kept = kept ≡ []
Leaves p (entry ∷ entries) kept =
    (Displaces p entry × Leaves p entries kept)
    ⊎ (¬ Displaces p entry × ((rest : List Packet) × (kept ≡ entry ∷ rest) × Leaves p entries rest))

-- the list `entries` with the entry `p` added at its end. If the list would be longer than `slots`,
-- its first entry is removed.
abbrev pub with_entry : ℕ → List Packet → Packet → List Packet
with_entry slots entries p = keep_last slots (entries ++ p ∷ [])

-- `new` are the entries of a station after the first copy of the command `p`, and `entries` are its
-- entries before this copy. A station has at most `slots` entries.
abbrev pub Refreshes : ℕ → Packet → List Packet → List Packet → Type 0
Refreshes slots p entries new =
    (kept : List Packet) × Leaves p entries kept × (new ≡ (if is_refreshed p then with_entry slots kept p else kept))

-- true if the packet is sent to the address `to` of locomotive decoders
abbrev pub has_address : Address → Packet → Bool
has_address to p = option_map_or (λ own. same_address own to) (address_of p) false

-- the entries of the list `entries` that do not have the address `to`, in order
abbrev pub without_address : Address → List Packet → List Packet
without_address to entries = filter (λ entry. not (has_address to entry)) entries

-- the state of a station in state `s` after it has forgotten its entries with the address `to`. The
-- commands in the queue and the number of sent copies stay.
abbrev pub forgotten : Sending → Address → Sending
forgotten s to = record s { entries = without_address to s.entries }

-- the state of a station in state `s` after it has accepted the command `p`
abbrev pub with_command : Sending → Packet → Sending
with_command s p = record s { waiting = s.waiting ++ p ∷ [] }

-- the state of a station after one more copy of `p`, which is the stop or the first command in the
-- queue. `rest` are the commands after `p`, and `entries` are the new entries. After the last copy
-- of `p`, the commands `rest` wait, and no stop waits.
abbrev pub sent_once_more : Sending → Packet → List Packet → List Packet → Sending
sent_once_more s p rest entries =
    if nat_le (copies s.repeats p) (s.sent + 1)
    then record s { waiting = rest; stopping = false; sent = 0; entries = entries }
    else record s { sent = s.sent + 1; entries = entries }

-- `after` are the entries of a station after one more copy of the command `p`, if `sent` copies
-- were sent before. Only the first copy changes the entries.
abbrev pub EntriesAfter : ℕ → ℕ → Packet → List Packet → List Packet → Type 0
EntriesAfter zero slots p entries after = Refreshes slots p entries after
EntriesAfter (suc sent) slots p entries after = after ≡ entries

-- a station in state `s` returns the packet `out` and goes to state `new`. The packet `out` is a
-- copy of the first packet of `outgoing s`, which is the first list. If this list is empty, `out`
-- is the first entry, which moves to the end of the entries. If there is no entry, `out` is an idle
-- packet.
abbrev pub HandsOut : List Packet → List Packet → Sending → Packet → Sending → Type 0
HandsOut (p ∷ rest) entries s out new =
    (out ≡ p)
    × ((after : List Packet) × EntriesAfter s.sent s.slots p entries after × (new ≡ sent_once_more s p rest after))
HandsOut [] (entry ∷ later) s out new = (out ≡ entry) × (new ≡ record s { entries = later ++ entry ∷ [] })
HandsOut [] [] s out new = (out ≡ Idle) × (new ≡ s)

abbrev pub Next : Sending → Packet → Sending → Type 0
Next s out new = HandsOut (outgoing s) s.entries s out new

-- a station in state `s` returns the packets of a list, one after the other, and goes to state
-- `new`
abbrev pub NextAll : Sending → List Packet → Sending → Type 0
NextAll s [] new = new ≡ s
NextAll s (p ∷ later) new = (between : Sending) × Next s p between × NextAll between later new
