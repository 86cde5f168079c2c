use Rattle.std.proofs.Common.{◌∙◌, ap, arith, ◌≡◌, ◌≤◌, List, ℕ, length, Option}
use Rattle.std.specs.Prelude.{◌||◌, ◌==◌, slice_index}
use Rattle.std.proofs.lemmas.Bool.Decides.{nat_tests}
use Rattle.dcc_packet.specs.declared.address.Address.{Address}
use Rattle.dcc_packet.specs.declared.packet.Packet.{Packet}
use Rattle.dcc_packet.specs.Spelling.{spelling}
use Rattle.dcc_regs.specs.Heard.{is_sent_to}
use Rattle.dcc_regs.specs.Inner.HearsByAddress.{begins_with_address}
use Rattle.dcc_regs.proofs.HearsByBytes.{first_bytes}
use Rattle.dcc_regs.proofs.hears_frame.loco_hears_frame.Goals as goal

by_bytes : (active : Option Address) (frame : List ℕ) (packet : Packet) → 3 ≤ length frame → spelling packet ≡ frame
    → is_sent_to active (spelling packet)
    ≡ (slice_index frame 0 == 0 || begins_with_address active (slice_index frame 0) (slice_index frame 1))
by_bytes active frame packet least e = ap (is_sent_to active) e ∙ first_bytes active frame least

pub returns-then-first-eq0 : goal.returns-then-first-eq0
returns-then-first-eq0 c packet e =
    let told = by_bytes c.args.active.now c.args.frame.now packet c.requires.least e in grind (arith, nat_tests, told)

pub returns-in-Some-Short : goal.returns-in-Some-Short
returns-in-Some-Short c packet e =
    let told = by_bytes c.args.active.now c.args.frame.now packet c.requires.least e in grind (arith, nat_tests, told)

pub returns-then-from-number : goal.returns-then-from-number
returns-then-from-number c packet e =
    let told = by_bytes c.args.active.now c.args.frame.now packet c.requires.least e in grind (arith, nat_tests, told)

pub returns-else-from-number : goal.returns-else-from-number
returns-else-from-number c packet e =
    let told = by_bytes c.args.active.now c.args.frame.now packet c.requires.least e in grind (arith, nat_tests, told)

pub returns-in-None : goal.returns-in-None
returns-in-None c packet e =
    let told = by_bytes c.args.active.now c.args.frame.now packet c.requires.least e in grind (arith, nat_tests, told)

pub returns-in-None-2 : goal.returns-in-None-2
returns-in-None-2 c packet e =
    let told = by_bytes c.args.active.now c.args.frame.now packet c.requires.least e in grind (arith, nat_tests, told)
