use Rattle.std.proofs.Common.{◌∙◌, sym, ap, false}
use Rattle.std.specs.Option.{option_map_or}
use Rattle.dcc_regs.specs.Inner.HearsByAddress.{is_for}
use Rattle.dcc_regs.proofs.HearsByBytes.{hears_by_bytes}
use Rattle.dcc_regs.proofs.heard.loco_hears.Goals as goal

pub returns-in-Some : goal.returns-in-Some
returns-in-Some c =
    c.is_for_active.ensures
    ∙ ap (λ o. option_map_or (is_for c.args.active.now) o false) (sym c.in-Some.is ∙ c.address_of.ensures)
    ∙ hears_by_bytes c.args.active.now c.args.packet.now

pub returns-in-None : goal.returns-in-None
returns-in-None c =
    ap (λ o. option_map_or (is_for c.args.active.now) o false) (sym c.in-None.is ∙ c.address_of.ensures)
    ∙ hears_by_bytes c.args.active.now c.args.packet.now
