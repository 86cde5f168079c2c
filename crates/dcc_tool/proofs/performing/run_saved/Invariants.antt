use Rattle.std.proofs.Common.{◌≡◌, map, take}
use Rattle.dcc_tool.specs.Performs.{decoder_of}
use Rattle.dcc_tool.proofs.performing.run_saved.OwnLists.{own-1}
use Rattle.dcc_tool.proofs.performing.run_saved.Given as goal

abbrev pub invariant-decoders : goal.invariant-decoders
invariant-decoders g l =
    map (λ decoder.
    ((own-1.entry decoder.vtable).1.who decoder.value, (own-1.entry decoder.vtable).1.registers decoder.value))
    l.fleet.items
    ≡ map decoder_of (take l.decoder-index l.decoder-items)
