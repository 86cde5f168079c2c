use Rattle.std.proofs.Common.{refl}
use Rattle.dcc_io.proofs.SpellsLemmas.{Spells-count, Spells-star, Spells-byte}
use Rattle.dcc_io.proofs.word.RunWord.push.Goals as goal

pub returns-in-Some : goal.returns-in-Some
returns-in-Some c word spells =
    Spells-count _ c.args.byte spells c.still_dashes-self.ensures c.in-Some.is c.push.ensures refl refl

pub returns-then-byte-eq42 : goal.returns-then-byte-eq42
returns-then-byte-eq42 c word spells =
    Spells-star _ c.args.byte spells c.still_dashes-self.ensures c.in-None.is c.if-byte-eq42.true c.new.ensures refl
    refl

pub returns-else-byte-eq42 : goal.returns-else-byte-eq42
returns-else-byte-eq42 c word spells =
    Spells-byte _ c.args.byte spells c.still_dashes-self.ensures c.in-None.is c.if-byte-eq42.false
    c.push-else-byte-eq42.ensures refl
