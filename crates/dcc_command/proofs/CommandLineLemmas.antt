-- clap's contracts settle what this command line does with any words
use Rattle.std.proofs.Common.{◌≡◌, refl, true}
use Rattle.clap.specs.Words.{is_simple, is_simple_and_free}
use Rattle.clap.proofs.OnLiterals.{clap_on_literals}
use Rattle.dcc_command.specs.CommandLine.{dcc_app}

pub is_free : is_simple_and_free dcc_app ≡ true
unfolding clap_on_literals
is_free = refl

pub is_plain : is_simple dcc_app ≡ true
unfolding clap_on_literals
is_plain = refl
