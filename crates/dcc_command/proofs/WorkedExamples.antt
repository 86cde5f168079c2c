-- Worked command lines, computed on the definitions.
use Rattle.std.proofs.Common.{◌≡◌, refl, codes, List, [], ◌∷◌, Some, None, Option, option_map}
use Rattle.clap.specs.Words.{Text, fault_of, one_of, subcommand_of}
use Rattle.clap.specs.declared.error.kind.ErrorKind.TheVariants as kind
use Rattle.clap.proofs.OnLiterals.{clap_on_literals}
use Rattle.dcc_command.specs.CommandLine.{dcc_app}

-- the subcommand that is entered, and what `get_one` reads of this argument
abbrev read_of : Text → List Text → Option (Text × Option Text)
read_of id words = option_map (λ p. (p.0, one_of id p.1)) (subcommand_of dcc_app words)

show_in_words : read_of (codes "words") (codes "dcc" ∷ codes "show" ∷ codes "--words" ∷ []) ≡ Some
    (codes "show", Some (codes "true"))
unfolding clap_on_literals
show_in_words = refl

show_in_hex : read_of (codes "words") (codes "dcc" ∷ codes "show" ∷ []) ≡ Some (codes "show", Some (codes "false"))
unfolding clap_on_literals
show_in_hex = refl

show_in_plain_words : read_of (codes "plain") (codes "dcc" ∷ codes "show" ∷ codes "--plain" ∷ []) ≡ Some
    (codes "show", Some (codes "true"))
unfolding clap_on_literals
show_in_plain_words = refl

lost_in_words : read_of (codes "words") (codes "dcc" ∷ codes "lost" ∷ codes "--words" ∷ []) ≡ Some
    (codes "lost", Some (codes "true"))
unfolding clap_on_literals
lost_in_words = refl

a_queue_of_9 : read_of (codes "queue")
    (codes "dcc" ∷ codes "encode" ∷ codes "--station" ∷ codes "--queue=9" ∷ []) ≡ Some
    (codes "encode", Some (codes "9"))
unfolding clap_on_literals
a_queue_of_9 = refl

no_queue : read_of (codes "queue") (codes "dcc" ∷ codes "encode" ∷ codes "--station" ∷ []) ≡ Some (codes "encode", None)
unfolding clap_on_literals
no_queue = refl

cv_29 : read_of (codes "cv") (codes "dcc" ∷ codes "readcv" ∷ codes "--cv" ∷ codes "29" ∷ []) ≡ Some
    (codes "readcv", Some (codes "29"))
unfolding clap_on_literals
cv_29 = refl

all_is_well : fault_of dcc_app (codes "dcc" ∷ codes "same" ∷ codes "--who" ∷ codes "s3" ∷ []) ≡ []
unfolding clap_on_literals
all_is_well = refl

no_subcommand : fault_of dcc_app (codes "dcc" ∷ []) ≡ kind.MissingSubcommand ∷ []
unfolding clap_on_literals
no_subcommand = refl

no_decoder : fault_of dcc_app (codes "dcc" ∷ codes "same" ∷ []) ≡ kind.MissingRequiredArgument ∷ []
unfolding clap_on_literals
no_decoder = refl
