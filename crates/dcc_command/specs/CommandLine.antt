-- The command line of the program.
use Rattle.std.specs.Prelude.{true, Some, codes, pos}
use Rattle.clap.specs.Words.{App, Rule, Text, new_app, new_rule, with_rule, with_subcommand}
use Rattle.clap.specs.declared.builder.action.ArgAction.TheVariants.{Set, SetTrue}
use Rattle.clap.specs.declared.builder.value_parser.ValueParser.TheVariants as values

-- the rule of a flag such as `--words`
abbrev pub flag_rule : Text → Rule
flag_rule name = record (new_rule name) { long = Some name; action = Some SetTrue }

-- the rule of an option such as `--queue N`, with N from 0 to 255
abbrev pub size_rule : Text → Rule
size_rule name = record (new_rule name) { long = Some name; parser = Some (values.Signed (pos 0) (pos 255)) }

-- the rule of the required option `--who W`
abbrev pub who_rule : Rule
who_rule =
    record (new_rule (codes "who")) { long = Some (codes "who"); required = true; action = Some Set; value_names = 1 }

-- the rule of the option `--spikes US`, with US from 1 to 25
abbrev pub spikes_rule : Rule
spikes_rule =
    record (new_rule (codes "spikes"))
    { long = Some (codes "spikes"); action = Some Set; parser = Some (values.Signed (pos 1) (pos 25)); value_names = 1 }

-- the rule of the required option `--cv N`, with N from 1 to 1024
abbrev pub cv_rule : Rule
cv_rule =
    record (new_rule (codes "cv"))
    { long = Some (codes "cv"); required = true; action = Some Set; parser = Some (values.Signed (pos 1) (pos 1024)) }

abbrev pub show_app : App
show_app = with_rule (with_rule (new_app (codes "show")) (flag_rule (codes "words"))) (flag_rule (codes "plain"))

abbrev pub lost_app : App
lost_app = with_rule (with_rule (new_app (codes "lost")) (flag_rule (codes "words"))) spikes_rule

-- the subcommand `encode` with its three flags
abbrev pub encode_flags : App
encode_flags =
    with_rule (with_rule (with_rule (new_app (codes "encode")) (flag_rule (codes "hex"))) (flag_rule (codes "service")))
    (flag_rule (codes "station"))

-- the subcommand `encode` with its three flags and its three sizes
abbrev pub encode_app : App
encode_app =
    with_rule (with_rule (with_rule encode_flags (size_rule (codes "queue"))) (size_rule (codes "slots")))
    (size_rule (codes "repeats"))

abbrev pub run_app : App
run_app = new_app (codes "run")

abbrev pub same_app : App
same_app = with_rule (new_app (codes "same")) who_rule

abbrev pub readcv_app : App
readcv_app = with_rule (with_rule (new_app (codes "readcv")) cv_rule) (flag_rule (codes "empty"))

abbrev pub timing_app : App
timing_app = new_app (codes "timing")

abbrev pub what_app : App
what_app = new_app (codes "what")

-- the program `dcc` without its subcommands. It has a version and requires a subcommand, and `help`
-- is no subcommand.
abbrev pub top_app : App
top_app =
    record {
      top =
          record (new_app (codes "dcc")).top
          { has_version = true; subcommand_required = true; disable_help_subcommand = true };
      subs = (new_app (codes "dcc")).subs;
    }

-- the program `dcc` with all its subcommands
abbrev pub dcc_app : App
dcc_app =
    with_subcommand
    (with_subcommand
    (with_subcommand
    (with_subcommand
    (with_subcommand
    (with_subcommand (with_subcommand (with_subcommand top_app show_app.top) lost_app.top) encode_app.top) run_app.top)
    same_app.top) readcv_app.top) timing_app.top) what_app.top
