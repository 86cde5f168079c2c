-- The result of the program `dcc`. In these definitions, `old` is the state of the input and of the
-- writer before the run, and `new` is their state after the run.
use Rattle.std.specs.Prelude.{◌≡◌, ◌≢◌, ◌⊎◌, List, [], ◌∷◌, Result, Ok, Err, codes}
use Rattle.clap.specs.Words.{IsAmong, Text, fault_of, subcommand_of}
use Rattle.clap.specs.declared.error.kind.ErrorKind.{ErrorKind}
use Rattle.clap.specs.declared.error.kind.ErrorKind.TheVariants as kinds
use Rattle.dcc_io.specs.declared.fault.ToolFault.{ToolFault}
use Rattle.dcc_io.specs.declared.fault.ToolFault.TheVariants as told
use Rattle.dcc_io.specs.declared.fault.Usage.TheVariants as usages
use Rattle.dcc_command.specs.CommandLine.{dcc_app}
use Rattle.dcc_tool.specs.declared.ending.Ending.{Ending}
use Rattle.dcc_tool.specs.declared.ending.Ending.TheVariants as ending
use Rattle.dcc_tool.specs.declared.performing.Request.{Request}
use Rattle.dcc_tool.specs.Performs.{Performs, Streams}
use Rattle.dcc.specs.Asked.{IsRequestOf}

-- the first word of a list is `dcc`, which stands in place of the name of the program
abbrev pub BeginsWithName : List Text → Type 0
BeginsWithName [] = ⊥
BeginsWithName (name ∷ arguments) = name ≡ codes "dcc"

-- the words of a command line are `dcc` and the arguments, or the runtime could not return the
-- arguments. In the second case `refused` is the error U1 or U6. The definition does not say which
-- arguments the runtime has or why it could not return them, since `env::args` has no contract.
abbrev pub AreWords : Result (List Text) ToolFault → Type 0
AreWords (Ok words) = BeginsWithName words
AreWords (Err refused) = (refused ≡ told.Usage usages.Words) ⊎ (refused ≡ told.NoMemory)

-- `result` is the result of the program after clap returned an error of the kind `kind`. If clap
-- failed to allocate, `result` is the error U6. If the arguments request the help or the version,
-- `result` is Ok, or U5 after a failed write. For every other kind, `result` is the error U1.
pub record EndsFor (kind : ErrorKind) (result : Result Ending ToolFault) : Type 0 where
  pub no_memory : kind ≡ kinds.OutOfMemory → result ≡ Err told.NoMemory
  pub asked_for : (kind ≡ kinds.DisplayHelp) ⊎ (kind ≡ kinds.DisplayVersion)
      → (result ≡ Ok ending.Done) ⊎ (result ≡ Err told.Write)
  pub wrong : kind ≢ kinds.OutOfMemory → kind ≢ kinds.DisplayHelp → kind ≢ kinds.DisplayVersion
      → result ≡ Err (told.Usage usages.Words)

-- clap rejected `words` with an error of the kind `kind`, which these words have, or because an
-- allocation failed. Nothing was read from the input or written to the writer.
abbrev pub Rejects : List Text → Streams → Result Ending ToolFault → Streams → Type 0
Rejects words old result new =
    (kind : ErrorKind) × ((kind ≡ kinds.OutOfMemory) ⊎ IsAmong kind (fault_of dcc_app words)) × EndsFor kind result
    × (new ≡ old)

-- the operation of `request` was executed. If accepted arguments have the error `refused`, `result`
-- is this error, and nothing was read from the input or written to the writer.
abbrev pub PerformsAsked : Result Request ToolFault → Streams → Result Ending ToolFault → Streams → Type 0
PerformsAsked (Ok request) old result new = Performs request old result new
PerformsAsked (Err refused) old result new = (result ≡ Err refused) × (new ≡ old)

-- clap accepted `words`, since they have no error for clap. The words express `asked`, which is a
-- request or an error. The operation of the request was executed, or `result` is the error.
abbrev pub Accepts : List Text → Streams → Result Ending ToolFault → Streams → Type 0
Accepts words old result new =
    (fault_of dcc_app words ≡ []) × (asked : Result Request ToolFault) × IsRequestOf (subcommand_of dcc_app words) asked
    × PerformsAsked asked old result new

-- clap rejected or accepted the words of the command line. If the runtime could not return the
-- arguments, `result` is the error `refused`, and nothing was read or written.
abbrev pub RunsCommandLine : Result (List Text) ToolFault → Streams → Result Ending ToolFault → Streams → Type 0
RunsCommandLine (Ok words) old result new = Rejects words old result new ⊎ Accepts words old result new
RunsCommandLine (Err refused) old result new = (result ≡ Err refused) × (new ≡ old)
