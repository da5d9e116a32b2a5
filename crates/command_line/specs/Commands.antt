-- Internal. What makes clap accept no words without a subcommand.
use Rattle.std.specs.Prelude.{◌≡◌, true, false}
use Rattle.clap.specs.Words.{app_of}
use Rattle.clap.specs.declared.builder.command.Command.{Command}
use Rattle.clap.specs.declared.builder.command.Command.TheViews.{out-Command}

-- it has no argument that its subcommands take too
abbrev pub IsLocal : Command → Type 0
IsLocal c = (out-Command c).has_globals ≡ false

-- and a subcommand is required
abbrev pub RequiresSubcommand : Command → Type 0
RequiresSubcommand c = IsLocal c × ((app_of c).top.subcommand_required ≡ true)
