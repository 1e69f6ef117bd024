use Rattle.std.proofs.Common.{◌≡◌, take}
use Rattle.clap.specs.Simple.{app_of}
use Rattle.eb_options.specs.Items.{texts}
use Rattle.eb_options.specs.Matches.{app}
use Rattle.eb_options.proofs.matches.make_command.Given as goal

abbrev pub invariant-loop-name : goal.invariant-loop-name
invariant-loop-name l = app_of l.command ≡ app (texts (take l.name-index l.fn.names))
