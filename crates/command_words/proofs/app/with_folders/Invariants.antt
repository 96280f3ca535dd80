-- what is to come of the names from this one on
use Rattle.std.proofs.Common.{◌≡◌, drop}
use Rattle.clap.specs.Words.{app_of}
use Rattle.command_words.specs.inside.Apps.{with_folders}
use Rattle.command_words.proofs.app.with_folders.Given as goal

abbrev pub invariant-loop-name : goal.invariant-loop-name
invariant-loop-name l =
    with_folders (app_of l.command) (drop l.name-index l.names) ≡ with_folders (app_of l.initial.command) l.names
