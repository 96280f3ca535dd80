-- The command line as `clap` sees it: a command without a reading of its own, and a subcommand with a folder for each
-- name.
use Rattle.std.specs.Borrow.{Bor}
use Rattle.std.specs.Prelude.{List, [], ◌∷◌, codes, true}
use Rattle.clap.specs.Words.{App, Text, new_app, new_rule, with_rule, with_subcommand}

-- a subcommand that wants a folder
abbrev pub folder_app : Text → App
folder_app name = with_rule (new_app name) (record (new_rule (codes "DIR")) { required = true })

-- a command that wants one of its subcommands
abbrev pub top_app : App
top_app = record {
  top = record (new_app (codes "ims_fp")).top
      { no_binary_name = true; disable_help_subcommand = true; subcommand_required = true };
  subs = [];
}

-- a command with one more subcommand for each name
abbrev pub with_folders : App → List (Bor Text) → App
with_folders app [] = app
with_folders app (name ∷ names) = with_folders (with_subcommand app (folder_app name.now).top) names

abbrev pub program_app : App
program_app =
    with_subcommand
    (with_subcommand
    (with_subcommand
    (with_subcommand
    (with_subcommand (with_subcommand top_app (folder_app (codes "define")).top) (folder_app (codes "run")).top)
    (folder_app (codes "show")).top)
    (folder_app (codes "log")).top)
    (folder_app (codes "migrate")).top)
    (folder_app (codes "audit")).top
