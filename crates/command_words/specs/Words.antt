-- The words of a command.
use Rattle.std.specs.Prelude.{ℕ, List, [], ◌∷◌, Bool, false, not, ◌==◌, if◌then◌else◌, codes, Option, Some, None}
use Rattle.fp_model.specs.Texts.{same_text}
use Rattle.command_words.specs.declared.words.Command.{Command}
use Rattle.command_words.specs.declared.words.Command.TheVariants.{Define, Run, Show, Log, Migrate, Audit}

-- a word that has a byte and doesn't begin with a minus sign
abbrev pub is_word : List ℕ → Bool
is_word [] = false
is_word (b ∷ bs) = not (b == 45)

-- the command of a name
abbrev pub command_named : List ℕ → Option Command
command_named name =
    if same_text name (codes "define") then Some Define
    else (if same_text name (codes "run") then Some Run
    else (if same_text name (codes "show") then Some Show
    else (if same_text name (codes "log") then Some Log
    else (if same_text name (codes "migrate") then Some Migrate
    else (if same_text name (codes "audit") then Some Audit else None)))))

-- the command that words are: its name, and a folder
abbrev pub command_of : List (List ℕ) → Option Command
command_of (name ∷ folder ∷ []) = if is_word folder then command_named name else None
command_of _ = None
