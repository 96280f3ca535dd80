-- What clap makes of words, by computation on the command line of the program.
use Rattle.std.proofs.Common.{◌≡◌, ℕ, List, [], ◌∷◌, codes, true, false, refl, ◌==◌, bytes_eq, Option, None, Some, option_map, Box}
use Rattle.std.specs.Box.{box_value}
use Rattle.clap.specs.Words.{Row, Text, fault_of, is_simple, is_simple_and_free, subcommand_of}
use Rattle.clap.specs.Simple.{subcommand_rows}
use Rattle.clap.specs.declared.parser.matches.ArgMatches.TheViews.{out-SubCommand}
use Rattle.clap.specs.declared.parser.matches.SubCommand.{SubCommand}
use Rattle.clap.specs.declared.error.kind.ErrorKind.TheVariants as kind
use Rattle.clap.proofs.OnLiterals.{clap_on_literals}
use Rattle.command_words.specs.inside.Apps.{program_app}

pub simple_and_free : is_simple_and_free program_app ≡ true
unfolding clap_on_literals
simple_and_free = refl

pub simple : is_simple program_app ≡ true
unfolding clap_on_literals
simple = refl

-- the name of the subcommand that words name
abbrev pub name_in : List (List ℕ) → Option Text
name_in words = option_map (λ (p : Text × List Row). p.0) (subcommand_of program_app words)

-- ---- no words, and a first word that names no subcommand

pub no_words : fault_of program_app [] ≡ kind.MissingSubcommand ∷ []
unfolding clap_on_literals
no_words = refl

pub unknown : (b : ℕ) (bs : List ℕ) (more : List (List ℕ)) → (b == 45) ≡ false
    → bytes_eq (codes "define") (b ∷ bs) ≡ false → bytes_eq (codes "run") (b ∷ bs) ≡ false
    → bytes_eq (codes "show") (b ∷ bs) ≡ false → bytes_eq (codes "log") (b ∷ bs) ≡ false
    → bytes_eq (codes "migrate") (b ∷ bs) ≡ false → bytes_eq (codes "audit") (b ∷ bs) ≡ false
    → fault_of program_app ((b ∷ bs) ∷ more) ≡ kind.UnknownArgument ∷ kind.InvalidSubcommand ∷ []
unfolding clap_on_literals
unknown b bs more h d r s l m a = simp (h, d, r, s, l, m, a) refl

-- ---- a name, with no, one and two words behind it

pub define_1 : fault_of program_app (codes "define" ∷ []) ≡ kind.MissingRequiredArgument ∷ []
unfolding clap_on_literals
define_1 = refl

pub define_2 : (b : ℕ) (bs : List ℕ) → (b == 45) ≡ false → fault_of program_app (codes "define" ∷ (b ∷ bs) ∷ []) ≡ []
unfolding clap_on_literals
define_2 b bs h = simp h refl

pub define_3 : (b d : ℕ) (bs ds : List ℕ) → (b == 45) ≡ false → (d == 45) ≡ false
    → fault_of program_app (codes "define" ∷ (b ∷ bs) ∷ (d ∷ ds) ∷ []) ≡ kind.UnknownArgument ∷ []
unfolding clap_on_literals
define_3 b d bs ds h k = simp (h, k) refl

pub define_name : (b : ℕ) (bs : List ℕ) → (b == 45) ≡ false
    → name_in (codes "define" ∷ (b ∷ bs) ∷ []) ≡ Some (codes "define")
unfolding clap_on_literals
define_name b bs h = refl

pub run_1 : fault_of program_app (codes "run" ∷ []) ≡ kind.MissingRequiredArgument ∷ []
unfolding clap_on_literals
run_1 = refl

pub run_2 : (b : ℕ) (bs : List ℕ) → (b == 45) ≡ false → fault_of program_app (codes "run" ∷ (b ∷ bs) ∷ []) ≡ []
unfolding clap_on_literals
run_2 b bs h = simp h refl

pub run_3 : (b d : ℕ) (bs ds : List ℕ) → (b == 45) ≡ false → (d == 45) ≡ false
    → fault_of program_app (codes "run" ∷ (b ∷ bs) ∷ (d ∷ ds) ∷ []) ≡ kind.UnknownArgument ∷ []
unfolding clap_on_literals
run_3 b d bs ds h k = simp (h, k) refl

pub run_name : (b : ℕ) (bs : List ℕ) → (b == 45) ≡ false
    → name_in (codes "run" ∷ (b ∷ bs) ∷ []) ≡ Some (codes "run")
unfolding clap_on_literals
run_name b bs h = refl

pub show_1 : fault_of program_app (codes "show" ∷ []) ≡ kind.MissingRequiredArgument ∷ []
unfolding clap_on_literals
show_1 = refl

pub show_2 : (b : ℕ) (bs : List ℕ) → (b == 45) ≡ false → fault_of program_app (codes "show" ∷ (b ∷ bs) ∷ []) ≡ []
unfolding clap_on_literals
show_2 b bs h = simp h refl

pub show_3 : (b d : ℕ) (bs ds : List ℕ) → (b == 45) ≡ false → (d == 45) ≡ false
    → fault_of program_app (codes "show" ∷ (b ∷ bs) ∷ (d ∷ ds) ∷ []) ≡ kind.UnknownArgument ∷ []
unfolding clap_on_literals
show_3 b d bs ds h k = simp (h, k) refl

pub show_name : (b : ℕ) (bs : List ℕ) → (b == 45) ≡ false
    → name_in (codes "show" ∷ (b ∷ bs) ∷ []) ≡ Some (codes "show")
unfolding clap_on_literals
show_name b bs h = refl

pub log_1 : fault_of program_app (codes "log" ∷ []) ≡ kind.MissingRequiredArgument ∷ []
unfolding clap_on_literals
log_1 = refl

pub log_2 : (b : ℕ) (bs : List ℕ) → (b == 45) ≡ false → fault_of program_app (codes "log" ∷ (b ∷ bs) ∷ []) ≡ []
unfolding clap_on_literals
log_2 b bs h = simp h refl

pub log_3 : (b d : ℕ) (bs ds : List ℕ) → (b == 45) ≡ false → (d == 45) ≡ false
    → fault_of program_app (codes "log" ∷ (b ∷ bs) ∷ (d ∷ ds) ∷ []) ≡ kind.UnknownArgument ∷ []
unfolding clap_on_literals
log_3 b d bs ds h k = simp (h, k) refl

pub log_name : (b : ℕ) (bs : List ℕ) → (b == 45) ≡ false
    → name_in (codes "log" ∷ (b ∷ bs) ∷ []) ≡ Some (codes "log")
unfolding clap_on_literals
log_name b bs h = refl

pub migrate_1 : fault_of program_app (codes "migrate" ∷ []) ≡ kind.MissingRequiredArgument ∷ []
unfolding clap_on_literals
migrate_1 = refl

pub migrate_2 : (b : ℕ) (bs : List ℕ) → (b == 45) ≡ false → fault_of program_app (codes "migrate" ∷ (b ∷ bs) ∷ []) ≡ []
unfolding clap_on_literals
migrate_2 b bs h = simp h refl

pub migrate_3 : (b d : ℕ) (bs ds : List ℕ) → (b == 45) ≡ false → (d == 45) ≡ false
    → fault_of program_app (codes "migrate" ∷ (b ∷ bs) ∷ (d ∷ ds) ∷ []) ≡ kind.UnknownArgument ∷ []
unfolding clap_on_literals
migrate_3 b d bs ds h k = simp (h, k) refl

pub migrate_name : (b : ℕ) (bs : List ℕ) → (b == 45) ≡ false
    → name_in (codes "migrate" ∷ (b ∷ bs) ∷ []) ≡ Some (codes "migrate")
unfolding clap_on_literals
migrate_name b bs h = refl

pub audit_1 : fault_of program_app (codes "audit" ∷ []) ≡ kind.MissingRequiredArgument ∷ []
unfolding clap_on_literals
audit_1 = refl

pub audit_2 : (b : ℕ) (bs : List ℕ) → (b == 45) ≡ false → fault_of program_app (codes "audit" ∷ (b ∷ bs) ∷ []) ≡ []
unfolding clap_on_literals
audit_2 b bs h = simp h refl

pub audit_3 : (b d : ℕ) (bs ds : List ℕ) → (b == 45) ≡ false → (d == 45) ≡ false
    → fault_of program_app (codes "audit" ∷ (b ∷ bs) ∷ (d ∷ ds) ∷ []) ≡ kind.UnknownArgument ∷ []
unfolding clap_on_literals
audit_3 b d bs ds h k = simp (h, k) refl

pub audit_name : (b : ℕ) (bs : List ℕ) → (b == 45) ≡ false
    → name_in (codes "audit" ∷ (b ∷ bs) ∷ []) ≡ Some (codes "audit")
unfolding clap_on_literals
audit_name b bs h = refl

-- the name of a subcommand, by its rows
module _ {Z : Type 0} where
  pub name_of_rows : (found : Option (Box SubCommand Z))
      → option_map (λ (p : Text × List Row). p.0) (subcommand_rows found)
      ≡ option_map (λ (b : Box SubCommand Z). (out-SubCommand (box_value b)).name.now) found
  name_of_rows None = refl
  name_of_rows (Some b) = refl
