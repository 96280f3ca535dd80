-- What scripts ask under definitions with a number of tries: the same as without.
use Rattle.std.proofs.Common.{◌≡◌, ℕ, List, [], ◌∷◌, refl}
use Rattle.std.specs.Prelude.{codes, true, Some}
use Rattle.std.specs.Fmt.{digits}
use Rattle.fp_model.specs.declared.name.Name.{Name}
use Rattle.fp_model.specs.declared.calls.Call.{Call}
use Rattle.fp_model.specs.declared.calls.Call.TheVariants as call
use Rattle.fp_model.specs.declared.calls.Get.TheVariants.{Unique}
use Rattle.fp_model.specs.declared.calls.Message.{Message}
use Rattle.fp_model.specs.declared.scripts.Script.{Script}
use Rattle.fp_model.specs.Spellings.{be16}
use Rattle.fp_model.specs.Asking.{Asks, Replies, Rolls, ask}
use Rattle.fp_rows.specs.Hex.{hex}
use Rattle.fp_rows.specs.Sample.{wdraw_script, two_script, message_for, lettered, showing}
use Rattle.fp_rows.specs.Retries.{defs_with, hold_script}
use Rattle.fp_rows.proofs.Asks.{customer_held}
use Rattle.fp_model.proofs.ProgramLemmas.{run_roll}

-- a hold of an account, by its key
abbrev pub account_held : List ℕ → Call
account_held key = call.Get Unique true 0 (record { segment = 0; key = Some key } ∷ [])

-- a terminal's message for a script, whatever its line was
abbrev pub message_of : Script → List ℕ → Name → List ℕ → Message
message_of script text lterm line = record (message_for script text) { lterm = lterm; line = line }

pub hold_asks_first : (n : ℕ) (lterm : Name) (line : List ℕ) → ask (defs_with n) hold_script.statements
    (message_of hold_script (codes "A001 A002") lterm line) [] ≡ Asks (account_held (codes "A001"))
unfolding ask be16 digits
hold_asks_first n lterm line = simp (run_roll) refl

pub hold_asks_second : (n : ℕ) (lterm : Name) (line : List ℕ)
    → ask (defs_with n) hold_script.statements (message_of hold_script (codes "A001 A002") lterm line) (showing 0
    (hex (codes "41303031 0000100c")) ∷ []) ≡ Asks (account_held (codes "A002"))
unfolding ask be16 digits
hold_asks_second n lterm line = simp (run_roll) refl

pub hold_replies : (n : ℕ) (lterm : Name) (line : List ℕ) → ask (defs_with n) hold_script.statements
    (message_of hold_script (codes "A001 A002") lterm line) (showing 0 (hex (codes "41303031 0000100c"))
    ∷ showing 0 (hex (codes "41303032 0000050c")) ∷ []) ≡ Replies (codes "BOTH")
unfolding ask be16 digits
hold_replies n lterm line = simp (run_roll) refl

pub others_hold_first : (n : ℕ) (lterm : Name) (line : List ℕ)
    → ask (defs_with n) hold_script.statements (message_of hold_script (codes "A002 A001") lterm line) []
    ≡ Asks (account_held (codes "A002"))
unfolding ask be16 digits
others_hold_first n lterm line = simp (run_roll) refl

pub others_hold_second : (n : ℕ) (lterm : Name) (line : List ℕ)
    → ask (defs_with n) hold_script.statements (message_of hold_script (codes "A002 A001") lterm line) (showing 0
    (hex (codes "41303032 0000050c")) ∷ []) ≡ Asks (account_held (codes "A001"))
unfolding ask be16 digits
others_hold_second n lterm line = simp (run_roll) refl

pub others_hold_reply : (n : ℕ) (lterm : Name) (line : List ℕ)
    → ask (defs_with n) hold_script.statements (message_of hold_script (codes "A002 A001") lterm line) (showing 0
    (hex (codes "41303032 0000050c")) ∷ showing 0 (hex (codes "41303031 0000100c")) ∷ []) ≡ Replies (codes "BOTH")
unfolding ask be16 digits
others_hold_reply n lterm line = simp (run_roll) refl

pub two_asks_first : (lterm : Name) (line : List ℕ) → ask (defs_with 1) two_script.statements (message_of two_script
    (codes "C001 C003") lterm line) [] ≡ Asks (customer_held (codes "C001"))
unfolding ask be16 digits
two_asks_first lterm line = simp (run_roll) refl

pub two_asks_second : (lterm : Name) (line : List ℕ) → ask (defs_with 1) two_script.statements
    (message_of two_script (codes "C001 C003") lterm line) (showing 0 (codes "C001ANN         ") ∷ [])
    ≡ Asks (customer_held (codes "C003"))
unfolding ask be16 digits
two_asks_second lterm line = simp (run_roll) refl

pub two_replies : (lterm : Name) (line : List ℕ) → ask (defs_with 1) two_script.statements (message_of two_script
    (codes "C001 C003") lterm line) (showing 0 (codes "C001ANN         ") ∷ showing 0 (codes "C003BOB         ")
    ∷ []) ≡ Replies (codes "BOTH")
unfolding ask be16 digits
two_replies lterm line = simp (run_roll) refl

pub others_asks_first : (lterm : Name) (line : List ℕ) → ask (defs_with 1) two_script.statements
    (message_of two_script (codes "C003 C001") lterm line) [] ≡ Asks (customer_held (codes "C003"))
unfolding ask be16 digits
others_asks_first lterm line = simp (run_roll) refl

pub others_asks_second : (lterm : Name) (line : List ℕ) → ask (defs_with 1) two_script.statements
    (message_of two_script (codes "C003 C001") lterm line) (showing 0 (codes "C003BOB         ") ∷ [])
    ≡ Asks (customer_held (codes "C001"))
unfolding ask be16 digits
others_asks_second lterm line = simp (run_roll) refl

pub others_reply : (lterm : Name) (line : List ℕ) → ask (defs_with 1) two_script.statements (message_of two_script
    (codes "C003 C001") lterm line) (showing 0 (codes "C003BOB         ") ∷ showing 0 (codes "C001ANN         ")
    ∷ []) ≡ Replies (codes "BOTH")
unfolding ask be16 digits
others_reply lterm line = simp (run_roll) refl

pub withdrawal_asks_again : (lterm : Name) (line : List ℕ) → ask (defs_with 1) wdraw_script.statements
    (message_of wdraw_script (codes "A001 60") lterm line) []
    ≡ Asks (call.Fld 0 (codes "A001") (hex
    (codes "42414c2020202020 20 48 0002 3630 2a 42414c2020202020 20 2d 0002 3630 20")))
unfolding ask be16 digits
withdrawal_asks_again lterm line = simp (run_roll) refl

pub withdrawal_replies_again : (lterm : Name) (line : List ℕ)
    → ask (defs_with 1) wdraw_script.statements (message_of wdraw_script (codes "A001 60") lterm line) (lettered
    (codes "  ") (codes "  ") ∷ []) ≡ Replies (codes "PAID 60")
unfolding ask be16 digits
withdrawal_replies_again lterm line = simp (run_roll) refl

pub withdrawal_rolls : (lterm : Name) (line : List ℕ) → ask (defs_with 1) wdraw_script.statements
    (message_of wdraw_script (codes "A001 60") lterm line) (lettered (codes "FE") (codes "D ") ∷ []) ≡ Rolls 7
unfolding ask be16 digits
withdrawal_rolls lterm line = simp (run_roll) refl
