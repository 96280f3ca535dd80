-- What the sample's scripts ask of given answers, and what they cost, as equations to rewrite by.
use Rattle.std.proofs.Common.{◌≡◌, ℕ, List, [], ◌∷◌, refl}
use Rattle.std.specs.Prelude.{codes, true, false, Some}
use Rattle.std.specs.Fmt.{digits}
use Rattle.fp_model.specs.declared.name.Name.{Name}
use Rattle.fp_model.specs.declared.calls.Call.{Call}
use Rattle.fp_model.specs.declared.calls.Call.TheVariants as call
use Rattle.fp_model.specs.declared.calls.Get.TheVariants.{Unique}
use Rattle.fp_model.specs.declared.scripts.Statement.TheFolds.{fold-roll-Statement}
use Rattle.fp_model.specs.Spellings.{be16}
use Rattle.fp_model.specs.Asking.{Asks, Replies, ask, full_cost}
use Rattle.fp_rows.specs.Hex.{hex}
use Rattle.fp_rows.specs.Sample.{sample_defs, deposit_script, wdraw_script, ask_script, two_script, message_for, lettered, showing}
use Rattle.fp_model.proofs.ProgramLemmas.{run_roll}

pub deposit_asks : ask sample_defs deposit_script.statements (message_for deposit_script (codes "A001 10")) [] ≡ Asks
    (call.Fld 0 (codes "A001") (hex (codes "42414c2020202020 20 2b 0002 3130 20")))
unfolding ask be16 digits
deposit_asks = simp (run_roll) refl

pub deposit_replies : ask sample_defs deposit_script.statements (message_for deposit_script (codes "A001 10"))
    (lettered (codes "  ") (codes " ") ∷ []) ≡ Replies (codes "NEW")
unfolding ask be16 digits
deposit_replies = simp (run_roll) refl

pub deposit_costs : full_cost deposit_script.statements ≡ 5
deposit_costs = simp (fold-roll-Statement) refl

-- whoever asks, and whatever its line was
pub withdrawal_asks : (lterm : Name) (line : List ℕ)
    → ask sample_defs wdraw_script.statements (record (message_for wdraw_script (codes "A001 60"))
    { lterm = lterm; line = line }) [] ≡ Asks (call.Fld 0 (codes "A001")
    (hex (codes "42414c2020202020 20 48 0002 3630 2a 42414c2020202020 20 2d 0002 3630 20")))
unfolding ask be16 digits
withdrawal_asks lterm line = simp (run_roll) refl

pub withdrawal_replies : (lterm : Name) (line : List ℕ)
    → ask sample_defs wdraw_script.statements (record (message_for wdraw_script (codes "A001 60"))
    { lterm = lterm; line = line }) (lettered (codes "  ") (codes "  ") ∷ []) ≡ Replies (codes "PAID 60")
unfolding ask be16 digits
withdrawal_replies lterm line = simp (run_roll) refl

pub withdrawal_costs : full_cost wdraw_script.statements ≡ 5
withdrawal_costs = simp (fold-roll-Statement) refl

pub asking_asks : ask sample_defs ask_script.statements (message_for ask_script (codes "A001")) [] ≡ Asks
    (call.Get Unique false 0 (record { segment = 0; key = Some (codes "A001") } ∷ []))
unfolding ask be16 digits
asking_asks = simp (run_roll) refl

pub asking_replies : ask sample_defs ask_script.statements (message_for ask_script (codes "A001"))
    (showing 0 (hex (codes "41303031 0000110c")) ∷ []) ≡ Replies (codes "110")
unfolding ask be16 digits
asking_replies = simp (run_roll) refl

pub asking_replies_later : ask sample_defs ask_script.statements (message_for ask_script (codes "A001"))
    (showing 0 (hex (codes "41303031 0000130c")) ∷ []) ≡ Replies (codes "130")
unfolding ask be16 digits
asking_replies_later = simp (run_roll) refl

pub asking_costs : full_cost ask_script.statements ≡ 5
asking_costs = simp (fold-roll-Statement) refl

-- a hold of a customer, by its key
abbrev pub customer_held : List ℕ → Call
customer_held key = call.Get Unique true 2 (record { segment = 0; key = Some key } ∷ [])

pub two_ask_first : (lterm : Name) (line : List ℕ) → ask sample_defs two_script.statements
    (record (message_for two_script (codes "C001 C003")) { lterm = lterm; line = line }) [] ≡ Asks
    (customer_held (codes "C001"))
unfolding ask be16 digits
two_ask_first lterm line = simp (run_roll) refl

pub two_ask_second : (lterm : Name) (line : List ℕ)
    → ask sample_defs two_script.statements (record (message_for two_script (codes "C001 C003"))
    { lterm = lterm; line = line }) (showing 0 (codes "C001ANN         ") ∷ []) ≡ Asks (customer_held (codes "C003"))
unfolding ask be16 digits
two_ask_second lterm line = simp (run_roll) refl

pub two_reply : (lterm : Name) (line : List ℕ) → ask sample_defs two_script.statements
    (record (message_for two_script (codes "C001 C003")) { lterm = lterm; line = line })
    (showing 0 (codes "C001ANN         ") ∷ showing 0 (codes "C003BOB         ") ∷ []) ≡ Replies (codes "BOTH")
unfolding ask be16 digits
two_reply lterm line = simp (run_roll) refl

pub others_ask_first : (lterm : Name) (line : List ℕ)
    → ask sample_defs two_script.statements (record (message_for two_script (codes "C003 C001"))
    { lterm = lterm; line = line }) [] ≡ Asks (customer_held (codes "C003"))
unfolding ask be16 digits
others_ask_first lterm line = simp (run_roll) refl

pub others_ask_second : (lterm : Name) (line : List ℕ)
    → ask sample_defs two_script.statements (record (message_for two_script (codes "C003 C001"))
    { lterm = lterm; line = line }) (showing 0 (codes "C003BOB         ") ∷ []) ≡ Asks (customer_held (codes "C001"))
unfolding ask be16 digits
others_ask_second lterm line = simp (run_roll) refl
