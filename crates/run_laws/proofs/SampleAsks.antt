-- What the scripts of the sample run ask.
use Rattle.std.proofs.Common.{◌≡◌, List, [], ◌∷◌, refl}
use Rattle.std.specs.Prelude.{ℕ, codes, Bool, true, false, Some, None}
use Rattle.std.specs.Fmt.{digits}
use Rattle.fp_model.specs.declared.calls.Answer.{Answer}
use Rattle.fp_model.specs.declared.calls.Call.{Call}
use Rattle.fp_model.specs.declared.calls.Call.TheVariants as call
use Rattle.fp_model.specs.declared.calls.Get.TheVariants.{Unique}
use Rattle.fp_model.specs.declared.calls.Message.{Message}
use Rattle.fp_model.specs.Spellings.{be16}
use Rattle.fp_model.specs.Fsas.{list_text}
use Rattle.fp_model.specs.Answers.{answered, showing, lettered, blank}
use Rattle.fp_model.specs.Asking.{Asks, Replies, ask}
use Rattle.fp_model.proofs.ProgramLemmas.{run_roll}
use Rattle.run_laws.specs.Sample.{named, sample_defs, changing, crossing, verifying, upgrading}

-- the message of a terminal and a script
abbrev pub from_terminal : List ℕ → List ℕ → List ℕ → Message
from_terminal terminal script line =
    record { lterm = named terminal; tran = named script; text = []; line = line; number = None }

-- the four messages
abbrev pub to_change : Message
to_change = from_terminal (codes "T1") (codes "X") (codes "T1 X")

abbrev pub to_cross : Message
to_cross = from_terminal (codes "T2") (codes "Y") (codes "T2 Y")

abbrev pub to_verify : Message
to_verify = from_terminal (codes "T3") (codes "Z") (codes "T3 Z")

abbrev pub to_upgrade : Message
to_upgrade = from_terminal (codes "T4") (codes "U") (codes "T4 U")

-- the calls, and what they are answered
abbrev pub hold_of : List ℕ → Call
hold_of key = call.Get Unique true 0 (record { segment = 0; key = Some key } ∷ [])

abbrev pub change_of_b : Call
change_of_b = call.Repl 0 (codes "B1")

abbrev pub verify_of_b : Call
verify_of_b =
    call.Fld 0 (codes "B") (list_text
    (record { field = (named (codes "V")).0; status = 32; op = 69; operand = codes "0" } ∷ []))

abbrev pub root_get : Bool → Call
root_get hold = call.Get Unique hold 1 (record { segment = 0; key = None } ∷ [])

-- what the calls are answered
abbrev pub shown_a : Answer
shown_a = showing 0 (codes "A0")

abbrev pub shown_b : Answer
shown_b = showing 0 (codes "B0")

abbrev pub no_root : Answer
no_root = answered (codes "GE")

-- ---- what each script asks after its answers

-- the script X
pub change_asks_a : ask sample_defs changing.statements to_change [] ≡ Asks (hold_of (codes "A"))
unfolding ask
change_asks_a = simp (run_roll) refl

pub change_asks_b : ask sample_defs changing.statements to_change (shown_a ∷ []) ≡ Asks (hold_of (codes "B"))
unfolding ask
change_asks_b = simp (run_roll) refl

pub change_asks_repl : ask sample_defs changing.statements to_change (shown_a ∷ shown_b ∷ []) ≡ Asks change_of_b
unfolding ask
change_asks_repl = simp (run_roll) refl

pub change_replies : ask sample_defs changing.statements to_change (shown_a ∷ shown_b ∷ answered blank ∷ [])
    ≡ Replies (codes "CHANGED")
unfolding ask
change_replies = simp (run_roll) refl

-- the script Y
pub cross_asks_b : ask sample_defs crossing.statements to_cross [] ≡ Asks (hold_of (codes "B"))
unfolding ask
cross_asks_b = simp (run_roll) refl

pub cross_asks_a : ask sample_defs crossing.statements to_cross (shown_b ∷ []) ≡ Asks (hold_of (codes "A"))
unfolding ask
cross_asks_a = simp (run_roll) refl

-- the script Z
pub verify_asks : ask sample_defs verifying.statements to_verify [] ≡ Asks verify_of_b
unfolding ask be16 digits
verify_asks = simp (run_roll) refl

pub verify_replies : ask sample_defs verifying.statements to_verify (lettered blank (32 ∷ []) ∷ [])
    ≡ Replies (codes "SEEN")
unfolding ask be16 digits
verify_replies = simp (run_roll) refl

pub verify_meets_change : ask sample_defs verifying.statements to_verify (lettered (codes "FE") (68 ∷ []) ∷ [])
    ≡ Replies (codes "SEEN")
unfolding ask be16 digits
verify_meets_change = simp (run_roll) refl

-- the script U
pub upgrade_looks : ask sample_defs upgrading.statements to_upgrade [] ≡ Asks (root_get false)
unfolding ask
upgrade_looks = simp (run_roll) refl

pub upgrade_holds : ask sample_defs upgrading.statements to_upgrade (no_root ∷ []) ≡ Asks (root_get true)
unfolding ask
upgrade_holds = simp (run_roll) refl

pub upgrade_replies : ask sample_defs upgrading.statements to_upgrade (no_root ∷ no_root ∷ []) ≡ Replies (codes "HELD")
unfolding ask
upgrade_replies = simp (run_roll) refl
