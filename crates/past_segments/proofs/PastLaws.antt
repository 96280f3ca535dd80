-- What values show behind the last of them.
use Rattle.std.proofs.Common.{◌≡◌, ℕ, ◌+◌, ◌≤◌, List, [], ◌∷◌, None, refl, ap, Bool, true, false, ◌∙◌, ◌&&◌, arith}
use Rattle.std.specs.Prelude.{nat_le}
use Rattle.std.specs.List.{AllByRecursion, cons_option, list_any}
use Rattle.std.proofs.lemmas.Bool.{leb-false}
use Rattle.fp_model.specs.Texts.{same_text}
use Rattle.past_segments.specs.Times.{EndsBy, IsSettledBy, Past, database_at, is_late, segments_at, value_at}
use Rattle.past_segments.specs.declared.slot.Slot.{Slot}
use Rattle.past_segments.specs.declared.slot.Version.{Version}
use Rattle.past_segments.proofs.PastLemmas.{is_late_slot, late_in, value_later}
use Rattle.plain_laws.proofs.Truths.{first_false, second_false}
use Rattle.model_laws.proofs.Texts.{text_is_same}

ends : (place : ℕ) (vs : List Version) → late_in (place + 1) vs ≡ false → EndsBy place vs
ends place [] e = tt
ends place (v ∷ vs) e = (
  omega (arith, leb-false (place + 1) v.from (first_false (nat_le (place + 1) v.from) (late_in (place + 1) vs) e)),
  ends place vs (second_false (nat_le (place + 1) v.from) (late_in (place + 1) vs) e),
)

all_end : (place : ℕ) (slots : List Slot)
    → ((key : List ℕ) → list_any (is_late_slot (place + 1) key) slots ≡ false)
    → AllByRecursion (λ (slot : Slot). EndsBy place slot.versions) slots
all_end place [] never = tt
all_end place (slot ∷ slots) never = (
  ends place slot.versions (its (same_text slot.key slot.key) (text_is_same slot.key)
      (first_false (is_late_slot (place + 1) slot.key slot) (list_any (is_late_slot (place + 1) slot.key) slots)
      (never slot.key))),
  all_end place slots (λ key. second_false (is_late_slot (place + 1) key slot)
      (list_any (is_late_slot (place + 1) key) slots) (never key)),
)
  where
    its : (t : Bool) → t ≡ true → (t && late_in (place + 1) slot.versions) ≡ false
        → late_in (place + 1) slot.versions ≡ false
    its true is e = e
    its false is e = cc

-- where no key has a later value
pub settled : (past : Past) (place : ℕ) → ((key : List ℕ) → is_late (place + 1) past key ≡ false)
    → IsSettledBy place past
settled past place never = all_end place past.slots never

same_later : (p q : ℕ) (slots : List Slot) → AllByRecursion (λ (slot : Slot). EndsBy p slot.versions) slots → p ≤ q
    → segments_at q slots ≡ segments_at p slots
same_later p q [] all le = refl
same_later p q (slot ∷ slots) all le =
    ap (λ o. cons_option o (segments_at q slots)) (value_later p q None slot.versions le all.0)
    ∙ ap (cons_option (value_at p slot.versions)) (same_later p q slots all.1 le)

-- behind the last value the database stays as it is
pub shows_on : (past : Past) (p q : ℕ) → IsSettledBy p past → p ≤ q → database_at q past ≡ database_at p past
shows_on past p q all le = ap (λ ss. record { segments = ss }) (same_later p q past.slots all le)
