-- What ends by a place ends by each later one, also of all databases.
use Rattle.std.proofs.Common.{ℕ, ◌≤◌, List, [], ◌∷◌, arith}
use Rattle.std.specs.List.{AllByRecursion}
use Rattle.past_segments.specs.Times.{EndsBy, IsSettledBy, Past}
use Rattle.past_segments.specs.declared.slot.Slot.{Slot}
use Rattle.past_segments.specs.declared.slot.Version.{Version}

versions_later : (p q : ℕ) (vs : List Version) → p ≤ q → EndsBy p vs → EndsBy q vs
versions_later p q [] le all = tt
versions_later p q (v ∷ vs) le all = (omega (arith, all.0, le), versions_later p q vs le all.1)

slots_later : (p q : ℕ) (slots : List Slot) → p ≤ q → AllByRecursion (λ (slot : Slot). EndsBy p slot.versions) slots
    → AllByRecursion (λ (slot : Slot). EndsBy q slot.versions) slots
slots_later p q [] le all = tt
slots_later p q (slot ∷ slots) le all =
    (versions_later p q slot.versions le all.0, slots_later p q slots le all.1)

pub settled_later : (p q : ℕ) (past : Past) → p ≤ q → IsSettledBy p past → IsSettledBy q past
settled_later p q past le all = slots_later p q past.slots le all
