-- Where nothing stands from behind a place.
use Rattle.std.proofs.Common.{refl, ◌≡◌, ◌∙◌, ap, ℕ, ◌+◌, List, [], ◌∷◌, arith}
use Rattle.std.specs.List.{AllByRecursion}
use Rattle.past_segments.specs.Pasts.{databases_at}
use Rattle.past_segments.specs.Times.{EndsBy, IsSettledBy, Past, database_at}
use Rattle.past_segments.specs.declared.slot.Slot.{Slot}
use Rattle.past_segments.specs.declared.slot.Version.{Version}
use Rattle.past_segments.proofs.PastLaws.{shows_on}

versions_later : (place : ℕ) (vs : List Version) → EndsBy place vs → EndsBy (place + 1) vs
versions_later place [] all = tt
versions_later place (v ∷ vs) all = (omega (arith, all.0), versions_later place vs all.1)

slots_later : (place : ℕ) (slots : List Slot) → AllByRecursion (λ (slot : Slot). EndsBy place slot.versions) slots
    → AllByRecursion (λ (slot : Slot). EndsBy (place + 1) slot.versions) slots
slots_later place [] all = tt
slots_later place (slot ∷ slots) all = (versions_later place slot.versions all.0, slots_later place slots all.1)

-- and the databases stay as they are
pub shows_next : (place : ℕ) (pasts : List Past) → AllByRecursion (IsSettledBy place) pasts
    → databases_at (place + 1) pasts ≡ databases_at place pasts
shows_next place [] all = refl
shows_next place (past ∷ pasts) all =
    ap (λ msdb. msdb ∷ databases_at (place + 1) pasts) (shows_on past place (place + 1) all.0 (omega arith))
    ∙ ap (λ msdbs. database_at place past ∷ msdbs) (shows_next place pasts all.1)
