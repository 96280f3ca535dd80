-- The rules on entries, as tests and as facts.
use Rattle.std.proofs.Common.{◌≡◌, ℕ, true, ◌&&◌, eqb, List, [], ◌∷◌, length, refl}
use Rattle.std.proofs.lemmas.Bool.{eqb-true, and_parts}
use Rattle.std.proofs.lemmas.List.{nil_from_length}
use Rattle.fp_model.specs.declared.log.Item.{Item}
use Rattle.fp_model.specs.declared.log.Outcome.{Outcome}
use Rattle.fp_model.specs.declared.log.Outcome.TheVariants as outcome
use Rattle.fp_model.specs.declared.log.Entry.{Entry}
use Rattle.fp_model.specs.ItemTargets.{is_ascending}
use Rattle.fp_model.specs.LogText.{HasItsParts, KeepsRules}
use Rattle.log_format.specs.EntryReading.{has_its_parts, keeps_rules}
use Rattle.log_format.specs.inside.EntryReading.{stands_before}

-- a list ascends where its first item stands before the next, and the rest ascends
pub ascending_step : (item : Item) (more : List Item)
    → is_ascending (item ∷ more) ≡ (stands_before item more && is_ascending more)
ascending_step item [] = refl
ascending_step item (next ∷ more) = refl

empty_from : {X : Type 0} (xs : List X) → eqb (length xs) 0 ≡ true → xs ≡ []
empty_from xs e = nil_from_length xs (eqb-true _ _ e)

empties_from : {X Y : Type 0} (xs : List X) (ys : List Y) → (eqb (length xs) 0 && eqb (length ys) 0) ≡ true → (xs ≡ [])
    × (ys ≡ [])
empties_from xs ys e =
    let b = and_parts (eqb (length xs) 0) (eqb (length ys) 0) e in
    (empty_from xs b.0, empty_from ys b.1)

empties_to : {X Y : Type 0} (xs : List X) (ys : List Y) → (xs ≡ []) × (ys ≡ [])
    → (eqb (length xs) 0 && eqb (length ys) 0) ≡ true
empties_to xs ys p = rw (p.0, p.1) refl

parts_from : (o : Outcome) (reply : List ℕ) (items : List Item) → has_its_parts o reply items ≡ true
    → HasItsParts o reply items
parts_from outcome.Done reply items e = tt
parts_from (outcome.Verify call fsa found) reply items e = empties_from reply items e
parts_from (outcome.Roll code) reply items e = empties_from reply items e
parts_from (outcome.SeqFull set begin end n) reply items e = empties_from reply items e
parts_from (outcome.Deadlock cycle) reply items e = empties_from reply items e
parts_from outcome.Device reply items e = empties_from reply items e
parts_from outcome.Memory reply items e = empties_from reply items e
parts_from outcome.Unknown reply items e = empties_from reply items e
parts_from (outcome.Purge set n) reply items e = empty_from reply e
parts_from (outcome.Old last) reply items e = empties_from reply items e
parts_from (outcome.Repeat line) reply items e = empties_from reply items e
parts_from outcome.Format reply items e = empties_from reply items e

parts_to : (o : Outcome) (reply : List ℕ) (items : List Item) → HasItsParts o reply items
    → has_its_parts o reply items ≡ true
parts_to outcome.Done reply items p = refl
parts_to (outcome.Verify call fsa found) reply items p = empties_to reply items p
parts_to (outcome.Roll code) reply items p = empties_to reply items p
parts_to (outcome.SeqFull set begin end n) reply items p = empties_to reply items p
parts_to (outcome.Deadlock cycle) reply items p = empties_to reply items p
parts_to outcome.Device reply items p = empties_to reply items p
parts_to outcome.Memory reply items p = empties_to reply items p
parts_to outcome.Unknown reply items p = empties_to reply items p
parts_to (outcome.Purge set n) reply items p = rw p refl
parts_to (outcome.Old last) reply items p = empties_to reply items p
parts_to (outcome.Repeat line) reply items p = empties_to reply items p
parts_to outcome.Format reply items p = empties_to reply items p

-- an entry that passes the test keeps the rules
pub KeepsRules-from : (e : Entry) → keeps_rules e ≡ true → KeepsRules e
KeepsRules-from e h =
    let b = and_parts (is_ascending e.items) (has_its_parts e.outcome e.reply e.items) h in
    record { in_order = b.0; parts = parts_from e.outcome e.reply e.items b.1 }

-- an entry that keeps the rules passes the test
pub KeepsRules-to : (e : Entry) → KeepsRules e → keeps_rules e ≡ true
KeepsRules-to e h = rw (h.in_order, parts_to e.outcome e.reply e.items h.parts) refl
