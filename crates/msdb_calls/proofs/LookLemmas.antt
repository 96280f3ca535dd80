-- What is found in a database is whole.
use Rattle.std.proofs.Common.{refl, ◌≡◌, ℕ, List, [], ◌∷◌, length, Bool, true, false, Option, Some, None, sym, ◌∙◌, subst, slice_get, Bor}
use Rattle.std.specs.Prelude.{find, if◌then◌else◌, IfSome}
use Rattle.std.specs.List.{AllByRecursion}
use Rattle.std.specs.Option.{option_copied}
use Rattle.fp_model.specs.CheckpointText.{IsMsdbOf}
use Rattle.fp_model.specs.declared.database.Msdb.{Msdb}
use Rattle.fp_model.specs.declared.definitions.MsdbDef.{MsdbDef}
use Rattle.fp_model.specs.State.{segment_after, segment_of}
use Rattle.plain_laws.proofs.Options.{shown_has}

-- what holds of each holds of the one that is found
found_has : {X : Type 0} (P : X → Type 0) (p : X → Bool) (xs : List X) (x : X) → AllByRecursion P xs
    → find p xs ≡ Some x → P x
found_has P p [] x each found = absurd (cc)
found_has {X} P p (y ∷ ys) x each found = by (p y) found (λ later. found_has P p ys x each.1 later)
  where
    by : (here : Bool) → (if here then Some y else find p ys) ≡ Some x → (find p ys ≡ Some x → P x) → P x
    by true e later = let same : y ≡ x = cc in subst P same each.0
    by false e later = later e

first_has : {X : Type 0} (P : X → Type 0) (xs : List X) (x : X) → AllByRecursion P xs → slice_get xs 0 ≡ Some x → P x
first_has P [] x each at = absurd (cc)
first_has P (y ∷ ys) x each at = let same : y ≡ x = cc in subst P same each.0

module _ (def : MsdbDef) (msdb : Msdb) (is : IsMsdbOf def msdb) where
  pub looked_whole : (o : Option (Bor (List ℕ))) (key : List ℕ)
      → option_copied o ≡ segment_of def msdb key → IfSome o (λ s. length s.now ≡ def.length)
  looked_whole o key found = shown_has def.length o _ found
      (λ s at. found_has (λ segment. length segment ≡ def.length) _ msdb.segments s is.lengths at)

  after_whole : (found : Option (List ℕ)) (key : Option (List ℕ)) → found ≡ segment_after def msdb key
      → (s : List ℕ) → found ≡ Some s → length s ≡ def.length
  after_whole found None e s at = first_has (λ segment. length segment ≡ def.length) msdb.segments s
      is.lengths (sym e ∙ at)
  after_whole found (Some key) e s at = found_has (λ segment. length segment ≡ def.length) _
      msdb.segments s is.lengths (sym e ∙ at)

  pub shown_after_whole : (o : Option (Bor (List ℕ))) (key : Option (List ℕ))
      → option_copied o ≡ segment_after def msdb key → IfSome o (λ s. length s.now ≡ def.length)
  shown_after_whole o key found = shown_has def.length o (option_copied o) refl
      (after_whole (option_copied o) key found)
