-- The segments of a main storage database that fit its definition.
use Rattle.std.proofs.Common.{◌∷◌, ◌≡◌, List, [], ap, false, length, refl, ℕ}
use Rattle.std.specs.List.{AllByRecursion}
use Rattle.fp_model.specs.Settle.{Stands, settle_from}
use Rattle.fp_model.specs.State.{drop_key}
use Rattle.fp_model.specs.declared.database.Msdb.{Msdb}
use Rattle.fp_model.specs.Texts.{same_text}
use Rattle.fp_model.specs.WellFormed.{IsLoaded}
use Rattle.fp_model.specs.declared.definitions.MsdbDef.{MsdbDef}

-- keys differ from those of no segments
pub differ_nothing : (key : List ℕ → List ℕ) (load : List (List ℕ))
    → AllByRecursion (λ s. AllByRecursion (λ y. same_text (key y) (key s) ≡ false) []) load
differ_nothing key [] = tt
differ_nothing key (s ∷ load) = (tt, differ_nothing key load)

-- loaded segments have the length of their database
pub lengths_of : (def : MsdbDef) (load : List (List ℕ)) → AllByRecursion (IsLoaded def) load
    → AllByRecursion (λ s. length s ≡ def.length) load
lengths_of def [] all = tt
lengths_of def (s ∷ load) all = (all.0.whole, lengths_of def load all.1)

-- where no key is the same, none is dropped
pub none_dropped : (key : List ℕ → List ℕ) (k : List ℕ) (xs : List (List ℕ))
    → AllByRecursion (λ y. same_text (key y) k ≡ false) xs → drop_key key k xs ≡ xs
none_dropped key k [] all = refl
none_dropped key k (x ∷ xs) all = rw all.0 (ap (λ ys. x ∷ ys) (none_dropped key k xs all.1))

-- a queue of which nothing is left leaves the databases as they stand
pub all_done : (defs : List MsdbDef) (n : ℕ) (msdbs : List Msdb) → settle_from defs n msdbs [] ≡ Stands msdbs
unfolding settle_from
all_done defs n msdbs = refl
