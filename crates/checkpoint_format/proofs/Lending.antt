-- What is left to write of databases whose segments are lent one after another.
use Rattle.std.proofs.Common.{◌≡◌, ◌∙◌, ◌++◌, ◌+◌, ◌<◌, ap, arith, sym, length, drop, get_or, List, [], ◌∷◌, ℕ}
use Rattle.std.specs.List.{AllByRecursion, flat_map, zip}
use Rattle.std.specs.Prelude.{None, Option, Some, slice_get}
use Rattle.std.proofs.lemmas.List.{drop_more}
use Rattle.std.proofs.lemmas.List.Concat.{flat_map-cons}
use Rattle.std.proofs.lemmas.Option.{slice_get-get_or, none-some}
use Rattle.fp_model.specs.CheckpointText.{msdb_text}
use Rattle.fp_model.specs.declared.database.Msdb.{Msdb}
use Rattle.fp_model.specs.declared.definitions.MsdbDef.{MsdbDef}
use Rattle.plain_laws.proofs.Places.{drop_got}

-- the bytes of databases beside their definitions
abbrev pub texts : List MsdbDef → List Msdb → List ℕ
texts defs msdbs = flat_map (λ each. msdb_text each.0 each.1) (zip defs msdbs)

-- the database of a number that is below their count
abbrev pub database : List Msdb → ℕ → Msdb
database msdbs number = get_or msdbs number (record { segments = [] })

pub has_database : (msdbs : List Msdb) (number : ℕ) → number < length msdbs
    → slice_get msdbs number ≡ Some (database msdbs number)
has_database msdbs number less = slice_get-get_or msdbs number (record { segments = [] }) less

-- a place below the end has an element
pub no_more : {X : Type 0} (xs : List X) (k : ℕ) (found : Option X) → k < length xs → found ≡ slice_get xs k
    → found ≡ None → ⊥
no_more (x ∷ xs) k found less is none =
    none-some (get_or (x ∷ xs) k x) (sym none ∙ is ∙ slice_get-get_or (x ∷ xs) k x less)
no_more [] k found less is none = omega (arith, less)

-- the segments from a place on begin with the one there
pub segment_next : (segments : List (List ℕ)) (k : ℕ) (segment : List ℕ) → slice_get segments k ≡ Some segment
    → flat_map (λ s. s) (drop k segments) ≡ segment ++ flat_map (λ s. s) (drop (k + 1) segments)
segment_next segments k segment is =
    ap (flat_map (λ s. s)) (drop_got segments k segment is)
    ∙ flat_map-cons (λ s. s) segment (drop (k + 1) segments)

-- the databases from a number on begin with the one of that number
pub database_next : (defs : List MsdbDef) (msdbs : List Msdb) (k : ℕ) (def : MsdbDef) → k < length defs
    → k < length msdbs → def ≡ get_or defs k def
    → texts (drop k defs) (drop k msdbs)
    ≡ msdb_text def (database msdbs k) ++ texts (drop (k + 1) defs) (drop (k + 1) msdbs)
database_next defs msdbs k def less there is =
    ap (λ (ds : List MsdbDef). texts ds (drop k msdbs))
    (drop_more defs k def less ∙ ap (λ (d : MsdbDef). d ∷ drop (k + 1) defs) (sym is))
    ∙ ap (λ (ms : List Msdb). texts (def ∷ drop (k + 1) defs) ms)
    (drop_got msdbs k (database msdbs k) (has_database msdbs k there))
    ∙ flat_map-cons (λ each. msdb_text each.0 each.1) (def, database msdbs k)
    (zip (drop (k + 1) defs) (drop (k + 1) msdbs))
