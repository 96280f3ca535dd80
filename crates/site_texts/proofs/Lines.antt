-- The lines of a database's segments, one after another.
use Rattle.std.proofs.Common.{◌≡◌, ◌∙◌, ◌++◌, ◌+◌, ◌<◌, ap, refl, sym, subst, arith, length, drop, get_or, List, [], ◌∷◌, ℕ}
use Rattle.std.specs.List.{flat_map}
use Rattle.std.specs.Prelude.{None, Option, Some, slice_get}
use Rattle.std.proofs.lemmas.List.{append-nil, append_assoc}
use Rattle.std.proofs.lemmas.List.Concat.{flat_map-cons}
use Rattle.std.proofs.lemmas.Option.{slice_get-get_or, none-some}
use Rattle.fp_model.specs.declared.database.Msdb.{Msdb}
use Rattle.fp_model.specs.declared.definitions.MsdbDef.{MsdbDef}
use Rattle.fp_show.specs.DbText.{each_text, msdb_head, msdb_line, msdb_text}
use Rattle.fp_site.specs.Disk.{Disk}
use Rattle.site_texts.specs.inside.Sent.{IsTold}
use Rattle.site_texts.proofs.Told.{told_none}
use Rattle.plain_laws.proofs.Places.{drop_got, rest_at}

-- a number below that of the databases has one
pub has_database : (msdbs : List Msdb) (number : ℕ) → number < length msdbs
    → (its : Msdb) × (slice_get msdbs number ≡ Some its)
has_database msdbs number less =
    let none : Msdb = record { segments = [] } in
    (get_or msdbs number none, slice_get-get_or msdbs number none less)

-- a place below the end has an element
pub is_there : {X : Type 0} (xs : List X) (k : ℕ) (d : X) (found : Option X) → k < length xs → found ≡ slice_get xs k
    → found ≡ None → ⊥
is_there xs k d found less is none = none-some (get_or xs k d) (sym none ∙ is ∙ slice_get-get_or xs k d less)

-- the lines from a place on begin with that of the segment there
pub told_line : (def : MsdbDef) (its : Msdb) (k : ℕ) (segment : List ℕ) → slice_get its.segments k ≡ Some segment
    → flat_map (msdb_line def) (drop k its.segments)
    ≡ msdb_line def segment ++ flat_map (msdb_line def) (drop (k + 1) its.segments)
told_line def its k segment is =
    ap (flat_map (msdb_line def)) (drop_got its.segments k segment is)
    ∙ flat_map-cons (msdb_line def) segment (drop (k + 1) its.segments)

-- behind the head all lines are to come
pub told_begins : (d : Disk) (held now : List ℕ) (def : MsdbDef) (its : Msdb)
    → now ≡ held ++ msdb_head def (length its.segments)
    → IsTold d d (held ++ msdb_text def its) now (flat_map (msdb_line def) (drop 0 its.segments))
told_begins d held now def its is =
    let lines = flat_map (msdb_line def) its.segments in
    subst (λ (t : List ℕ). IsTold d d t now lines)
    (ap (λ (t : List ℕ). t ++ lines) is ∙ append_assoc held (msdb_head def (length its.segments)) lines)
    (told_none d now lines)

-- the texts of the databases from a number on begin with that of the one there
pub database_next : (defs : List MsdbDef) (msdbs : List Msdb) (k : ℕ) (def : MsdbDef) → k < length defs
    → length msdbs ≡ length defs → def ≡ get_or defs k def
    → (its : Msdb) × (slice_get msdbs k ≡ Some its) × (each_text msdb_text (drop k defs) (drop k msdbs)
    ≡ msdb_text def its ++ each_text msdb_text (drop (k + 1) defs) (drop (k + 1) msdbs))
database_next defs msdbs k def less same is =
    let its = has_database msdbs k (omega (arith, less, same)) in (
      its.0,
      its.1,
      ap (λ (ds : List MsdbDef). each_text msdb_text ds (drop k msdbs)) (rest_at defs k def less is)
          ∙ ap (λ (ms : List Msdb). each_text msdb_text (def ∷ drop (k + 1) defs) ms) (drop_got msdbs k its.0 its.1),
    )
