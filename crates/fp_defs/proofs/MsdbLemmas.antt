-- A main storage database that is read is well formed.
use Rattle.std.proofs.Common.{◌≡◌, ℕ, zero, suc, ◌+◌, ◌-◌, ◌≤◌, List, [], ◌∷◌, ◌++◌, length, map, take, drop, replicate, Bool, true, false, cond, ◌&&◌, nat_le, Option, Some, None, Ok, ℤ, codes, refl, sym, ap, subst, ◌∙◌, arith}
use Rattle.std.specs.List.{AllByRecursion, IsDistinct, list_all}
use Rattle.std.specs.Option.{option_map_or}
use Rattle.std.proofs.lemmas.Bool.Decides.{nat_tests}
use Rattle.std.proofs.lemmas.List.{length-append, length-replicate}
use Rattle.toml.specs.Data.{Data, Items, no_items, item, Members, get_member, as_str, as_array}
use Rattle.fp_model.specs.declared.definitions.FieldKind.{FieldKind}
use Rattle.fp_model.specs.declared.definitions.FieldKind.TheVariants.{C, X, H, F, P}
use Rattle.fp_model.specs.declared.definitions.FieldDef.{FieldDef}
use Rattle.fp_model.specs.declared.definitions.MsdbDef.{MsdbDef}
use Rattle.fp_model.specs.declared.name.Name.{Name}
use Rattle.fp_model.specs.Names.{IsName}
use Rattle.fp_model.specs.Texts.{same_text, is_printable, padded}
use Rattle.fp_model.specs.Numbers.{bytes_of}
use Rattle.fp_model.specs.State.{key_of}
use Rattle.fp_model.specs.WellFormed.{StandFrom, IsLoadedField, AreLoadedFields, IsLoaded, IsMsdbDef}
use Rattle.packed_dec.proofs.ReadsBack.{reads_back}
use Rattle.def_tables.specs.Readings.{or_fault}
use Rattle.def_tables.specs.Values.{each, number_of_text, bytes_if, number_loaded, text_loaded, loaded_as, field_in, segment_in, as_segment, as_segments}
use Rattle.def_tables.specs.Keys.{occurs, only, new_name, flag_at, name_at, once, all_once}
use Rattle.def_tables.specs.Fields.{fields_at}
use Rattle.def_tables.specs.Loads.{load_in, load_at}
use Rattle.fp_defs.specs.Msdbs.{msdb_names, msdb_of}
use Rattle.def_tables.specs.declared.fault.DefsFault.TheVariants.{BadField}
use Rattle.def_tables.specs.declared.keys.Form.TheVariants.{Msdb}
use Rattle.fp_defs.proofs.Distinct.{no_texts, all_once-distinct, once-new}
use Rattle.fp_defs.proofs.LayoutLemmas.{layout_keeps, name_at-is}
use Rattle.def_tables.proofs.Steps.{ok_step, some_from_ok}
use Rattle.def_tables.proofs.ValueSteps.{each_has}
use Rattle.plain_laws.proofs.Truths.{first_of_both, second_of_both}
use Rattle.model_laws.proofs.Texts.{some_step}

-- ---- fields that are loaded

printable_blanks : (text : List ℕ) (n : ℕ) → list_all is_printable text ≡ true
    → list_all is_printable (text ++ replicate n 32) ≡ true
printable_blanks [] zero e = refl
printable_blanks [] (suc n) e = printable_blanks [] n refl
printable_blanks (b ∷ bs) n e = rw (first_of_both (is_printable b) (list_all is_printable bs) e)
    (printable_blanks bs n (second_of_both (is_printable b) (list_all is_printable bs) e))

-- bytes that fill a field and hold what a loaded field may
abbrev IsFilled : FieldKind → ℕ → List ℕ → Type 0
IsFilled kind size bytes = (length bytes ≡ size) × IsLoadedField kind bytes

text_by : (b : Bool) (made bytes : List ℕ) → cond b (Some made) None ≡ Some bytes → (b ≡ true) × (made ≡ bytes)
text_by true made bytes e = (refl, cc)
text_by false made bytes e = absurd (cc)

text_filled : (size : ℕ) (text bytes : List ℕ) → text_loaded size text ≡ Some bytes → IsFilled C size bytes
text_filled size text bytes e =
    let h = text_by (list_all is_printable text && nat_le (length text) size) (padded size text) bytes e in
    let fits : nat_le (length text) size ≡ true = second_of_both (list_all is_printable text) (nat_le (length text) size)
    h.0 in
    let within : length text ≤ size = grind (arith, nat_tests) in
    let filled : length (padded size text) ≡ size = simp (length-append, length-replicate) (omega arith) in
    subst (IsFilled C size) h.1 (
      filled,
      printable_blanks text (size - length text)
          (first_of_both (list_all is_printable text) (nat_le (length text) size) h.0),
    )

if_some : (kind : FieldKind) (size : ℕ) (o : Option ℤ) (bytes : List ℕ) → bytes_if kind size o ≡ Some bytes → (n : ℤ)
    × (bytes_of kind size n ≡ Some bytes)
if_some kind size None bytes e = absurd (cc)
if_some kind size (Some n) bytes e = (n, e)

number_filled : (kind : FieldKind) (size : ℕ) (text bytes : List ℕ) → number_loaded kind size text ≡ Some bytes
    → (length bytes ≡ size) × ((n : ℤ) × (bytes_of kind (length bytes) n ≡ Some bytes))
number_filled kind size text bytes e =
    let h = if_some kind size (number_of_text text) bytes e in
    let filled : length bytes ≡ size = (reads_back kind size h.0 bytes h.1).0 in
    (filled, (h.0, ap (λ (s : ℕ). bytes_of kind s h.0) filled ∙ h.1))

loaded_filled : (kind : FieldKind) (size : ℕ) (text bytes : List ℕ) → loaded_as kind size text ≡ Some bytes
    → IsFilled kind size bytes
unfolding loaded_as
loaded_filled C size text bytes e = text_filled size text bytes e
loaded_filled X size text bytes e = number_filled X size text bytes e
loaded_filled H size text bytes e = number_filled H size text bytes e
loaded_filled F size text bytes e = number_filled F size text bytes e
loaded_filled P size text bytes e = number_filled P size text bytes e

field_filled : (field : FieldDef) (d : Data) (bytes : List ℕ) → field_in field d ≡ Some bytes
    → IsFilled field.kind field.length bytes
unfolding field_in
field_filled field d bytes e = let s = some_step (as_str d) (loaded_as field.kind field.length) bytes e in
    loaded_filled field.kind field.length s.0 bytes s.2

-- ---- segments that are loaded

-- the bytes of all fields
abbrev bytes_in : List FieldDef → ℕ
bytes_in [] = 0
bytes_in (f ∷ fs) = f.length + bytes_in fs

abbrev IsWhole : List FieldDef → List ℕ → Type 0
IsWhole fields segment = (length segment ≡ bytes_in fields) × AreLoadedFields fields segment

take_own : (a b : List ℕ) → take (length a) (a ++ b) ≡ a
take_own [] b = refl
take_own (x ∷ xs) b = ap (λ ys. x ∷ ys) (take_own xs b)

drop_own : (a b : List ℕ) → drop (length a) (a ++ b) ≡ b
drop_own [] b = refl
drop_own (x ∷ xs) b = drop_own xs b

take_front : (a b : List ℕ) (n : ℕ) → length a ≡ n → take n (a ++ b) ≡ a
take_front a b n e = subst (λ (k : ℕ). take k (a ++ b) ≡ a) e (take_own a b)

drop_front : (a b : List ℕ) (n : ℕ) → length a ≡ n → drop n (a ++ b) ≡ b
drop_front a b n e = subst (λ (k : ℕ). drop k (a ++ b) ≡ b) e (drop_own a b)

segment_whole : (fields : List FieldDef) (items : Items) (segment : List ℕ) → segment_in fields items ≡ Some segment
    → IsWhole fields segment
segment_whole [] no_items segment e = let same : [] ≡ segment = cc in subst (IsWhole []) same (refl, tt)
segment_whole [] (item d ds) segment e = absurd (cc)
segment_whole (f ∷ fs) no_items segment e = absurd (cc)
segment_whole (f ∷ fs) (item d ds) segment e =
    let first = some_step (field_in f d) _ segment e in
    let rest = some_step (segment_in fs ds) (λ behind. Some (first.0 ++ behind)) segment first.2 in
    let made : Some (first.0 ++ rest.0) ≡ Some segment = rest.2 in
    let same : first.0 ++ rest.0 ≡ segment = cc in
    let filled = field_filled f d first.0 first.1 in
    let behind = segment_whole fs ds rest.0 rest.1 in
    subst (IsWhole (f ∷ fs)) same (
      simp length-append (omega arith),
      (
        subst (IsLoadedField f.kind) (sym (take_front first.0 rest.0 f.length filled.0)) filled.1,
        subst (AreLoadedFields fs) (sym (drop_front first.0 rest.0 f.length filled.0)) behind.1,
      ),
    )

as_segment-whole : (fields : List FieldDef) (d : Data) (segment : List ℕ) → as_segment fields d ≡ Some segment
    → IsWhole fields segment
unfolding as_segment
as_segment-whole fields d segment e = let s = some_step (as_array d) (segment_in fields) segment e in
    segment_whole fields s.0 segment s.2

segments-whole : (fields : List FieldDef) (d : Data) (load : List (List ℕ)) → as_segments fields d ≡ Some load
    → AllByRecursion (IsWhole fields) load
unfolding as_segments
segments-whole fields d load e = let s = some_step (as_array d) (each (as_segment fields)) load e in
    each_has (as_segment fields) (IsWhole fields) (as_segment-whole fields) s.0 load s.2

abbrev IsLoad : List FieldDef → List (List ℕ) → Type 0
IsLoad fields load = AllByRecursion (IsWhole fields) load × IsDistinct same_text (map (key_of fields) load)

load_in-is : (fields : List FieldDef) (d : Data) (load : List (List ℕ)) → load_in fields d ≡ Ok load
    → IsLoad fields load
unfolding load_in
load_in-is fields d load e =
    let read = ok_step (or_fault (BadField (codes "load")) (as_segments fields d)) _ load e in
    let once = ok_step (all_once (map (key_of fields) read.0)) _ load read.2 in
    let made : Ok read.0 ≡ Ok load = once.2 in
    let same : read.0 ≡ load = cc in
    subst (IsLoad fields) same (
      segments-whole fields d read.0 (some_from_ok _ _ _ read.1),
      all_once-distinct _ _ once.1,
    )

load_by : (fields : List FieldDef) (value : Option Data) (load : List (List ℕ))
    → option_map_or (load_in fields) value (Ok []) ≡ Ok load → IsLoad fields load
load_by fields None load e = let same : [] ≡ load = cc in subst (IsLoad fields) same (tt, no_texts)
load_by fields (Some d) load e = load_in-is fields d load e

load_at-is : (fields : List FieldDef) (table : Members) (load : List (List ℕ)) → load_at fields table ≡ Ok load
    → IsLoad fields load
unfolding load_at
load_at-is fields table load e = load_by fields (get_member (codes "load") table) load e

stand-bytes : (at : ℕ) (fields : List FieldDef) (end : ℕ) → StandFrom at fields end → end ≡ at + bytes_in fields
stand-bytes at [] end e = omega arith
stand-bytes at (f ∷ fs) end e = let r = stand-bytes (at + f.length) fs end e.2 in omega arith

all_loaded : (def : MsdbDef) (load : List (List ℕ)) → def.length ≡ bytes_in def.fields
    → AllByRecursion (IsWhole def.fields) load → AllByRecursion (IsLoaded def) load
all_loaded def [] e all = tt
all_loaded def (s ∷ ss) e all = (record { whole = all.0.0 ∙ sym e; fields = all.0.1 }, all_loaded def ss e all.1)

-- ---- the database

-- a name that is read is a name, and new
pub new_name-is : (before : List (List ℕ)) (table : Members) (name : Name) → new_name before table ≡ Ok name
    → IsName name × (occurs before name.0 ≡ false)
unfolding new_name
new_name-is before table name e =
    let read = ok_step (name_at (codes "name") table) (once before) name e in
    let new = once-new before read.0 name read.2 in
    (subst IsName new.1 (name_at-is (codes "name") table read.0 read.1), new.0)

abbrev pub MsdbKeeps : List MsdbDef → MsdbDef → Type 0
MsdbKeeps before def = IsMsdbDef def × (occurs (msdb_names before) def.name.0 ≡ false)

pub msdb_keeps : (before : List MsdbDef) (table : Members) (def : MsdbDef) → msdb_of before table ≡ Ok def
    → MsdbKeeps before def
unfolding msdb_of
msdb_keeps before table def e =
    let o = ok_step (only Msdb table) _ def e in
    let n = ok_step (new_name (msdb_names before) table) _ def o.2 in
    let l = ok_step (fields_at true 1024 table) _ def n.2 in
    let d = ok_step (flag_at (codes "dynamic") table) _ def l.2 in
    let ld = ok_step (load_at l.0.fields table) _ def d.2 in
    let read : MsdbDef = record { name = n.0; dynamic = d.0; fields = l.0.fields; length = l.0.length; load = ld.0 } in
    let made : Ok read ≡ Ok def = ld.2 in
    let same : read ≡ def = cc in
    let name = new_name-is (msdb_names before) table n.0 n.1 in
    let layout = layout_keeps true 1024 table l.0 l.1 in
    let load = load_at-is l.0.fields table ld.0 ld.1 in
    subst (MsdbKeeps before) same (
      record {
        name = name.0;
        layout = layout.whole;
        key = layout.key refl;
        short = layout.short;
        loaded = all_loaded read ld.0 (stand-bytes 0 l.0.fields l.0.length layout.whole.stand ∙ omega arith) load.0;
        keys = load.1;
      },
      name.1,
    )
