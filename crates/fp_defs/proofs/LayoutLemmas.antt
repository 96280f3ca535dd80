-- What fields that are read keep: their names, their places, the key in front.
use Rattle.std.proofs.Common.{◌≡◌, ℕ, suc, ◌+◌, ◌≤◌, List, [], ◌∷◌, length, map, Bool, true, false, cond, not, ◌||◌, nat_le, Some, None, Ok, Err, pos, codes, refl, sym, ap, subst, ◌∙◌, arith}
use Rattle.std.specs.Prelude.{⊤}
use Rattle.std.specs.List.{AllByRecursion, IsDistinct}
use Rattle.std.proofs.lemmas.Bool.Decides.{nat_tests}
use Rattle.std.proofs.lemmas.List.Sums.{sum_by-cons}
use Rattle.toml.specs.Data.{Data, Items, no_items, item, Members, as_str, as_array}
use Rattle.fp_model.specs.declared.name.Name.{Name}
use Rattle.fp_model.specs.declared.definitions.FieldKind.{FieldKind}
use Rattle.fp_model.specs.declared.definitions.FieldKind.TheVariants.{C, X, H, F, P}
use Rattle.fp_model.specs.Texts.{same_text, padded}
use Rattle.fp_model.specs.Names.{is_name, name_in, IsName}
use Rattle.fp_model.specs.WellFormed.{StandFrom, IsFieldName, IsLayout, BeginsWithKey}
use Rattle.def_tables.specs.Readings.{or_fault}
use Rattle.def_tables.specs.Values.{each, as_name, is_reserved, as_field_name, as_kind, as_length, triple_in, as_triple, as_triples}
use Rattle.def_tables.specs.Keys.{needed, name_at, within, all_once}
use Rattle.def_tables.specs.Fields.{begins_with_key, keyed, is_characters, laid_out, total, fields_at}
use Rattle.def_tables.specs.declared.fault.DefsFault.TheVariants.{BadField}
use Rattle.def_tables.specs.declared.fields.Triple.{Triple}
use Rattle.def_tables.specs.declared.fields.Layout.{Layout}
use Rattle.fp_defs.proofs.Distinct.{all_once-distinct}
use Rattle.def_tables.proofs.FieldLemmas.{Fits, triples-fit}
use Rattle.def_tables.proofs.KeyLemmas.{within-ok}
use Rattle.def_tables.proofs.Steps.{ok_step, some_from_ok}
use Rattle.def_tables.proofs.ValueSteps.{each_has}
use Rattle.plain_laws.proofs.Truths.{first_false, first_of_both, second_false, second_of_both}
use Rattle.model_laws.proofs.Texts.{some_step}

-- ---- names

name_by : (b : Bool) (made name : Name) → cond b (Some made) None ≡ Some name → (b ≡ true) × (made ≡ name)
name_by true made name e = (refl, cc)
name_by false made name e = absurd (cc)

pub is_name-from : (text : List ℕ) (name : Name) → name_in text ≡ Some name → IsName name
is_name-from text name e = let h = name_by (is_name text) (record { 0 = padded 8 text }) name e in
    (text, h.0, sym (ap (λ n. n.0) h.1))

pub as_name-is : (d : Data) (name : Name) → as_name d ≡ Some name → IsName name
unfolding as_name
as_name-is d name e = let s = some_step (as_str d) name_in name e in is_name-from s.0 name s.2

other_by : (b : Bool) (read name : Name) → cond b None (Some read) ≡ Some name → (b ≡ false) × (read ≡ name)
other_by true read name e = absurd (cc)
other_by false read name e = (refl, cc)

field_name-is : (d : Data) (name : Name) → as_field_name d ≡ Some name → IsFieldName name
unfolding as_field_name
field_name-is d name e =
    let s = some_step (as_name d) _ name e in
    let h = other_by (is_reserved s.0) s.0 name s.2 in
    let apart : is_reserved name ≡ false = subst (λ (n : Name). is_reserved n ≡ false) h.1 h.0 in
    let front = first_false (same_text name.0 (codes "IO      ") || same_text name.0 (codes "STATUS  "))
    (same_text name.0 (codes "FSAS    ")) apart in (
      as_name-is d name (s.1 ∙ ap Some h.1),
      first_false (same_text name.0 (codes "IO      ")) (same_text name.0 (codes "STATUS  ")) front,
      second_false (same_text name.0 (codes "IO      ")) (same_text name.0 (codes "STATUS  ")) front,
      second_false (same_text name.0 (codes "IO      ") || same_text name.0 (codes "STATUS  "))
          (same_text name.0 (codes "FSAS    ")) apart,
    )

-- a field with a name that a field may have
abbrev Named : Triple → Type 0
Named t = IsFieldName t.name

triple_in-named : (items : Items) (t : Triple) → triple_in items ≡ Some t → Named t
triple_in-named no_items t e = absurd (cc)
triple_in-named (item a no_items) t e = absurd (cc)
triple_in-named (item a (item b no_items)) t e = absurd (cc)
triple_in-named (item a (item b (item c (item d ds)))) t e = absurd (cc)
triple_in-named (item a (item b (item c no_items))) t e =
    let named = some_step (as_field_name a) _ t e in
    let kind = some_step (as_kind b) _ t named.2 in
    let size = some_step (as_length kind.0 c) _ t kind.2 in
    let made : Some (record { name = named.0; kind = kind.0; length = size.0 }) ≡ Some t = size.2 in
    let same : record { name = named.0; kind = kind.0; length = size.0 } ≡ t = cc in
    subst Named same (field_name-is a named.0 named.1)

as_triple-named : (d : Data) (t : Triple) → as_triple d ≡ Some t → Named t
unfolding as_triple
as_triple-named d t e = let s = some_step (as_array d) triple_in t e in triple_in-named s.0 t s.2

triples-named : (d : Data) (ts : List Triple) → as_triples d ≡ Some ts → AllByRecursion Named ts
unfolding as_triples
triples-named d ts e = let s = some_step (as_array d) (each as_triple) ts e in
    each_has as_triple Named as_triple-named s.0 ts s.2

-- ---- places

laid_out-length : (at : ℕ) (ts : List Triple) → length (laid_out at ts) ≡ length ts
laid_out-length at [] = refl
laid_out-length at (t ∷ ts) = ap suc (laid_out-length (at + t.length) ts)

laid_out-names : (at : ℕ) (ts : List Triple) → map (λ name. name.0) (map (λ f. f.name) (laid_out at ts)) ≡ map
    (λ t. t.name.0) ts
laid_out-names at [] = refl
laid_out-names at (t ∷ ts) = ap (λ names. t.name.0 ∷ names) (laid_out-names (at + t.length) ts)

laid_out-named : (at : ℕ) (ts : List Triple) → AllByRecursion Named ts
    → AllByRecursion (λ f. IsFieldName f.name) (laid_out at ts)
laid_out-named at [] all = tt
laid_out-named at (t ∷ ts) all = (all.0, laid_out-named (at + t.length) ts all.1)

laid_out-stand : (at : ℕ) (ts : List Triple) → AllByRecursion Fits ts → (end : ℕ) → end ≡ at + total ts
    → StandFrom at (laid_out at ts) end
laid_out-stand at [] all end e = omega arith
laid_out-stand at (t ∷ ts) all end e = (
  refl,
  all.0,
  laid_out-stand (at + t.length) ts all.1 end (let s = sum_by-cons (λ (u : Triple). u.length) t ts in omega arith),
)

-- ---- the key in front

characters-C : (kind : FieldKind) → is_characters kind ≡ true → kind ≡ C
characters-C C e = refl
characters-C X e = absurd (cc)
characters-C H e = absurd (cc)
characters-C F e = absurd (cc)
characters-C P e = absurd (cc)

key_in_front : (ts : List Triple) → begins_with_key ts ≡ true → 1 ≤ length ts → BeginsWithKey (laid_out 0 ts)
key_in_front [] e some = absurd (omega arith)
key_in_front (t ∷ ts) e some =
    let short : nat_le t.length 64 ≡ true = second_of_both (is_characters t.kind) (nat_le t.length 64) e in
    (characters-C t.kind (first_of_both (is_characters t.kind) (nat_le t.length 64) e), grind (arith, nat_tests))

key_by : (b : Bool) (done : ⊤) → cond (not b) (Err (BadField (codes "fields"))) (Ok tt) ≡ Ok done → b ≡ true
key_by true done e = refl
key_by false done e = absurd (cc)

keyed-true : (ts : List Triple) (done : ⊤) → keyed true ts ≡ Ok done → begins_with_key ts ≡ true
unfolding keyed
keyed-true ts done e = key_by (begins_with_key ts) done e

-- ---- the whole

pub record LayoutKeeps (key_wanted : Bool) (most : ℕ) (read : Layout) : Type 0 where
  pub whole : IsLayout read.fields read.length
  pub short : read.length ≤ most
  pub key : key_wanted ≡ true → BeginsWithKey read.fields

pub layout_keeps : (key_wanted : Bool) (most : ℕ) (table : Members) (layout : Layout)
    → fields_at key_wanted most table ≡ Ok layout → LayoutKeeps key_wanted most layout
unfolding fields_at
layout_keeps key_wanted most table layout e =
    let value = ok_step (needed (codes "fields") table) _ layout e in
    let read = ok_step (or_fault (BadField (codes "fields")) (as_triples value.0)) _ layout value.2 in
    let ts = read.0 in
    let key = ok_step (keyed key_wanted ts) _ layout read.2 in
    let count = ok_step (within (codes "fields") 1 64 (pos (length ts))) _ layout key.2 in
    let size = ok_step (within (codes "fields") 0 most (pos (total ts))) _ layout count.2 in
    let names = ok_step (all_once (map (λ t. t.name.0) ts)) _ layout size.2 in
    let made : Ok (record { fields = laid_out 0 ts; length = total ts }) ≡ Ok layout = names.2 in
    let same : record { fields = laid_out 0 ts; length = total ts } ≡ layout = cc in
    let is : as_triples value.0 ≡ Some ts = some_from_ok _ _ _ read.1 in
    let counted = within-ok _ _ _ _ _ count.1 in
    let sized = within-ok _ _ _ _ _ size.1 in
    subst (LayoutKeeps key_wanted most) same
    (record {
      whole = record {
        count = (let l = laid_out-length 0 ts in (omega arith, omega arith));
        stand = laid_out-stand 0 ts (triples-fit value.0 ts is) (total ts) (omega arith);
        names = laid_out-named 0 ts (triples-named value.0 ts is);
        distinct = subst (IsDistinct same_text) (sym (laid_out-names 0 ts)) (all_once-distinct _ _ names.1);
      };
      short = sized.1;
      key = λ wanted. key_in_front ts (keyed-true ts key.0 (subst (λ (w : Bool). keyed w ts ≡ Ok key.0) wanted key.1))
          counted.0;
    })

-- a name at a key
pub name_at-is : (key : List ℕ) (table : Members) (name : Name) → name_at key table ≡ Ok name → IsName name
unfolding name_at
name_at-is key table name e =
    let value = ok_step (needed key table) _ name e in
    as_name-is value.0 name (some_from_ok _ _ _ value.2)
