-- Fields that the file writes.
use Rattle.std.proofs.Common.{◌≡◌, ℕ, ◌≤◌, ◌<◌, List, [], ◌∷◌, length, Some, None, Bool, true, false, cond, ℤ, pos, negsuc, refl, subst, arith}
use Rattle.std.specs.List.{AllByRecursion}
use Rattle.std.proofs.lemmas.Bool.Decides.{nat_tests}
use Rattle.toml.specs.Data.{Data, Items, no_items, item, as_integer, as_array}
use Rattle.toml.specs.View.{items_of}
use Rattle.fp_model.specs.declared.definitions.FieldKind.{FieldKind}
use Rattle.fp_model.specs.declared.definitions.FieldKind.TheVariants.{C, X, H, F, P}
use Rattle.fp_model.specs.WellFormed.{is_field_length}
use Rattle.def_tables.specs.Values.{each, as_field_name, as_kind, length_for, as_length, triple_in, as_triple, as_triples}
use Rattle.def_tables.specs.inside.Fields.{IsShort}
use Rattle.def_tables.specs.declared.fields.Triple.{Triple}
use Rattle.def_tables.proofs.ValueSteps.{each_has}
use Rattle.std.proofs.lemmas.Option.{cond_some}
use Rattle.model_laws.proofs.Texts.{some_step}

-- values that aren't three are no field
pub triple_below : (items : List Data) → length items < 3 → triple_in (items_of items) ≡ None
triple_below [] few = refl
triple_below (a ∷ []) few = refl
triple_below (a ∷ b ∷ []) few = refl
triple_below (a ∷ b ∷ c ∷ rest) few = absurd (omega arith)

pub triple_above : (items : List Data) → 4 ≤ length items → triple_in (items_of items) ≡ None
triple_above [] many = absurd (omega arith)
triple_above (a ∷ []) many = absurd (omega arith)
triple_above (a ∷ b ∷ []) many = absurd (omega arith)
triple_above (a ∷ b ∷ c ∷ []) many = absurd (omega arith)
triple_above (a ∷ b ∷ c ∷ d ∷ rest) many = refl

-- ---- lengths

-- a field of its kind's length
abbrev pub Fits : Triple → Type 0
Fits t = is_field_length t.kind t.length ≡ true

length_fits : (kind : FieldKind) (z : ℤ) (n : ℕ) → length_for kind z ≡ Some n → is_field_length kind n ≡ true
length_fits kind (pos m) n e = let h = cond_some (is_field_length kind m) m n e in
    subst (λ (k : ℕ). is_field_length kind k ≡ true) h.1 h.0
length_fits kind (negsuc m) n e = absurd (cc)

as_length-fits : (kind : FieldKind) (d : Data) (n : ℕ) → as_length kind d ≡ Some n → is_field_length kind n ≡ true
unfolding as_length
as_length-fits kind d n e = let s = some_step (as_integer d) (length_for kind) n e in length_fits kind s.0 n s.2

triple_in-fits : (items : Items) (t : Triple) → triple_in items ≡ Some t → Fits t
triple_in-fits no_items t e = absurd (cc)
triple_in-fits (item a no_items) t e = absurd (cc)
triple_in-fits (item a (item b no_items)) t e = absurd (cc)
triple_in-fits (item a (item b (item c (item d ds)))) t e = absurd (cc)
triple_in-fits (item a (item b (item c no_items))) t e =
    let named = some_step (as_field_name a) _ t e in
    let kind = some_step (as_kind b) _ t named.2 in
    let size = some_step (as_length kind.0 c) _ t kind.2 in
    let made : Some (record { name = named.0; kind = kind.0; length = size.0 }) ≡ Some t = size.2 in
    let same : record { name = named.0; kind = kind.0; length = size.0 } ≡ t = cc in
    subst Fits same (as_length-fits kind.0 c size.0 size.1)

as_triple-fits : (d : Data) (t : Triple) → as_triple d ≡ Some t → Fits t
unfolding as_triple
as_triple-fits d t e = let s = some_step (as_array d) triple_in t e in triple_in-fits s.0 t s.2

pub triples-fit : (d : Data) (ts : List Triple) → as_triples d ≡ Some ts → AllByRecursion Fits ts
unfolding as_triples
triples-fit d ts e = let s = some_step (as_array d) (each as_triple) ts e in
    each_has as_triple Fits as_triple-fits s.0 ts s.2

short-by : (kind : FieldKind) (n : ℕ) → is_field_length kind n ≡ true → (1 ≤ n) × (n ≤ 1024)
short-by C n e = grind (arith, nat_tests)
short-by X n e = grind (arith, nat_tests)
short-by H n e = grind (arith, nat_tests)
short-by F n e = grind (arith, nat_tests)
short-by P n e = grind (arith, nat_tests)

short-from-fits : (ts : List Triple) → AllByRecursion Fits ts → AllByRecursion IsShort ts
short-from-fits [] all = all
short-from-fits (t ∷ ts) all = let s = short-by t.kind t.length all.0 in
    (record { some = s.0; few = s.1 }, short-from-fits ts all.1)

pub triples-short : (d : Data) (ts : List Triple) → as_triples d ≡ Some ts → AllByRecursion IsShort ts
triples-short d ts e = short-from-fits ts (triples-fit d ts e)
