-- A data entry database that is read is well formed.
use Rattle.std.proofs.Common.{◌≡◌, ℕ, zero, suc, ◌+◌, ◌<◌, List, [], ◌∷◌, ◌++◌, length, Bool, true, false, cond, not, ◌&&◌, ◌==◌, ◌⊎◌, inl, inr, Option, Some, None, unwrap_or, Ok, Err, ℤ, pos, negsuc, codes, refl, ap, subst, ◌∙◌, arith}
use Rattle.std.specs.Prelude.{IfSome, slice_get}
use Rattle.std.specs.List.{position_from}
use Rattle.std.specs.Option.{option_map_or}
use Rattle.toml.specs.Data.{Data, Members, get_member, as_integer, as_bool}
use Rattle.fp_model.specs.declared.name.Name.{Name}
use Rattle.fp_model.specs.declared.definitions.SegDef.{SegDef}
use Rattle.fp_model.specs.declared.definitions.FieldDef.{FieldDef}
use Rattle.fp_model.specs.declared.definitions.AreaDef.{AreaDef}
use Rattle.fp_model.specs.Texts.{same_text}
use Rattle.fp_model.specs.Names.{IsName}
use Rattle.fp_model.specs.WellFormed.{Between, BeginsWithKey, IsTypeName, IsSegDef, has_sequential, HasCapacity, IsAreaDef}
use Rattle.def_tables.specs.Readings.{or_fault}
use Rattle.def_tables.specs.Values.{as_name}
use Rattle.def_tables.specs.Keys.{occurs, only, needed, name_at, once, new_name, within, number_at, number_within, number_or, flag_at}
use Rattle.fp_defs.specs.Segments.{segment_names, not_KEY, segment_name, no_limit, says_sequential, place_of, parent_in, parent_at, at_its_place, sequential_at, segment_of}
use Rattle.fp_defs.specs.Areas.{area_names, capacity_in, capacity_at, area_of}
use Rattle.def_tables.specs.declared.fault.DefsFault.{DefsFault}
use Rattle.def_tables.specs.declared.fault.DefsFault.TheVariants.{BadField}
use Rattle.def_tables.specs.declared.keys.Form.TheVariants.{Area}
use Rattle.fp_defs.proofs.Beside.{IsRead}
use Rattle.fp_defs.proofs.Distinct.{once-new}
use Rattle.def_tables.proofs.KeyLemmas.{within-any}
use Rattle.fp_defs.proofs.LayoutLemmas.{layout_keeps, name_at-is}
use Rattle.fp_defs.proofs.MsdbLemmas.{new_name-is}
use Rattle.fp_defs.proofs.SegmentLemmas.{segment_read, found_below}
use Rattle.def_tables.proofs.Steps.{ok_step, ok_same, some_from_ok}
use Rattle.plain_laws.proofs.Truths.{not_true, second_of_both}

-- ---- areas

pub number_at-within : (key : List ℕ) (low high : ℕ) (table : Members) (n : ℕ) → number_at key low high table ≡ Ok n
    → Between low high n
unfolding number_at number_within
number_at-within key low high table n e =
    let value = ok_step (needed key table) _ n e in
    let read = ok_step (or_fault (BadField key) (as_integer value.0)) (within key low high) n value.2 in
    within-any key low high read.0 n read.2

pub number_within-within : (key : List ℕ) (low high : ℕ) (d : Data) (n : ℕ) → number_within key low high d ≡ Ok n
    → Between low high n
unfolding number_within
number_within-within key low high d n e =
    let read = ok_step (or_fault (BadField key) (as_integer d)) (within key low high) n e in
    within-any key low high read.0 n read.2

number_or-by : (default : ℕ) (key : List ℕ) (low high : ℕ) (value : Option Data) (n : ℕ) → Between low high default
    → option_map_or (number_within key low high) value (Ok default) ≡ Ok n → Between low high n
number_or-by default key low high None n fair e = let same : default ≡ n = cc in subst (Between low high) same fair
number_or-by default key low high (Some d) n fair e = number_within-within key low high d n e

pub number_or-within : (default : ℕ) (key : List ℕ) (low high : ℕ) (table : Members) (n : ℕ) → Between low high default
    → number_or default key low high table ≡ Ok n → Between low high n
unfolding number_or
number_or-within default key low high table n fair e = number_or-by default key low high (get_member key table) n fair e

capacity_has : (sequential : Bool) (z : ℤ) (n : ℕ) → capacity_in sequential z ≡ Ok n → HasCapacity sequential n
capacity_has false (pos zero) n e = cc
capacity_has false (pos (suc m)) n e = absurd (cc)
capacity_has false (negsuc m) n e = absurd (cc)
capacity_has true (pos zero) n e = absurd (cc)
capacity_has true (pos (suc m)) n e = within-any (codes "capacity") 1 1000000 (pos (suc m)) n e
capacity_has true (negsuc m) n e = within-any (codes "capacity") 1 1000000 (negsuc m) n e

capacity_at-has : (sequential : Bool) (table : Members) (n : ℕ) → capacity_at sequential table ≡ Ok n
    → HasCapacity sequential n
unfolding capacity_at
capacity_at-has sequential table n e =
    let read = ok_step (option_map_or (λ value. or_fault (BadField (codes "capacity")) (as_integer value))
    (get_member (codes "capacity") table) (Ok (pos 0))) (capacity_in sequential) n e in
    capacity_has sequential read.0 n read.2

abbrev pub AreaKeeps : List SegDef → List (List ℕ) → List AreaDef → AreaDef → Type 0
AreaKeeps types others before def = IsAreaDef types def × (occurs (others ++ area_names before) def.name.0 ≡ false)

pub area_keeps : (types : List SegDef) (others : List (List ℕ)) (before : List AreaDef) (table : Members)
    (def : AreaDef)
    → area_of (has_sequential types) others before table ≡ Ok def → AreaKeeps types others before def
unfolding area_of
area_keeps types others before table def e =
    let o = ok_step (only Area table) _ def e in
    let n = ok_step (new_name (others ++ area_names before) table) _ def o.2 in
    let u = ok_step (number_at (codes "uows") 1 65536 table) _ def n.2 in
    let b = ok_step (number_at (codes "base") 1 1000 table) _ def u.2 in
    let v = ok_step (number_at (codes "overflow") 0 1000 table) _ def b.2 in
    let c = ok_step (capacity_at (has_sequential types) table) _ def v.2 in
    let k = ok_step (number_or 1 (codes "copies") 1 7 table) _ def c.2 in
    let read : AreaDef = record { name = n.0; uows = u.0; base = b.0; overflow = v.0; capacity = c.0; copies = k.0 } in
    let made : Ok read ≡ Ok def = k.2 in
    let same : read ≡ def = cc in
    let name = new_name-is (others ++ area_names before) table n.0 n.1 in
    subst (AreaKeeps types others before) same (
      record {
        name = name.0;
        uows = number_at-within (codes "uows") 1 65536 table u.0 u.1;
        base = number_at-within (codes "base") 1 1000 table b.0 b.1;
        overflow = (number_at-within (codes "overflow") 0 1000 table v.0 v.1).1;
        capacity = capacity_at-has (has_sequential types) table c.0 c.1;
        copies = number_or-within 1 (codes "copies") 1 7 table k.0 (omega arith, omega arith) k.1;
      },
      name.1,
    )

-- ---- segments

-- the segment that a place names isn't sequential
found_by : (b : Bool) (i n : ℕ) (rest : Option ℕ) → cond b (Some i) rest ≡ Some n → ((b ≡ true) × (i ≡ n))
    ⊎ ((b ≡ false) × (rest ≡ Some n))
found_by true i n rest e = inl (refl, cc)
found_by false i n rest e = inr (refl, e)

-- what stands at a place that was found, counted from another on
found_direct : (text : List ℕ) (i : ℕ) (defs : List SegDef) (n k : ℕ)
    → position_from (λ def. same_text def.name.0 text && not def.sequential) i defs ≡ Some n → n ≡ i + k
    → (p : SegDef) → slice_get defs k ≡ Some p → p.sequential ≡ false
found_direct text i [] n k e is p there = absurd (cc)
found_direct text i (def ∷ defs) n zero e is p there =
    elim (found_by (same_text def.name.0 text && not def.sequential) i n (position_from _ (i + 1) defs) e) [
      | inl h ↦ let same : def ≡ p = cc in subst (λ (d : SegDef). d.sequential ≡ false) same
          (not_true def.sequential (second_of_both (same_text def.name.0 text) (not def.sequential) h.0))
      | inr h ↦ let below = found_below _ (i + 1) defs n h.1 in absurd (omega arith)
    ]
found_direct text i (def ∷ defs) n (suc k) e is p there =
    elim (found_by (same_text def.name.0 text && not def.sequential) i n (position_from _ (i + 1) defs) e) [
      | inl h ↦ let same : i ≡ n = h.1 in absurd (omega arith)
      | inr h ↦ found_direct text (i + 1) defs n k h.1 (omega arith) p there
    ]

-- in more segments the same stands at a place
slice_more : (before rest : List SegDef) (k : ℕ) (p : SegDef) → k < length before
    → slice_get (before ++ rest) k ≡ Some p → slice_get before k ≡ Some p
slice_more [] rest k p within e = absurd (omega arith)
slice_more (x ∷ xs) rest zero p within e = e
slice_more (x ∷ xs) rest (suc k) p within e = slice_more xs rest k p (omega arith) e

-- the parent isn't sequential, in any list that goes on from those before
abbrev IsDirectParent : List SegDef → Option ℕ → Type 0
IsDirectParent before parent = IfSome parent (λ n. (rest : List SegDef) (p : SegDef)
    → slice_get (before ++ rest) n ≡ Some p → p.sequential ≡ false)

direct_named : (before : List SegDef) (n : ℕ) (name : Option Name) → option_map_or (place_of before) name None ≡ Some n
    → (rest : List SegDef) (p : SegDef) → slice_get (before ++ rest) n ≡ Some p → p.sequential ≡ false
direct_named before n None e rest p there = absurd (cc)
direct_named before n (Some name) e rest p there =
    let below = found_below _ 0 before n e in
    found_direct name.0 0 before n n e (omega arith) p (slice_more before rest n p (omega arith) there)

root_direct : (value : Option Data) (parent : Option ℕ)
    → option_map_or (λ value. Err (BadField (codes "parent"))) value (Ok None) ≡ Ok parent → IsDirectParent [] parent
root_direct (Some value) parent e = absurd (cc)
root_direct None parent e = let same : None ≡ parent = cc in subst (IsDirectParent []) same tt

parent_direct : (before : List SegDef) (table : Members) (parent : Option ℕ) → parent_at before table ≡ Ok parent
    → IsDirectParent before parent
unfolding parent_at
parent_direct [] table parent e = root_direct (get_member (codes "parent") table) parent e
parent_direct (root ∷ before) table parent e =
    let value = ok_step (needed (codes "parent") table) _ parent e in
    let place = ok_step (or_fault (BadField (codes "parent")) (parent_in (root ∷ before) value.0)) _ parent value.2 in
    let made : Ok (Some place.0) ≡ Ok parent = place.2 in
    let same : Some place.0 ≡ parent = cc in
    subst (IsDirectParent (root ∷ before)) same (direct_named (root ∷ before) place.0 (as_name value.0)
    (some_from_ok _ _ _ place.1))

other_by : (b : Bool) (fault : DefsFault) (read name : Name) → cond b (Err fault) (Ok read) ≡ Ok name → (b ≡ false)
    × (read ≡ name)
other_by true fault read name e = absurd (cc)
other_by false fault read name e = (refl, cc)

-- a type's name is a name, isn't KEY, and is new
segment_name-is : (before : List SegDef) (table : Members) (name : Name) → segment_name before table ≡ Ok name
    → IsTypeName name × (occurs (segment_names before) name.0 ≡ false)
unfolding segment_name
segment_name-is before table name e =
    let read = ok_step (name_at (codes "name") table) _ name e in
    let other = ok_step (not_KEY read.0) (once (segment_names before)) name read.2 in
    let new = once-new (segment_names before) other.0 name other.2 in
    let apart = other_by (same_text read.0.0 (codes "KEY     ")) (BadField (codes "name")) read.0 other.0 other.1 in
    let same : read.0 ≡ name = apart.1 ∙ new.1 in (
      (
        subst IsName same (name_at-is (codes "name") table read.0 read.1),
        subst (λ (n : Name). same_text n.0 (codes "KEY     ") ≡ false) same apart.0,
      ),
      new.0,
    )

-- what one type keeps, all types being those before it, itself and some behind
abbrev pub SegmentKeeps : List SegDef → SegDef → Type 0
SegmentKeeps before def = ((rest : List SegDef) → IsSegDef (before ++ rest) def)
    × (occurs (segment_names before) def.name.0 ≡ false)

direct_in : (before rest : List SegDef) (parent : Option ℕ) → IsDirectParent before parent
    → IfSome parent (λ n. (p : SegDef) → slice_get (before ++ rest) n ≡ Some p → p.sequential ≡ false)
direct_in before rest None direct = tt
direct_in before rest (Some n) direct = direct rest

said_bool : (o : Option Bool) → unwrap_or o false ≡ true → or_fault (BadField (codes "sequential")) o ≡ Ok true
said_bool None e = absurd (cc)
said_bool (Some b) e = ap Ok e

-- what says true at `sequential` is read as true
said_flag : (value : Option Data) → option_map_or (λ v. unwrap_or (as_bool v) false) value false ≡ true
    → option_map_or (λ v. or_fault (BadField (codes "sequential")) (as_bool v)) value (Ok false) ≡ Ok true
said_flag None e = absurd (cc)
said_flag (Some v) e = said_bool (as_bool v) e

flag_or_key : (said flag : Bool) (fields : List FieldDef) → (not said ≡ true → BeginsWithKey fields)
    → (said ≡ true → flag ≡ true) → (flag ≡ true) ⊎ BeginsWithKey fields
flag_or_key true flag fields key said = inl (said refl)
flag_or_key false flag fields key said = inr (key refl)

kept_by : (b is : Bool) → cond b (Ok true) (Err (BadField (codes "sequential"))) ≡ Ok is → is ≡ true
kept_by true is e = cc
kept_by false is e = absurd (cc)

place_kept : (before : List SegDef) (parent : Option ℕ) (is : Bool) → at_its_place before parent true ≡ Ok is
    → is ≡ true
place_kept before None is e = absurd (cc)
place_kept before (Some p) is e = kept_by (length before == 1 && p == 0) is e

sequential_said : (before : List SegDef) (parent : Option ℕ) (table : Members) (is : Bool)
    → says_sequential table ≡ true → sequential_at before parent table ≡ Ok is → is ≡ true
unfolding sequential_at says_sequential flag_at
sequential_said before parent table is said e =
    let flag = ok_step (option_map_or (λ v. or_fault (BadField (codes "sequential")) (as_bool v))
    (get_member (codes "sequential") table) (Ok false)) (at_its_place before parent) is e in
    let read = said_flag (get_member (codes "sequential") table) said in
    let same : flag.0 ≡ true = ok_same _ _ _ flag.1 read in
    place_kept before parent is (subst (λ (b : Bool). at_its_place before parent b ≡ Ok is) same flag.2)

pub segment_keeps : (before : List SegDef) (def : SegDef) → IsRead segment_of before def → SegmentKeeps before def
segment_keeps before def read =
    let r = segment_read before read.0 def read.1 in
    let name = segment_name-is before read.0 def.name r.name in
    let layout = layout_keeps (not (says_sequential read.0)) no_limit read.0 _ r.layout in
    let direct = parent_direct before read.0 def.parent r.parent in (
      (λ rest. record {
        name = name.0;
        layout = layout.whole;
        key = flag_or_key (says_sequential read.0) def.sequential def.fields layout.key
            (λ said. sequential_said before def.parent read.0 def.sequential said r.sequential);
        parent = direct_in before rest def.parent direct;
      }),
      name.1,
    )
