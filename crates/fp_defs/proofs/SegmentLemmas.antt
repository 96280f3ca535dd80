-- Segment types that are read: their places, parents and lengths.
use Rattle.std.proofs.Common.{◌≡◌, ℕ, ◌+◌, ◌-◌, ◌*◌, ◌<◌, ◌≤◌, List, [], ◌∷◌, ◌++◌, length, Bool, true, false, cond, not, ◌&&◌, ◌==◌, if◌then◌else◌, ◌⊎◌, inl, inr, Option, Some, None, Ok, Err, pos, codes, refl, sym, ap, subst, ◌∙◌, arith}
use Rattle.std.specs.Prelude.{IfSome, ⊤}
use Rattle.std.specs.List.{AllByRecursion, position_from}
use Rattle.std.specs.Option.{option_map_or}
use Rattle.std.proofs.lemmas.Bool.Decides.{nat_tests}
use Rattle.std.proofs.lemmas.List.{length_push}
use Rattle.toml.specs.Data.{Data, Members, get_member}
use Rattle.fp_model.specs.declared.name.Name.{Name}
use Rattle.fp_model.specs.declared.definitions.SegDef.{SegDef}
use Rattle.fp_model.specs.Order.{child_types}
use Rattle.fp_model.specs.WellFormed.{HasPlace, HavePlaces, EachFits, has_sequential, in_fours, stored_length}
use Rattle.def_tables.specs.Readings.{or_fault}
use Rattle.def_tables.specs.Values.{as_name}
use Rattle.def_tables.specs.Keys.{only, needed, flag_at, within}
use Rattle.def_tables.specs.Fields.{fields_at}
use Rattle.fp_defs.specs.Segments.{segment_name, no_limit, says_sequential, place_of, parent_in, parent_at, at_its_place, sequential_at, segment_of, all_fit}
use Rattle.fp_defs.specs.inside.Segments.{IsNarrow}
use Rattle.def_tables.specs.declared.fault.DefsFault.TheVariants.{BadField}
use Rattle.def_tables.specs.declared.keys.Form.TheVariants.{Segment}
use Rattle.fp_defs.proofs.Beside.{Beside, IsRead}
use Rattle.def_tables.proofs.KeyLemmas.{within-ok}
use Rattle.def_tables.proofs.Steps.{ok_step, some_from_ok}

-- ---- what a table of a segment gave

pub record SegmentRead (before : List SegDef) (members : Members) (def : SegDef) : Type 0 where
  pub name : segment_name before members ≡ Ok def.name
  pub layout : fields_at (not (says_sequential members)) no_limit members ≡ Ok
      (record { fields = def.fields; length = def.length })
  pub parent : parent_at before members ≡ Ok def.parent
  pub sequential : sequential_at before def.parent members ≡ Ok def.sequential

pub segment_read : (before : List SegDef) (members : Members) (def : SegDef) → segment_of before members ≡ Ok def
    → SegmentRead before members def
unfolding segment_of
segment_read before members def e =
    let o = ok_step (only Segment members) _ def e in
    let n = ok_step (segment_name before members) _ def o.2 in
    let l = ok_step (fields_at (not (says_sequential members)) no_limit members) _ def n.2 in
    let p = ok_step (parent_at before members) _ def l.2 in
    let s = ok_step (sequential_at before p.0 members) _ def p.2 in
    let made : Ok (record {
      name = n.0;
      parent = p.0;
      sequential = s.0;
      fields = l.0.fields;
      length =
          l.0.length;
    }) ≡ Ok def = s.2 in
    let same : record { name = n.0; parent = p.0; sequential = s.0; fields = l.0.fields; length = l.0.length } ≡ def =
    cc in
    subst (SegmentRead before members) same (record { name = n.1; layout = l.1; parent = p.1; sequential = s.1 })

-- ---- places

found_in : (b : Bool) (i n : ℕ) (rest : Option ℕ) → cond b (Some i) rest ≡ Some n → ((b ≡ true) × (i ≡ n))
    ⊎ ((b ≡ false) × (rest ≡ Some n))
found_in true i n rest e = inl (refl, cc)
found_in false i n rest e = inr (refl, e)

pub found_below : (test : SegDef → Bool) (i : ℕ) (defs : List SegDef) (n : ℕ) → position_from test i defs ≡ Some n
    → (i ≤ n) × (n < i + length defs)
found_below test i [] n e = absurd (cc)
found_below test i (def ∷ defs) n e =
    elim (found_in (test def) i n (position_from test (i + 1) defs) e) [
      | inl h ↦ let same : i ≡ n = h.1 in (omega arith, omega arith)
      | inr h ↦ let r = found_below test (i + 1) defs n h.1 in (omega arith, omega arith)
    ]

by_name_of : (before : List SegDef) (n : ℕ) (name : Option Name) → option_map_or (place_of before) name None ≡ Some n
    → n < length before
by_name_of before n None e = absurd (cc)
by_name_of before n (Some name) e = let below = found_below _ 0 before n e in omega arith

parent_below : (before : List SegDef) (value : Data) (n : ℕ) → parent_in before value ≡ Some n → n < length before
parent_below before value n e = by_name_of before n (as_name value) e

-- a parent that was read: none at the root, elsewhere one of those before
abbrev IsParent : List SegDef → Option ℕ → Type 0
IsParent before parent = IfSome parent (λ p. p < length before) × (parent ≡ None → length before ≡ 0)
    × (length before ≡ 0 → parent ≡ None)

root_parent : (value : Option Data) (parent : Option ℕ)
    → option_map_or (λ value. Err (BadField (codes "parent"))) value (Ok None) ≡ Ok parent → IsParent [] parent
root_parent (Some value) parent e = absurd (cc)
root_parent None parent e = let same : None ≡ parent = cc in subst (IsParent []) same (tt, (λ _. refl), (λ _. refl))

parent_is : (before : List SegDef) (members : Members) (parent : Option ℕ) → parent_at before members ≡ Ok parent
    → IsParent before parent
unfolding parent_at
parent_is [] members parent e = root_parent (get_member (codes "parent") members) parent e
parent_is (root ∷ before) members parent e =
    let value = ok_step (needed (codes "parent") members) _ parent e in
    let place = ok_step (or_fault (BadField (codes "parent")) (parent_in (root ∷ before) value.0)) _ parent value.2 in
    let made : Ok (Some place.0) ≡ Ok parent = place.2 in
    let same : Some place.0 ≡ parent = cc in
    let below : place.0 < length (root ∷ before) = parent_below (root ∷ before) value.0 place.0
    (some_from_ok _ _ _ place.1) in
    subst (IsParent (root ∷ before)) same (below, (λ none. absurd (cc)), (λ none. absurd (omega arith)))

-- a sequential type is the second, below the root
second : (n p : ℕ) (b : Bool) → (n == 1 && p == 0) ≡ b → (is : Bool)
    → cond b (Ok true) (Err (BadField (codes "sequential"))) ≡ Ok is → (n ≡ 1) × (Some p ≡ Some 0)
second n p true e is given = (grind (arith, nat_tests), ap Some (grind (arith, nat_tests)))
second n p false e is given = absurd (cc)

sequential_by : (before : List SegDef) (parent : Option ℕ) (said is : Bool) → at_its_place before parent said ≡ Ok is
    → is ≡ true → (length before ≡ 1) × (parent ≡ Some 0)
sequential_by before parent false is e yes1 = absurd (cc)
sequential_by before None true is e yes1 = absurd (cc)
sequential_by before (Some p) true is e yes1 =
    second (length before) p (length before == 1 && p == 0) refl is e

pub sequential_is : (before : List SegDef) (parent : Option ℕ) (members : Members) (is : Bool)
    → sequential_at before parent members ≡ Ok is → is ≡ true → (length before ≡ 1) × (parent ≡ Some 0)
unfolding sequential_at
sequential_is before parent members is e yes1 =
    let said = ok_step (flag_at (codes "sequential") members) (at_its_place before parent) is e in
    sequential_by before parent said.0 is said.2 yes1

pub has_place : (before : List SegDef) (def : SegDef) → IsRead segment_of before def → HasPlace (length before) def
has_place before def read =
    let r = segment_read before read.0 def read.1 in
    let p = parent_is before read.0 def.parent r.parent in
    (p.0, p.1, p.2, sequential_is before def.parent read.0 def.sequential r.sequential)

pub have_places : (before defs : List SegDef) → Beside (IsRead segment_of) before defs → HavePlaces (length before) defs
have_places before [] all = tt
have_places before (def ∷ defs) all = (
  has_place before def all.0,
  subst (λ (n : ℕ). HavePlaces n defs) (length_push before def)
      (have_places (before ++ def ∷ []) defs all.1),
)

-- ---- room

pub each_fits : (ci : ℕ) (types : List SegDef) (place : ℕ) (defs : List SegDef) (done : ⊤)
    → all_fit (ci - 32) types place defs ≡ Ok done → EachFits ci types place defs
each_fits ci types place [] done e = tt
each_fits ci types place (def ∷ defs) done e =
    let first = ok_step (within (codes "fields") 0 (ci - 32) (pos (stored_length types place def)))
    (λ _. all_fit (ci - 32) types (place + 1) defs) done e in
    ((within-ok _ _ _ _ _ first.1).1, each_fits ci types (place + 1) defs done first.2)

fours : (n : ℕ) → n ≤ in_fours n
fours n = omega arith

stored_or : (b : Bool) (a n : ℕ) → n ≤ cond b (16 + n) (in_fours (a + n))
stored_or true a n = omega arith
stored_or false a n = let f = fours (a + n) in omega arith

pub stored_holds : (types : List SegDef) (place : ℕ) (def : SegDef) → def.length ≤ stored_length types place def
stored_holds types place def =
    stored_or def.sequential (14 + (if place == 0 && has_sequential types then 8 else 0) + 10 * length
    (child_types types place)) def.length

pub fits_at : (room ci : ℕ) (read types : List SegDef) (done : ⊤) → room ≡ ci - 32 → read ≡ types
    → all_fit room read 0 read ≡ Ok done → EachFits ci types 0 types
fits_at room ci read types done e f all =
    each_fits ci types 0 types done (ap (λ (n : ℕ). all_fit n types 0 types) (sym e) ∙ ap
    (λ (ts : List SegDef). all_fit room ts 0 ts) (sym f) ∙ all)

-- ---- room in a definition

near_by : (parent : Option ℕ) (place : ℕ) → IfSome parent (λ p. p < place) → place ≤ 256 → IfSome parent (λ p. p < 256)
near_by None place h few = tt
near_by (Some p) place h few = omega (arith, h)

pub narrow_by : (room place : ℕ) (types defs : List SegDef) → HavePlaces place defs → EachFits room types place defs
    → room ≤ 65535 → place + length defs ≤ 256 → AllByRecursion IsNarrow defs
narrow_by room place types [] places fits small few = tt
narrow_by room place types (def ∷ defs) places fits small few =
    let stored = stored_holds types place def in (
      record { near = near_by def.parent place places.0.0 (omega arith); short = omega (arith, fits.0) },
      narrow_by room (place + 1) types defs places.1 fits.1 small (omega arith),
    )
