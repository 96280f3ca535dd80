-- What the types of a database fit into, and which are direct.
use Rattle.std.proofs.Common.{◌≡◌, ◌≢◌, ℕ, zero, suc, ◌+◌, ◌-◌, ◌*◌, ◌/◌, ◌^◌, ◌<◌, ◌≤◌, inl, inr, Bool, true, false, not, ◌&&◌, ◌==◌, List, [], ◌∷◌, length, slice_get, get_or, Option, Some, None, IfSome, if◌then◌else◌, refl, sym, ap, ◌∙◌, subst, arith}
use Rattle.std.proofs.lemmas.Option.{slice_get_cases}
use Rattle.fp_model.specs.declared.database.Node.{Node, out-Node}
use Rattle.fp_model.specs.declared.database.Node.TheFolds.{fold_out-Node}
use Rattle.fp_model.specs.declared.database.Root.{Root}
use Rattle.fp_model.specs.Order.{is_child_of, numbers_from, child_types}
use Rattle.fp_model.specs.Shape.{has_length}
use Rattle.std.specs.Option.{option_map_or}
use Rattle.ci_space.specs.Element.{size_for}
use Rattle.ci_overflow.specs.Faults.{FitsEmpty}
use Rattle.fp_model.specs.declared.definitions.SegDef.{SegDef}
use Rattle.fp_model.specs.WellFormed.{HavePlaces, EachFits, stored_length, in_fours, has_sequential}
use Rattle.anchor_elements.specs.Elements.{has_serial, serial_length, segment_length, content_length}
use Rattle.anchor_elements.specs.Elements.{AreTypes}
use Rattle.root_anchor.specs.Stored.{is_newest, is_storable, are_storable, form_step, is_in_form, rows_have_form}
use Rattle.root_anchor.specs.inside.Stored.{row_has_form}
use Rattle.root_anchor.specs.inside.Rebuilding.{IsDirect}
use Rattle.plain_laws.proofs.Truths.{first_of_both, not_true, second_of_both}
use Rattle.plain_laws.proofs.Numbers.{number_is}
use Rattle.plain_laws.proofs.Options.{some_weaker}

-- ---- what a type fits into

fits_at : (size : ℕ) (types : List SegDef) (place k : ℕ) (defs : List SegDef) (def : SegDef)
    → EachFits size types place defs → slice_get defs k ≡ Some def → stored_length types (place + k) def ≤ size - 32
fits_at size types place k [] def f e = absurd (let h = e in cc)
fits_at size types place zero (d ∷ defs) def f e =
    let same : d ≡ def = cc in
    let P : SegDef → Type 0 = λ x. stored_length types (place + 0) x ≤ size - 32 in
    let z : place + 0 ≡ place = omega arith in
    let Q : ℕ → Type 0 = λ n. stored_length types n d ≤ size - 32 in
    subst P same (subst Q (sym z) f.0)
fits_at size types place (suc k) (d ∷ defs) def f e =
    let z : place + 1 + k ≡ place + suc k = omega arith in
    let Q : ℕ → Type 0 = λ n. stored_length types n def ≤ size - 32 in
    subst Q z (fits_at size types (place + 1) k defs def f.1 e)

fits_direct : (types : List SegDef) (type : ℕ) (def : SegDef) → def.sequential ≡ false
    → stored_length types type def ≡ in_fours (14 + serial_length types type + 10 * length (child_types types type) +
    def.length)
fits_direct types type def e = rw e refl

same_rounded : (a b c : ℕ) → in_fours (14 + a + b + c) ≡ size_for (10 + a + b + c)
same_rounded a b c = let e : 14 + a + b + c + 3 ≡ 10 + a + b + c + 7 = omega arith in ap (λ n. n / 4 * 4) e

fits_some : (size : ℕ) (types : List SegDef) (type : ℕ) (o : Option SegDef) → slice_get types type ≡ o
    → EachFits size types 0 types → IfSome o (λ def. def.sequential ≡ false) → type < length types
    → FitsEmpty size (content_length types type)
fits_some size types type None e f s b = elim (slice_get_cases types type).1 as
    (λ _. FitsEmpty size (content_length types type)) [
      | inl x ↦ absurd (let h = x.2 in cc)
      | inr x ↦ absurd (omega (arith, x.0))
    ]
fits_some size types type (Some def) e f s b =
    let h : stored_length types (0 + type) def ≤ size - 32 = fits_at size types 0 type types def f e in
    let z : 0 + type ≡ type = omega arith in
    let Q : ℕ → Type 0 = λ n. stored_length types n def ≤ size - 32 in
    let i : in_fours (14 + serial_length types type + 10 * length (child_types types type) + def.length) ≤ size - 32 =
    rw (fits_direct types type def s) at (subst Q z h) in
    let l : segment_length types type ≡ def.length = ap (λ o. option_map_or (λ (d : SegDef). d.length) o 0) e in
    let m : in_fours (14 + serial_length types type + 10 * length (child_types types type) + def.length) ≡ size_for
    (content_length types type) =
    same_rounded (serial_length types type) (10 * length (child_types types type)) def.length ∙ ap
    (λ n. size_for (10 + serial_length types type + 10 * length (child_types types type) + n)) (sym l)
    in
    let R : ℕ → Type 0 = λ n. n ≤ size - 32 in
    subst R m i

pub fits-empty : (size : ℕ) (types : List SegDef) (type : ℕ) → AreTypes size types → IsDirect types type
    → FitsEmpty size (content_length types type)
fits-empty size types type a d = fits_some size types type (slice_get types type) refl a.fits d.direct d.defined

-- the bytes of an element's content are few
rounded_up : (n : ℕ) → n ≤ size_for n
rounded_up n = omega arith

pub content-small : (size : ℕ) (types : List SegDef) (type : ℕ) → AreTypes size types → IsDirect types type
    → size ≤ 4096 → content_length types type < 2 ^ 16
content-small size types type a d b =
    let f : size_for (content_length types type) ≤ size - 32 = fits-empty size types type a d in
    let g : content_length types type ≤ size_for (content_length types type) = rounded_up (content_length types type) in
    omega (arith, f, g, b)

-- ---- child types are direct

-- the element at k is the number of a definition that passes the test
record IsPassing (test : SegDef → Bool) (at n : ℕ) (defs : List SegDef) : Type 0 where
  j : ℕ
  is_number : n ≡ at + j
  within : j < length defs
  passes : IfSome (slice_get defs j) (λ def. test def ≡ true)

later : (test : SegDef → Bool) (at n : ℕ) (def : SegDef) (defs : List SegDef) → IsPassing test (at + 1) n defs
    → IsPassing test at n (def ∷ defs)
later test at n def defs p = record {
  j = suc p.j;
  is_number = p.is_number ∙ omega arith;
  within =
      omega (arith, p.within);
  passes = p.passes;
}

pick : (test : SegDef → Bool) (at : ℕ) (def : SegDef) (defs : List SegDef) (rest : List ℕ)
    → ((k : ℕ) → k < length rest → IsPassing test (at + 1) (get_or rest k 0) defs) → (t : Bool) (k : ℕ) → test def ≡ t
    → k < length (if t then at ∷ rest else rest) → IsPassing test at (get_or (if t then at ∷ rest else rest) k 0)
    (def ∷ defs)
pick test at def defs rest f true zero e b = record { j = 0; is_number = omega arith; within = omega arith; passes = e }
pick test at def defs rest f true (suc k) e b = later test at (get_or rest k 0) def defs (f k (omega (arith, b)))
pick test at def defs rest f false k e b = later test at (get_or rest k 0) def defs (f k b)

numbers_pass : (test : SegDef → Bool) (at : ℕ) (defs : List SegDef) (k : ℕ) → k < length (numbers_from at test defs)
    → IsPassing test at (get_or (numbers_from at test defs) k 0) defs
numbers_pass test at [] k b = absurd (omega (arith, b))
numbers_pass test at (def ∷ defs) k b = pick test at def defs (numbers_from (at + 1) test defs)
    (numbers_pass test (at + 1) defs) (test def) k refl b

child_passes : (types : List SegDef) (parent k : ℕ) → k < length (child_types types parent)
    → IsPassing (λ def. is_child_of parent def && not def.sequential) 0 (get_or (child_types types parent) k 0) types
child_passes types parent k b = numbers_pass (λ def. is_child_of parent def && not def.sequential) 0 types k b

pub child-direct : (types : List SegDef) (parent k : ℕ) → k < length (child_types types parent)
    → IsDirect types (get_or (child_types types parent) k 0)
child-direct types parent k b =
    let p = child_passes types parent k b in
    let e : p.j ≡ get_or (child_types types parent) k 0 = omega (arith, p.is_number) in
    let P : ℕ → Type 0 = λ n. IfSome (slice_get types n) (λ def. def.sequential ≡ false) in
    record {
      defined = omega (arith, p.within, p.is_number);
      direct = subst P e (some_weaker (slice_get types p.j)
          (λ def. (is_child_of parent def && not def.sequential) ≡ true) (λ def. def.sequential ≡ false)
          (λ def h. not_true def.sequential (second_of_both (is_child_of parent def) (not def.sequential) h)) p.passes);
    }

-- the first type has no parent
first_no_child : (types : List SegDef) (parent j : ℕ) → HavePlaces 0 types → j < length types
    → IfSome (slice_get types j) (λ def. (is_child_of parent def && not def.sequential) ≡ true) → j ≢ 0
first_no_child [] parent j h b p e = omega (arith, b)
first_no_child (def ∷ defs) parent zero h b p e =
    let n : def.parent ≡ None = h.0.2 refl in
    let f : is_child_of parent def ≡ false = ap (λ (o : Option ℕ). option_map_or (λ p. p == parent) o false) n in
    let t : is_child_of parent def ≡ true = first_of_both (is_child_of parent def) (not def.sequential) p in
    let x : false ≡ true = sym f ∙ t in
    cc
first_no_child (def ∷ defs) parent (suc j) h b p e = omega (arith, e)

is_parent : (o : Option ℕ) (parent place : ℕ) → option_map_or (λ p. p == parent) o false ≡ true
    → IfSome o (λ p. p < place) → parent < place
is_parent None parent place e h = absurd (cc)
is_parent (Some p) parent place e h = omega (arith, number_is p parent e, h)

above_parent : (types : List SegDef) (place parent j : ℕ) → HavePlaces place types → j < length types
    → IfSome (slice_get types j) (λ def. (is_child_of parent def && not def.sequential) ≡ true) → parent < place + j
above_parent [] place parent j h b p = absurd (omega (arith, b))
above_parent (def ∷ defs) place parent zero h b p =
    omega (arith, is_parent def.parent parent place (first_of_both (is_child_of parent def) (not def.sequential) p) h.0.0)
above_parent (def ∷ defs) place parent (suc j) h b p =
    omega (arith, above_parent defs (place + 1) parent j h.1 (omega (arith, b)) p)

pub child-behind : (types : List SegDef) (parent k : ℕ) → HavePlaces 0 types → k < length (child_types types parent)
    → parent < get_or (child_types types parent) k 0
child-behind types parent k h b =
    let p = child_passes types parent k b in
    omega (arith, above_parent types 0 parent p.j h p.within p.passes, p.is_number)

pub child-above : (size : ℕ) (types : List SegDef) (parent k : ℕ) → AreTypes size types
    → k < length (child_types types parent) → parent < get_or (child_types types parent) k 0
child-above size types parent k a b = child-behind types parent k a.places b

no_serial : (types : List SegDef) (n : ℕ) → n ≢ 0 → has_serial types n ≡ false
no_serial types n h = let e : (n == 0) ≡ false = grind arith in ap (λ (b : Bool). b && has_sequential types) e

pub child-serial : (size : ℕ) (types : List SegDef) (parent k : ℕ) → AreTypes size types
    → k < length (child_types types parent) → has_serial types (get_or (child_types types parent) k 0) ≡ false
child-serial size types parent k a b =
    let p = child_passes types parent k b in
    let n : p.j ≢ 0 = first_no_child types parent p.j a.places p.within p.passes in
    no_serial types (get_or (child_types types parent) k 0) (λ e. n (omega (arith, e, p.is_number)))

root_direct : (types : List SegDef) → 0 < length types → HavePlaces 0 types
    → IfSome (slice_get types 0) (λ def. def.sequential ≡ false)
root_direct [] b h = tt
root_direct (def ∷ defs) b h = pick_false def.sequential (λ e. let x : 0 ≡ 1 = (h.0.3 e).0 in omega (arith, x)) where
  pick_false : (t : Bool) → ¬ (t ≡ true) → t ≡ false
  pick_false true n = absurd (n refl)
  pick_false false n = refl

pub root-direct : (size : ℕ) (types : List SegDef) → AreTypes size types → IsDirect types 0
root-direct size types a = record { defined = a.some; direct = root_direct types a.some a.places }

-- ---- rows in form

pub rows-count : (types : List SegDef) (kinds : List ℕ) (rows : List (List Node))
    → rows_have_form types kinds rows ≡ true → length rows ≡ length kinds
rows-count types [] [] e = refl
rows-count types [] (row ∷ rows) e = absurd (cc)
rows-count types (t ∷ kinds) [] e = absurd (cc)
rows-count types (t ∷ kinds) (row ∷ rows) e =
    omega (
      arith,
      rows-count types kinds rows (second_of_both (row_has_form types t row)
          (rows_have_form types kinds rows) e),
    )

row_at : (types : List SegDef) (kinds : List ℕ) (rows : List (List Node)) (k : ℕ) (d : List Node)
    → rows_have_form types kinds rows ≡ true → k < length rows
    → row_has_form types (get_or kinds k 0) (get_or rows k d) ≡ true
row_at types kinds [] k d e b = absurd (omega (arith, b))
row_at types [] (row ∷ rows) k d e b = absurd (cc)
row_at types (t ∷ kinds) (row ∷ rows) zero d e b = first_of_both (row_has_form types t row)
    (rows_have_form types kinds rows) e
row_at types (t ∷ kinds) (row ∷ rows) (suc k) d e b =
    row_at types kinds rows k d (second_of_both (row_has_form types t row)
    (rows_have_form types kinds rows) e) (omega (arith, b))

pub rows-row : (types : List SegDef) (kinds : List ℕ) (rows : List (List Node)) (k : ℕ) (row : List Node) (type : ℕ)
    → rows_have_form types kinds rows ≡ true → k < length rows
    → row ≡ get_or rows k row → type ≡ get_or kinds k 0 → row_has_form types type row ≡ true
rows-row types kinds rows k row type e b r t = ap (λ x. row_has_form types x row) t ∙ ap
    (λ x. row_has_form types (get_or kinds k 0) x) r ∙ row_at types kinds rows k row e b

all_in_form : (types : List SegDef) (type : ℕ) (row : List Node) (k : ℕ) (d : Node)
    → row_has_form types type row ≡ true → k < length row → is_in_form types (get_or row k d) type ≡ true
all_in_form types type [] k d e b = absurd (omega (arith, b))
all_in_form types type (n ∷ row) zero d e b = first_of_both (is_in_form types n type) (row_has_form types type row) e
all_in_form types type (n ∷ row) (suc k) d e b = all_in_form types type row k d
    (second_of_both (is_in_form types n type) (row_has_form types type row) e) (omega (arith, b))

-- a segment of a row is as long as its type says, and has rows in form below it
pub record HasForm (types : List SegDef) (type : ℕ) (node : Node) : Type 0 where
  pub bytes : length (out-Node node).bytes ≡ segment_length types type
  pub rows : rows_have_form types (child_types types type) (out-Node node).children ≡ true

same_length : (types : List SegDef) (o : Option SegDef) (bytes : List ℕ)
    → option_map_or (λ (def : SegDef). length bytes == def.length) o false ≡ true
    → length bytes ≡ option_map_or (λ (def : SegDef). def.length) o 0
same_length types None bytes e = absurd (cc)
same_length types (Some def) bytes e = number_is (length bytes) def.length e

pub length-is : (types : List SegDef) (type : ℕ) (bytes : List ℕ) → has_length types type bytes ≡ true
    → length bytes ≡ segment_length types type
length-is types type bytes e = same_length types (slice_get types type) bytes e

pub row-node : (types : List SegDef) (type : ℕ) (row : List Node) (k : ℕ) (node : Node)
    → row_has_form types type row ≡ true → k < length row → node ≡ get_or row k node
    → HasForm types type node
row-node types type row k node e b n =
    let here : is_in_form types node type ≡ true =
    ap (λ x. is_in_form types x type) n ∙ all_in_form types type row k node e b in
    let step : (has_length types type (out-Node node).bytes && rows_have_form types (child_types types type)
    (out-Node node).children) ≡ true =
    sym (ap (λ (f : ℕ → Bool). f type) (fold_out-Node (ℕ → Bool) (form_step types) node)) ∙ here
    in
    record {
      bytes = length-is types type (out-Node node).bytes
          (first_of_both (has_length types type (out-Node node).bytes)
          (rows_have_form types (child_types types type) (out-Node node).children) step);
      rows = second_of_both (has_length types type (out-Node node).bytes)
          (rows_have_form types (child_types types type) (out-Node node).children) step;
    }

-- ---- roots in form

pub record RootHasForm (types : List SegDef) (root : Root) : Type 0 where
  pub bytes : length root.bytes ≡ segment_length types 0
  pub rows : rows_have_form types (child_types types 0) root.children ≡ true
  pub seqs : is_newest types root.seqs ≡ true

pub root_at : (types : List SegDef) (roots : List Root) (k : ℕ) (d : Root) → are_storable types roots ≡ true
    → k < length roots → is_storable types (get_or roots k d) ≡ true
root_at types [] k d e b = absurd (omega (arith, b))
root_at types (r ∷ roots) zero d e b = first_of_both (is_storable types r) (are_storable types roots) e
root_at types (r ∷ roots) (suc k) d e b = root_at types roots k d
    (second_of_both (is_storable types r) (are_storable types roots) e) (omega (arith, b))

pub root_form : (types : List SegDef) (root : Root) → is_storable types root ≡ true → RootHasForm types root
root_form types root here =
    let one : Bool = has_length types 0 root.bytes in
    let two : Bool = rows_have_form types (child_types types 0) root.children in
    let both : (one && two) ≡ true = first_of_both (one && two) (is_newest types root.seqs) here in
    record {
      bytes = length-is types 0 root.bytes (first_of_both one two both);
      rows = second_of_both one two both;
      seqs = second_of_both (one && two) (is_newest types root.seqs) here;
    }

pub roots-root : (types : List SegDef) (roots : List Root) (k : ℕ) (root : Root) → are_storable types roots ≡ true
    → k < length roots → root ≡ get_or roots k root → RootHasForm types root
roots-root types roots k root e b r = root_form types root (ap (is_storable types) r ∙ root_at types roots k root e b)
