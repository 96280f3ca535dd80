-- Roots in form: what a walk reads.
use Rattle.std.proofs.Common.{◌≡◌, ℕ, zero, suc, ◌+◌, ◌<◌, ◌≤◌, Bool, true, false, ◌&&◌, ◌==◌, nat_lt, List, [], ◌∷◌, ◌++◌, length, drop, get_or, refl, sym, ap, ◌∙◌, append_assoc, arith}
use Rattle.std.proofs.lemmas.Bool.{lt-ltb, and_from, and_parts}
use Rattle.std.proofs.lemmas.Bool.Decides.{nat_tests}
use Rattle.std.proofs.lemmas.List.{append-nil, drop_all}
use Rattle.fp_model.specs.declared.definitions.SegDef.{SegDef}
use Rattle.fp_model.specs.declared.database.Node.{Node, roll-Node}
use Rattle.fp_model.specs.declared.database.Node.TheFolds.{fold-roll-Node}
use Rattle.fp_model.specs.declared.database.Root.{Root}
use Rattle.fp_model.specs.declared.database.SeqItem.{SeqItem}
use Rattle.fp_model.specs.Order.{child_types}
use Rattle.fp_model.specs.Shape.{has_length}
use Rattle.fp_model.specs.WellFormed.{has_sequential}
use Rattle.anchor_elements.specs.declared.element.First.{First}
use Rattle.anchor_elements.specs.Elements.{has_serial}
use Rattle.anchor_elements.specs.Reading.{types_of}
use Rattle.root_anchor.specs.Chains.{newest}
use Rattle.root_anchor.specs.Stored.{form_step, is_in_form, rows_have_form, is_newest, is_storable, are_storable}
use Rattle.root_anchor.specs.inside.Stored.{row_has_form}
use Rattle.root_anchor.proofs.WalkSteps.{left_first}

-- a segment with its rows below it
pub node_form : (types : List SegDef) (type : ℕ) (bytes : List ℕ) (children : List (List Node))
    → has_length types type bytes ≡ true → rows_have_form types (child_types types type) children ≡ true
    → is_in_form types (roll-Node (record { bytes = bytes; children = children })) type ≡ true
node_form types type bytes children e f =
    ap (λ (g : ℕ → Bool). g type)
    (fold-roll-Node (ℕ → Bool) (form_step types) (record { bytes = bytes; children = children }))
    ∙ and_from (has_length types type bytes) (rows_have_form types (child_types types type) children) e f

pub row_more : (types : List SegDef) (type : ℕ) (row : List Node) (node : Node) → row_has_form types type row ≡ true
    → is_in_form types node type ≡ true → row_has_form types type (row ++ node ∷ []) ≡ true
row_more types type [] node e f = and_from (is_in_form types node type) true f refl
row_more types type (n ∷ row) node e f =
    let p = and_parts (is_in_form types n type) (row_has_form types type row) e in
    and_from (is_in_form types n type) (row_has_form types type (row ++ node ∷ [])) p.0 (row_more types type row node p.1 f)

-- a row with one segment more
pub row_form : (types : List SegDef) (type : ℕ) (row pushed : List Node) (bytes : List ℕ) (children : List (List Node))
    (kinds : List ℕ) → row_has_form types type row ≡ true → has_length types type bytes ≡ true
    → kinds ≡ child_types types type → rows_have_form types kinds children ≡ true
    → pushed ≡ row ++ roll-Node (record { bytes = bytes; children = children }) ∷ []
    → row_has_form types type pushed ≡ true
row_form types type row pushed bytes children kinds e l k f p =
    ap (row_has_form types type) p ∙ row_more types type row (roll-Node (record { bytes = bytes; children = children }))
    e
    (node_form types type bytes children l (ap (λ ks. rows_have_form types ks children) (sym k) ∙ f))

-- rows with one row more, and those of the types that are left
pub rows_form : (types : List SegDef) (list : List First) (rows pushed : List (List Node)) (row : List Node) (k : ℕ)
    (d : First) → k < length list
    → ((rest : List (List Node)) → rows_have_form types (types_of (drop k list)) rest ≡ true
    → rows_have_form types (types_of list) (rows ++ rest) ≡ true)
    → row_has_form types (get_or list k d).segment row ≡ true → pushed ≡ rows ++ row ∷ []
    → (rest : List (List Node)) → rows_have_form types (types_of (drop (k + 1) list)) rest ≡ true
    → rows_have_form types (types_of list) (pushed ++ rest) ≡ true
rows_form types list rows pushed row k d l so e p rest f =
    let left : drop k list ≡ get_or list k d ∷ drop (k + 1) list = left_first list k d l in
    let one : rows_have_form types (types_of (drop k list)) (row ∷ rest) ≡ true =
    ap (λ x. rows_have_form types (types_of x) (row ∷ rest)) left
    ∙ and_from (row_has_form types (get_or list k d).segment row)
    (rows_have_form types (types_of (drop (k + 1) list)) rest) e f in
    ap (λ x. rows_have_form types (types_of list) (x ++ rest)) p
    ∙ ap (rows_have_form types (types_of list)) (append_assoc rows (row ∷ []) rest)
    ∙ so (row ∷ rest) one

-- all rows, where no type is left
pub rows_whole : (types : List SegDef) (list : List First) (rows : List (List Node)) (k : ℕ) → length list ≤ k
    → ((rest : List (List Node)) → rows_have_form types (types_of (drop k list)) rest ≡ true
    → rows_have_form types (types_of list) (rows ++ rest) ≡ true) → rows_have_form types (types_of list) rows ≡ true
rows_whole types list rows k l so =
    let none : rows_have_form types (types_of (drop k list)) [] ≡ true =
    ap (λ x. rows_have_form types (types_of x) []) (drop_all k list l) in
    ap (rows_have_form types (types_of list)) (sym (append-nil rows)) ∙ so [] none

positive : (n : ℕ) → nat_lt 0 (suc n) ≡ true
positive n = lt-ltb 0 (suc n) (omega arith)

not_zero : (n : ℕ) → (suc n == 0) ≡ false
not_zero n = grind (arith, nat_tests)

newest_some : (n : ℕ) → newest (suc n) ≡ record { serial = suc n; bytes = [] } ∷ []
newest_some n = rw (not_zero n) refl

-- a newest serial as an anchor keeps it
pub newest_form : (types : List SegDef) (serial : ℕ) → (has_serial types 0 ≡ false → serial ≡ 0)
    → is_newest types (newest serial) ≡ true
newest_form types zero f = refl
newest_form types (suc n) f = there (has_sequential types) refl where
  there : (b : Bool) → has_sequential types ≡ b → is_newest types (newest (suc n)) ≡ true
  there true e = ap (is_newest types) (newest_some n) ∙ and_from (has_sequential types && nat_lt 0 (suc n)) (0 == 0)
      (and_from (has_sequential types) (nat_lt 0 (suc n)) e (positive n)) refl
  there false e = absurd (let z = f e in omega (arith, z))

root_more : (types : List SegDef) (roots : List Root) (root : Root) → are_storable types roots ≡ true
    → is_storable types root ≡ true → are_storable types (roots ++ root ∷ []) ≡ true
root_more types [] root e f = and_from (is_storable types root) true f refl
root_more types (r ∷ roots) root e f =
    let p = and_parts (is_storable types r) (are_storable types roots) e in
    and_from (is_storable types r) (are_storable types (roots ++ root ∷ [])) p.0 (root_more types roots root p.1 f)

-- roots with one root more
pub roots_form : (types : List SegDef) (roots pushed : List Root) (bytes : List ℕ) (children : List (List Node))
    (kinds : List ℕ) (serial : ℕ) (seqs : List SeqItem) → are_storable types roots ≡ true
    → has_length types 0 bytes ≡ true → kinds ≡ child_types types 0 → rows_have_form types kinds children ≡ true
    → (has_serial types 0 ≡ false → serial ≡ 0) → seqs ≡ newest serial
    → pushed ≡ roots ++ record { bytes = bytes; children = children; seqs = seqs } ∷ []
    → are_storable types pushed ≡ true
roots_form types roots pushed bytes children kinds serial seqs e l k f s q p =
    let one : Bool = has_length types 0 bytes in
    let two : Bool = rows_have_form types (child_types types 0) children in
    let three : is_newest types seqs ≡ true = ap (is_newest types) q ∙ newest_form types serial s in
    let rows : two ≡ true = ap (λ ks. rows_have_form types ks children) (sym k) ∙ f in
    ap (are_storable types) p
    ∙ root_more types roots (record { bytes = bytes; children = children; seqs = seqs }) e
    (and_from (one && two) (is_newest types seqs) (and_from one two l rows) three)
