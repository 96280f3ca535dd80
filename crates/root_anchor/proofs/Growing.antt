-- The loops that build rows and roots from their ends: how far they have come, and one step on.
use Rattle.std.proofs.Common.{◌≡◌, ℕ, zero, suc, ◌+◌, ◌-◌, ◌<◌, ◌≤◌, inl, inr, List, [], ◌∷◌, ◌++◌, length, get_or, take, drop, set, map, flat_map, Contains, Option, refl, sym, ap, ◌∙◌, subst, append_assoc, arith}
use Rattle.std.proofs.Math.Seq.{take-suc, drop-cons}
use Rattle.std.proofs.lemmas.List.{append-nil, map-append, drop_all, drop-set, take_all}
use Rattle.std.proofs.lemmas.Grind.{flat_map-append}
use Rattle.ci_space.specs.declared.intervals.Shape.{Shape}
use Rattle.ci_space.specs.Interval.{HasRoom, HasUsed, IsUsed}
use Rattle.ci_overflow.specs.Lists.{bytes_at}
use Rattle.fp_model.specs.declared.definitions.SegDef.{SegDef}
use Rattle.fp_model.specs.declared.database.Node.{Node, out-Node}
use Rattle.fp_model.specs.declared.database.Node.TheFolds.{fold_out-Node}
use Rattle.fp_model.specs.declared.database.Root.{Root}
use Rattle.fp_model.specs.Order.{child_types}
use Rattle.anchor_elements.specs.Elements.{Pointer, nothing, content_length}
use Rattle.anchor_elements.specs.Puts.{PutsSegment}
use Rattle.root_anchor.specs.Chains.{newest}
use Rattle.anchor_elements.specs.Elements.{AreTypes}
use Rattle.root_anchor.specs.inside.Rebuilding.{Exchanges, StandIn, IsPlaced, HaveRoom, AreReserved, and_place, reserved, types_of, IsPlanned, RowsStand, RootsStand, BuildsRows, BuildsRoots, BuildsSegment, types_step, types_below, types_in_rows, types_of_row, types_of_rows, types_of_segment, types_of_roots}
use Rattle.root_anchor.specs.declared.plan.Planned.{Planned}
use Rattle.root_anchor.proofs.Exchanging.{exchange-both}
use Rattle.root_anchor.proofs.PutLemmas.{segment_stays}
use Rattle.root_anchor.proofs.OwnLemmas.{stand-both, stand-none, stand-one}
use Rattle.root_anchor.proofs.Steps.{puts-segment}
use Rattle.root_anchor.proofs.Planning.{reserved-append, reserved-left, reserved-right, reserved-disjoint, rooms-used, still-reserved, IsLeft, IsNext, IsFurther, next-part, further, none-left, exchange-none, all-left}
use Rattle.root_anchor.proofs.Rows.{no-rows, row-ends, row-begins, row-before, rows-stay, no-roots, root-begins, roots-stay}

-- ---- the types in one more segment or row

pub types-below : (types : List SegDef) (type : ℕ) (node : Node)
    → types_below types node type ≡ types_of_segment types type (out-Node node).children
types-below types type node = ap (λ (f : ℕ → List ℕ). f type) (fold_out-Node (ℕ → List ℕ) (types_step types) node)

one_type : (types : List SegDef) (type : ℕ) (node : Node)
    → types_of_row types type (node ∷ []) ≡ types_of_segment types type (out-Node node).children
one_type types type node = append-nil (types_below types node type) ∙ types-below types type node

pub row-types : (types : List SegDef) (type : ℕ) (row : List Node) (k : ℕ) (node : Node) → k < length row
    → node ≡ get_or row k node
    → types_of_row types type (take (suc k) row) ≡ types_of_row types type (take k row) ++ types_of_segment types type
    (out-Node node).children
row-types types type row k node b e =
    let t : take (suc k) row ≡ take k row ++ node ∷ [] =
    take-suc row k node b ∙ ap (λ n. take k row ++ n ∷ []) (sym e) in
    ap (λ (r : List Node). types_of_row types type r) t
    ∙ ap (λ (r : List (ℕ → List ℕ)). flat_map (λ node. node type) r)
    (map-append (types_below types) (take k row) (node ∷ []))
    ∙ flat_map-append (λ (node : ℕ → List ℕ). node type) (map (types_below types) (take k row))
    (map (types_below types) (node ∷ []))
    ∙ ap (λ xs. types_of_row types type (take k row) ++ xs) (one_type types type node)

in_rows_none : (kinds : List ℕ) → types_in_rows kinds [] ≡ []
in_rows_none [] = refl
in_rows_none (k ∷ kinds) = refl

pub rows-types : (types : List SegDef) (kinds : List ℕ) (rows : List (List Node)) (k : ℕ) (row : List Node)
    → length rows ≡ length kinds → k < length rows → row ≡ get_or rows k row
    → types_of_rows types (take (suc k) kinds) (take (suc k) rows) ≡ types_of_rows types (take k kinds) (take k rows) ++
    types_of_row types (get_or kinds k 0) row
rows-types types kinds [] k row l b e = absurd (omega (arith, b))
rows-types types [] (r ∷ rows) k row l b e = absurd (omega (arith, l))
rows-types types (t ∷ kinds) (r ∷ rows) zero row l b e =
    ap (λ xs. types_of_row types t r ++ xs) (in_rows_none (take 0 kinds)) ∙ append-nil (types_of_row types t r) ∙ ap
    (λ x. types_of_row types t x) (sym e)
rows-types types (t ∷ kinds) (r ∷ rows) (suc k) row l b e =
    ap (λ xs. types_of_row types t r ++ xs) (rows-types types kinds rows k row (omega (arith, l)) (omega (arith, b)) e)
    ∙ sym (append_assoc (types_of_row types t r) (types_of_rows types (take k kinds) (take k rows))
    (types_of_row types (get_or kinds k 0) row))

pub roots-types : (types : List SegDef) (roots : List Root) (k : ℕ) (root : Root) → k < length roots
    → root ≡ get_or roots k root
    → types_of_roots types (take (suc k) roots) ≡ types_of_roots types (take k roots) ++ types_of_segment types 0
    root.children
roots-types types roots k root b e =
    let t : take (suc k) roots ≡ take k roots ++ root ∷ [] =
    take-suc roots k root b ∙ ap (λ n. take k roots ++ n ∷ []) (sym e) in
    ap (λ (r : List Root). types_of_roots types r) t
    ∙ flat_map-append (λ (root : Root). types_of_segment types 0 root.children) (take k roots) (root ∷ [])
    ∙ ap (λ xs. types_of_roots types (take k roots) ++ xs) (append-nil (types_of_segment types 0 root.children))

-- ---- a row, from its end

pub record RowDone (shape : Shape) (types : List SegDef) (old now : List (List ℕ)) (plan before used : List Planned)
    (type : ℕ) (row : List Node) (k : ℕ) (next : Pointer) : Type 0 where
  pub left : List Planned
  pub done : List Planned
  pub rest : IsLeft plan before used left done (types_of_row types type (take k row))
  pub built : BuildsRows shape types old now done (type ∷ []) (next ∷ []) (drop k row ∷ [])

pub row-none : (shape : Shape) (types : List SegDef) (area : List (List ℕ)) (plan before used : List Planned) (type : ℕ)
    (row : List Node) → IsPlanned types area plan before used (types_of_row types type row)
    → RowDone shape types area area plan before used type row (length row) nothing
row-none shape types area plan before used type row p =
    let t : take (length row) row ≡ row = take_all (length row) row (omega arith) in
    let d : drop (length row) row ≡ [] = drop_all (length row) row (omega arith) in
    let P : List Node → Type 0 = λ r. IsLeft plan before used used [] (types_of_row types type r) in
    let Q : List Node → Type 0 = λ r. RowsStand types area (type ∷ []) (nothing ∷ []) (r ∷ []) [] in
    record {
      left = used;
      done = [];
      rest = subst P (sym t) (all-left shape types area plan before used (types_of_row types type row) p);
      built = record {
        elements = [];
        exchange = exchange-none shape area;
        stand_in = stand-none area;
        stand =
            subst Q (sym d) (row-ends types area type);
      };
    }

-- the part of the plan for the segment that is next
pub row-next : (shape : Shape) (types : List SegDef) (old now : List (List ℕ)) (plan0 plan before used : List Planned)
    (type : ℕ) (row : List Node) (k : ℕ) (next : Pointer) (node : Node)
    → IsPlanned types old plan0 before used (types_of_row types type row)
    → (d : RowDone shape types old now plan before used type row (suc k) next) → k < length row
    → node ≡ get_or row k node
    → IsNext types now plan before d.left (types_of_row types type (take k row))
    (types_of_segment types type (out-Node node).children)
row-next shape types old now plan0 plan before used type row k next node p d b e =
    let P : List ℕ → Type 0 = λ kinds. IsLeft plan before used d.left d.done kinds in
    next-part shape types old now plan0 plan before used d.left d.done (types_of_row types type row)
    (types_of_row types type (take k row)) (types_of_segment types type (out-Node node).children) d.built.elements p
    (subst P (row-types types type row k node b e) d.rest) d.built.exchange

pub row-step : (shape : Shape) (types : List SegDef) (old now new : List (List ℕ))
    (plan0 plan plan2 before used : List Planned) (type : ℕ) (row : List Node) (k : ℕ) (next at : Pointer) (node : Node)
    → IsPlanned types old plan0 before used (types_of_row types type row)
    → (d : RowDone shape types old now plan before used type row (suc k) next) → k < length row
    → node ≡ get_or row k node
    → ((b u : List Planned) → IsPlanned types now plan b u (types_of_segment types type (out-Node node).children)
    → (plan2 ≡ b) × BuildsSegment shape types now new u type at next 0 (out-Node node).bytes (out-Node node).children)
    → RowDone shape types old new plan2 before used type row k at
row-step shape types old now new plan0 plan plan2 before used type row k next at node p d b e f =
    let first : List ℕ = types_of_row types type (take k row) in
    let second : List ℕ = types_of_segment types type (out-Node node).children in
    let P : List ℕ → Type 0 = λ kinds. IsLeft plan before used d.left d.done kinds in
    let l : IsLeft plan before used d.left d.done (first ++ second) =
    subst P (row-types types type row k node b e) d.rest in
    let n : IsNext types now plan before d.left first second =
    row-next shape types old now plan0 plan before used type row k next node p d b e in
    let g : (plan2 ≡ before ++ n.rest) × BuildsSegment shape types now new n.part type at next 0 (out-Node node).bytes
    (out-Node node).children = f (before ++ n.rest) n.part n.planned in
    let x : IsFurther shape types old now new plan2 before used n.rest (n.part ++ d.done) first d.built.elements
    (at ∷ g.1.below) =
    further shape types old now new plan0 plan plan2 before used d.left d.done (types_of_row types type row) first
    second d.built.elements (at ∷ g.1.below) p l d.built.exchange n g.0 g.1.exchange d.built.stand_in g.1.stand_in
    in
    let others : RowsStand types new (type ∷ []) (next ∷ []) (drop (suc k) row ∷ []) d.built.elements =
    rows-stay types now new (type ∷ []) (next ∷ []) (drop (suc k) row ∷ []) d.built.elements
    (λ q c t s h. segment_stays types now new t q s (λ content. x.stay q t content c) h) d.built.stand
    in
    let all : RowsStand types new (type ∷ []) (at ∷ []) ((node ∷ drop (suc k) row) ∷ [])
    (at ∷ (g.1.below ++ d.built.elements)) =
    row-begins types new type at (record {
      next = next;
      serial = 0;
      firsts = g.1.firsts;
      bytes =
          (out-Node node).bytes;
    }) (out-Node node).children (drop (suc k) row) g.1.below d.built.elements node
    g.1.has g.1.stand others x.exchange.once refl refl
    in
    let here : drop k row ≡ node ∷ drop (suc k) row = drop-cons row k node b ∙ ap (λ y. y ∷ drop (suc k) row) (sym e) in
    let Q : List Node → Type 0 = λ r. RowsStand types new (type ∷ []) (at ∷ []) (r ∷ [])
    (at ∷ (g.1.below ++ d.built.elements)) in
    record {
      left = n.rest;
      done = n.part ++ d.done;
      rest = x.is_left;
      built = record {
        elements = at ∷ (g.1.below ++ d.built.elements);
        exchange = x.exchange;
        stand_in = x.stand_in;
        stand =
            subst Q (sym here) all;
      };
    }

pub row-whole : (shape : Shape) (types : List SegDef) (old now : List (List ℕ)) (plan before used : List Planned)
    (type : ℕ) (row : List Node) (first : Pointer) → RowDone shape types old now plan before used type row 0 first
    → (plan ≡ before) × BuildsRows shape types old now used (type ∷ []) (first ∷ []) (row ∷ [])
row-whole shape types old now plan before used type row first d =
    let n : (plan ≡ before) × (d.done ≡ used) = none-left plan before used d.left d.done d.rest in
    let P : List Planned → Type 0 = λ u. BuildsRows shape types old now u (type ∷ []) (first ∷ []) (row ∷ []) in
    (n.0, subst P n.1 d.built)

-- ---- a row of each child type, from the last

pub record RowsDone (shape : Shape) (types : List SegDef) (old now : List (List ℕ)) (plan before used : List Planned)
    (kinds : List ℕ) (rows : List (List Node)) (k : ℕ) (firsts : List Pointer) : Type 0 where
  pub left : List Planned
  pub done : List Planned
  pub rest : IsLeft plan before used left done (types_of_rows types (take k kinds) (take k rows))
  pub built : BuildsRows shape types old now done (drop k kinds) (drop k firsts) (drop k rows)

pub rows-none : (shape : Shape) (types : List SegDef) (area : List (List ℕ)) (plan before used : List Planned)
    (kinds : List ℕ) (rows : List (List Node)) (firsts : List Pointer)
    → length rows ≡ length kinds → length firsts ≡ length rows
    → IsPlanned types area plan before used (types_of_rows types kinds rows)
    → RowsDone shape types area area plan before used kinds rows (length rows) firsts
rows-none shape types area plan before used kinds rows firsts m l p =
    let t : take (length rows) rows ≡ rows = take_all (length rows) rows (omega arith) in
    let s : take (length rows) kinds ≡ kinds = take_all (length rows) kinds (omega arith) in
    let d : drop (length rows) rows ≡ [] = drop_all (length rows) rows (omega arith) in
    let e : drop (length rows) kinds ≡ [] = drop_all (length rows) kinds (omega arith) in
    let f : drop (length rows) firsts ≡ [] = drop_all (length rows) firsts (omega arith) in
    let stand : RowsStand types area (drop (length rows) kinds) (drop (length rows) firsts) (drop (length rows) rows) []
    = rw (d, e, f) (no-rows types area) in
    record {
      left = used;
      done = [];
      rest = rw (t, s) (all-left shape types area plan before used (types_of_rows types kinds rows) p);
      built = record { elements = []; exchange = exchange-none shape area; stand_in = stand-none area; stand = stand };
    }

pub rows-next : (shape : Shape) (types : List SegDef) (old now : List (List ℕ)) (plan0 plan before used : List Planned)
    (kinds : List ℕ) (rows : List (List Node)) (k : ℕ) (firsts : List Pointer) (row : List Node) (type : ℕ)
    → length rows ≡ length kinds → IsPlanned types old plan0 before used (types_of_rows types kinds rows)
    → (d : RowsDone shape types old now plan before used kinds rows (suc k) firsts)
    → k < length rows → row ≡ get_or rows k row → type ≡ get_or kinds k 0
    → IsNext types now plan before d.left (types_of_rows types (take k kinds) (take k rows))
    (types_of_row types type row)
rows-next shape types old now plan0 plan before used kinds rows k firsts row type m p d b e t =
    let P : List ℕ → Type 0 = λ kinds. IsLeft plan before used d.left d.done kinds in
    let g : types_of_rows types (take (suc k) kinds) (take (suc k) rows) ≡ types_of_rows types (take k kinds)
    (take k rows) ++ types_of_row types type row =
    rows-types types kinds rows k row m b e ∙ ap (λ x. types_of_rows types (take k kinds) (take k rows) ++ types_of_row
    types x row) (sym t)
    in
    next-part shape types old now plan0 plan before used d.left d.done (types_of_rows types kinds rows)
    (types_of_rows types (take k kinds) (take k rows)) (types_of_row types type row) d.built.elements p
    (subst P g d.rest) d.built.exchange

pub rows-step : (shape : Shape) (types : List SegDef) (old now new : List (List ℕ))
    (plan0 plan plan2 before used : List Planned) (kinds : List ℕ) (rows : List (List Node)) (k : ℕ)
    (firsts firsts2 : List Pointer) (row : List Node) (type : ℕ) (first : Pointer)
    → length rows ≡ length kinds → length firsts ≡ length rows
    → IsPlanned types old plan0 before used (types_of_rows types kinds rows)
    → (d : RowsDone shape types old now plan before used kinds rows (suc k) firsts)
    → k < length rows → row ≡ get_or rows k row → type ≡ get_or kinds k 0 → firsts2 ≡ set firsts k first
    → ((b u : List Planned) → IsPlanned types now plan b u (types_of_row types type row) → (plan2 ≡ b)
    × BuildsRows shape types now new u (type ∷ []) (first ∷ []) (row ∷ []))
    → RowsDone shape types old new plan2 before used kinds rows k firsts2
rows-step shape types old now new plan0 plan plan2 before used kinds rows k firsts firsts2 row type first m w p d b e t
    s f =
    let one : List ℕ = types_of_rows types (take k kinds) (take k rows) in
    let two : List ℕ = types_of_row types type row in
    let P : List ℕ → Type 0 = λ kinds. IsLeft plan before used d.left d.done kinds in
    let h : types_of_rows types (take (suc k) kinds) (take (suc k) rows) ≡ one ++ two =
    rows-types types kinds rows k row m b e ∙ ap (λ x. one ++ types_of_row types x row) (sym t) in
    let l : IsLeft plan before used d.left d.done (one ++ two) = subst P h d.rest in
    let n : IsNext types now plan before d.left one two =
    rows-next shape types old now plan0 plan before used kinds rows k firsts row type m p d b e t in
    let g : (plan2 ≡ before ++ n.rest) × BuildsRows shape types now new n.part (type ∷ []) (first ∷ []) (row ∷ []) =
    f (before ++ n.rest) n.part n.planned in
    let x : IsFurther shape types old now new plan2 before used n.rest (n.part ++ d.done) one d.built.elements
    g.1.elements =
    further shape types old now new plan0 plan plan2 before used d.left d.done (types_of_rows types kinds rows) one two
    d.built.elements g.1.elements p l d.built.exchange n g.0 g.1.exchange d.built.stand_in g.1.stand_in
    in
    let others : RowsStand types new (drop (suc k) kinds) (drop (suc k) firsts) (drop (suc k) rows) d.built.elements =
    rows-stay types now new (drop (suc k) kinds) (drop (suc k) firsts) (drop (suc k) rows) d.built.elements
    (λ q c t s h. segment_stays types now new t q s (λ content. x.stay q t content c) h) d.built.stand
    in
    let all : RowsStand types new (type ∷ drop (suc k) kinds) (first ∷ drop (suc k) firsts) (row ∷ drop (suc k) rows)
    (g.1.elements ++ d.built.elements) =
    row-before types new type (drop (suc k) kinds) first (drop (suc k) firsts) row (drop (suc k) rows) g.1.elements
    d.built.elements g.1.stand others x.exchange.once
    in
    let q : k < length kinds = omega arith in
    let u : k < length firsts = omega arith in
    let a1 : drop k rows ≡ row ∷ drop (suc k) rows = drop-cons rows k row b ∙ ap (λ y. y ∷ drop (suc k) rows) (sym e) in
    let a2 : drop k kinds ≡ type ∷ drop (suc k) kinds =
    drop-cons kinds k 0 q ∙ ap (λ y. y ∷ drop (suc k) kinds) (sym t) in
    let sucs : k + 1 ≡ suc k = omega arith in
    let a3 : drop k firsts2 ≡ first ∷ drop (suc k) firsts =
    ap (λ xs. drop k xs) s ∙ drop-set firsts k first u ∙ ap (λ j. first ∷ drop j firsts) sucs in
    let stand : RowsStand types new (drop k kinds) (drop k firsts2) (drop k rows) (g.1.elements ++ d.built.elements) =
    rw (a1, a2, a3) all in
    record {
      left = n.rest;
      done = n.part ++ d.done;
      rest = x.is_left;
      built = record { elements = g.1.elements ++ d.built.elements; exchange = x.exchange; stand_in = x.stand_in; stand = stand };
    }

pub rows-whole : (shape : Shape) (types : List SegDef) (old now : List (List ℕ)) (plan before used : List Planned)
    (kinds : List ℕ) (rows : List (List Node)) (firsts : List Pointer)
    → RowsDone shape types old now plan before used kinds rows 0 firsts
    → (plan ≡ before) × BuildsRows shape types old now used kinds firsts rows
rows-whole shape types old now plan before used kinds rows firsts d =
    let P : List ℕ → Type 0 = λ xs. IsLeft plan before used d.left d.done xs in
    let n : (plan ≡ before) × (d.done ≡ used) = none-left plan before used d.left d.done
    (subst P (in_rows_none (take 0 kinds)) d.rest) in
    let Q : List Planned → Type 0 = λ u. BuildsRows shape types old now u kinds firsts rows in
    (n.0, subst Q n.1 d.built)

-- ---- roots, from the last

pub record RootsDone (shape : Shape) (types : List SegDef) (old now : List (List ℕ)) (plan before used : List Planned)
    (roots : List Root) (k : ℕ) (next : Pointer) : Type 0 where
  pub left : List Planned
  pub done : List Planned
  pub rest : IsLeft plan before used left done (types_of_roots types (take k roots))
  pub built : BuildsRoots shape types old now done next (drop k roots)

pub roots-none : (shape : Shape) (types : List SegDef) (area : List (List ℕ)) (plan before used : List Planned)
    (roots : List Root) → IsPlanned types area plan before used (types_of_roots types roots)
    → RootsDone shape types area area plan before used roots (length roots) nothing
roots-none shape types area plan before used roots p =
    let t : take (length roots) roots ≡ roots = take_all (length roots) roots (omega arith) in
    let d : drop (length roots) roots ≡ [] = drop_all (length roots) roots (omega arith) in
    let P : List Root → Type 0 = λ r. IsLeft plan before used used [] (types_of_roots types r) in
    let Q : List Root → Type 0 = λ r. RootsStand types area nothing r [] in
    record {
      left = used;
      done = [];
      rest = subst P (sym t) (all-left shape types area plan before used (types_of_roots types roots) p);
      built = record {
        elements = [];
        exchange = exchange-none shape area;
        stand_in = stand-none area;
        stand =
            subst Q (sym d) (no-roots types area);
      };
    }

pub roots-next : (shape : Shape) (types : List SegDef) (old now : List (List ℕ)) (plan0 plan before used : List Planned)
    (roots : List Root) (k : ℕ) (next : Pointer) (root : Root)
    → IsPlanned types old plan0 before used (types_of_roots types roots)
    → (d : RootsDone shape types old now plan before used roots (suc k) next) → k < length roots
    → root ≡ get_or roots k root
    → IsNext types now plan before d.left (types_of_roots types (take k roots))
    (types_of_segment types 0 root.children)
roots-next shape types old now plan0 plan before used roots k next root p d b e =
    let P : List ℕ → Type 0 = λ kinds. IsLeft plan before used d.left d.done kinds in
    next-part shape types old now plan0 plan before used d.left d.done (types_of_roots types roots)
    (types_of_roots types (take k roots)) (types_of_segment types 0 root.children) d.built.elements p
    (subst P (roots-types types roots k root b e) d.rest) d.built.exchange

pub roots-step : (shape : Shape) (types : List SegDef) (old now new : List (List ℕ))
    (plan0 plan plan2 before used : List Planned) (roots : List Root) (k : ℕ) (next at : Pointer) (root : Root)
    (serial : ℕ)
    → IsPlanned types old plan0 before used (types_of_roots types roots)
    → (d : RootsDone shape types old now plan before used roots (suc k) next) → k < length roots
    → root ≡ get_or roots k root
    → newest serial ≡ root.seqs
    → ((b u : List Planned) → IsPlanned types now plan b u (types_of_segment types 0 root.children) → (plan2 ≡ b)
    × BuildsSegment shape types now new u 0 at next serial root.bytes root.children)
    → RootsDone shape types old new plan2 before used roots k at
roots-step shape types old now new plan0 plan plan2 before used roots k next at root serial p d b e w f =
    let first : List ℕ = types_of_roots types (take k roots) in
    let second : List ℕ = types_of_segment types 0 root.children in
    let P : List ℕ → Type 0 = λ kinds. IsLeft plan before used d.left d.done kinds in
    let l : IsLeft plan before used d.left d.done (first ++ second) =
    subst P (roots-types types roots k root b e) d.rest in
    let n : IsNext types now plan before d.left first second =
    roots-next shape types old now plan0 plan before used roots k next root p d b e in
    let g : (plan2 ≡ before ++ n.rest) × BuildsSegment shape types now new n.part 0 at next serial root.bytes
    root.children = f (before ++ n.rest) n.part n.planned in
    let x : IsFurther shape types old now new plan2 before used n.rest (n.part ++ d.done) first d.built.elements
    (at ∷ g.1.below) =
    further shape types old now new plan0 plan plan2 before used d.left d.done (types_of_roots types roots) first second
    d.built.elements (at ∷ g.1.below) p l d.built.exchange n g.0 g.1.exchange d.built.stand_in g.1.stand_in
    in
    let others : RootsStand types new next (drop (suc k) roots) d.built.elements =
    roots-stay types now new next (drop (suc k) roots) d.built.elements
    (λ q c t s h. segment_stays types now new t q s (λ content. x.stay q t content c) h) d.built.stand
    in
    let all : RootsStand types new at (root ∷ drop (suc k) roots) (at ∷ (g.1.below ++ d.built.elements)) =
    root-begins types new at (record { next = next; serial = serial; firsts = g.1.firsts; bytes = root.bytes }) root
    (drop (suc k) roots) g.1.below d.built.elements g.1.has g.1.stand others x.exchange.once refl w
    in
    let here : drop k roots ≡ root ∷ drop (suc k) roots =
    drop-cons roots k root b ∙ ap (λ y. y ∷ drop (suc k) roots) (sym e) in
    let Q : List Root → Type 0 = λ r. RootsStand types new at r (at ∷ (g.1.below ++ d.built.elements)) in
    record {
      left = n.rest;
      done = n.part ++ d.done;
      rest = x.is_left;
      built = record {
        elements = at ∷ (g.1.below ++ d.built.elements);
        exchange = x.exchange;
        stand_in = x.stand_in;
        stand =
            subst Q (sym here) all;
      };
    }

pub roots-whole : (shape : Shape) (types : List SegDef) (old now : List (List ℕ)) (plan before used : List Planned)
    (roots : List Root) (first : Pointer) → RootsDone shape types old now plan before used roots 0 first
    → (plan ≡ before) × BuildsRoots shape types old now used first roots
roots-whole shape types old now plan before used roots first d =
    let n : (plan ≡ before) × (d.done ≡ used) = none-left plan before used d.left d.done d.rest in
    let P : List Planned → Type 0 = λ u. BuildsRoots shape types old now u first roots in
    (n.0, subst P n.1 d.built)

-- ---- a segment and what is below it

-- the part of a plan for a segment itself, and that for what is below it
pub record IsParted (types : List SegDef) (old : List (List ℕ)) (plan before used : List Planned) (type : ℕ)
    (kinds : List ℕ) : Type 0 where
  pub one : Planned
  pub has_place : IsPlaced one
  pub below : List Planned
  pub parts : used ≡ one ∷ below
  pub is_type : one.segment ≡ type
  pub planned : IsPlanned types old plan (before ++ one ∷ []) below kinds

pub parted : (types : List SegDef) (old : List (List ℕ)) (plan before used : List Planned) (type : ℕ)
    (kinds : List ℕ) → IsPlanned types old plan before used (type ∷ kinds)
    → IsParted types old plan before used type kinds
parted types old plan before [] type kinds p = absurd (let h = p.kinds_are in cc)
parted types old plan before (one ∷ below) type kinds p =
    let h = p.kinds_are in
    let e : one.segment ≡ type = cc in
    let f : types_of below ≡ kinds = cc in
    record {
      one = one;
      has_place = p.placed.0;
      below = below;
      parts = refl;
      is_type = e;
      planned = record {
        parts = p.parts ∙ sym (append_assoc before (one ∷ []) below);
        kinds_are = f;
        are_reserved = reserved-right types old (one ∷ []) below p.are_reserved;
        placed = p.placed.1;
      };
    }

module _ (shape : Shape) (types : List SegDef) (old mid : List (List ℕ)) (plan before used : List Planned) (type : ℕ)
    (kinds : List ℕ) (firsts : List Pointer) (rows : List (List Node))
    (p : IsPlanned types old plan before used (type ∷ kinds))
    (it : IsParted types old plan before used type kinds)
    (b : BuildsRows shape types old mid it.below (child_types types type) firsts rows) where
  all_reserved : AreReserved types old ((it.one ∷ []) ++ it.below)
  all_reserved = let P : List Planned → Type 0 = λ xs. AreReserved types old xs in subst P it.parts p.are_reserved

  one_place : (rest : List Pointer) → and_place it.one.at rest ≡ it.has_place.place ∷ rest
  one_place rest = ap (λ (o : Option Pointer). and_place o rest) it.has_place.is_place

  pub room-left : HasRoom (bytes_at mid it.has_place.place.0) it.has_place.place.1 (content_length types type)
  room-left =
      let P : ℕ → Type 0 = λ t. HaveRoom types mid t it.one.at in
      let Q : Option Pointer → Type 0 = λ o. HaveRoom types mid type o in
      subst Q it.has_place.is_place (subst P it.is_type (still-reserved shape types old mid (it.one ∷ []) it.below
      b.elements all_reserved b.exchange).rooms.0)

  pub segment-whole : (new : List (List ℕ)) (at next : Pointer) (serial : ℕ) (bytes : List ℕ) → at ≡ it.has_place.place
      → PutsSegment types mid new type at (record { next = next; serial = serial; firsts = firsts; bytes = bytes })
      → BuildsSegment shape types old new used type at next serial bytes rows
  segment-whole new at next serial bytes f w =
      let u : (q : Pointer) → Contains (reserved (it.one ∷ [])) q → IsUsed (bytes_at old q.0) q.1 =
      rooms-used types old (it.one ∷ []) (reserved-left types old (it.one ∷ []) it.below all_reserved).rooms in
      let d : (q : Pointer) → Contains (reserved (it.one ∷ [])) q → ¬ Contains (reserved it.below) q =
      reserved-disjoint types old (it.one ∷ []) it.below all_reserved in
      let R : Pointer → Type 0 = λ q. IsUsed (bytes_at mid q.0) q.1 in
      let put : Exchanges shape mid new (at ∷ []) (at ∷ []) = puts-segment shape types mid new type at
      (record { next = next; serial = serial; firsts = firsts; bytes = bytes }) w
      (subst R (sym f) (record { segment = room-left.segment; content = room-left.content; used = room-left.used })) in
      let S : List Pointer → Type 0 = λ had. Exchanges shape mid new had (at ∷ []) in
      let one : at ∷ [] ≡ reserved (it.one ∷ []) = ap (λ (q : Pointer). q ∷ []) f ∙ sym (one_place []) in
      let own : Exchanges shape mid new (reserved (it.one ∷ [])) (at ∷ []) = subst S one put in
      let x : Exchanges shape old new (reserved (it.one ∷ []) ++ reserved it.below) ((at ∷ []) ++ b.elements) =
      exchange-both shape old mid new (reserved it.below) b.elements (reserved (it.one ∷ [])) (at ∷ []) b.exchange
      own u d in
      let P : List Pointer → Type 0 = λ had. Exchanges shape old new had (at ∷ b.elements) in
      let e : reserved (it.one ∷ []) ++ reserved it.below ≡ reserved used =
      sym (reserved-append (it.one ∷ []) it.below) ∙ ap reserved (sym it.parts) in
      let stay : (q : Pointer) (t : ℕ) (content : List ℕ) → Contains b.elements q
      → HasUsed (bytes_at mid q.0) q.1 t content → HasUsed (bytes_at new q.0) q.1 t content =
      λ q t content c h. own.stay q t content
      (λ m. elim (b.exchange.fresh q c) as (λ _. ⊥) [ inl y ↦ d q m y | inr y ↦ y (u q m) ]) h
      in
      let T : List Pointer → Type 0 = λ places. StandIn mid new places (at ∷ []) in
      let U : List Pointer → Type 0 = λ places. StandIn old new places (at ∷ b.elements) in
      record {
        firsts = firsts;
        below = b.elements;
        exchange = subst P e x;
        stand_in = subst U e (stand-both old mid new (reserved it.below) b.elements (reserved (it.one ∷ [])) (at ∷ [])
            b.stand_in (subst T one (stand-one types mid new type at
            (record { next = next; serial = serial; firsts = firsts; bytes = bytes }) w)));
        has = w.stands;
        stand = rows-stay types mid new (child_types types type) firsts rows b.elements
            (λ q c t s h. segment_stays types mid new t q s (λ content. stay q t content c) h) b.stand;
      }

-- ---- one step on, as the loops say it

sucs : (left : ℕ) → 0 < left → suc (left - 1) ≡ left
sucs left b = omega arith

pub row-part : (shape : Shape) (types : List SegDef) (old now : List (List ℕ)) (plan0 plan before used : List Planned)
    (type : ℕ) (row xs : List Node) (left : ℕ) (next : Pointer) (node : Node)
    → IsPlanned types old plan0 before used (types_of_row types type row)
    → RowDone shape types old now plan before used type row left next → 0 < left → left ≤ length row → xs ≡ row
    → node ≡ get_or xs (left - 1) node
    → (b : List Planned) × (u : List Planned) × IsPlanned types now plan b u
    (types_of_segment types type (out-Node node).children)
row-part shape types old now plan0 plan before used type row xs left next node p d z b x e =
    let P : ℕ → Type 0 = λ k. RowDone shape types old now plan before used type row k next in
    let n = row-next shape types old now plan0 plan before used type row (left - 1) next node p
    (subst P (sym (sucs left z)) d) (omega arith) (e ∙ ap (λ ys. get_or ys (left - 1) node) x) in
    (before ++ n.rest, n.part, n.planned)

pub row-on : (shape : Shape) (types : List SegDef) (old now new : List (List ℕ))
    (plan0 plan plan2 before used : List Planned) (type : ℕ) (row xs : List Node) (left : ℕ) (next at : Pointer)
    (node : Node) (bytes : List ℕ)
    → IsPlanned types old plan0 before used (types_of_row types type row)
    → RowDone shape types old now plan before used type row left next → 0 < left → left ≤ length row → xs ≡ row
    → node ≡ get_or xs (left - 1) node
    → bytes ≡ (out-Node node).bytes
    → ((b u : List Planned) → IsPlanned types now plan b u (types_of_segment types type (out-Node node).children)
    → (plan2 ≡ b) × BuildsSegment shape types now new u type at next 0 bytes (out-Node node).children)
    → RowDone shape types old new plan2 before used type row (left - 1) at
row-on shape types old now new plan0 plan plan2 before used type row xs left next at node bytes p d z b x e y f =
    let P : ℕ → Type 0 = λ k. RowDone shape types old now plan before used type row k next in
    row-step shape types old now new plan0 plan plan2 before used type row (left - 1) next at node p
    (subst P (sym (sucs left z)) d) (omega arith) (e ∙ ap (λ ys. get_or ys (left - 1) node) x)
    (λ s u q. let g = f s u q in (
      g.0,
      (let Q : List ℕ → Type 0 = λ bs. BuildsSegment shape types now new u type at next 0 bs
          (out-Node node).children in subst Q y g.1),
    ))

pub rows-part : (shape : Shape) (types : List SegDef) (old now : List (List ℕ)) (plan0 plan before used : List Planned)
    (kinds : List ℕ) (rows xs : List (List Node)) (left : ℕ) (firsts : List Pointer) (row : List Node) (type : ℕ)
    → length rows ≡ length kinds → IsPlanned types old plan0 before used (types_of_rows types kinds rows)
    → RowsDone shape types old now plan before used kinds rows left firsts → 0 < left → left ≤ length rows
    → xs ≡ rows → row ≡ get_or xs (left - 1) row → type ≡ get_or kinds (left - 1) 0
    → (b : List Planned) × (u : List Planned) × IsPlanned types now plan b u (types_of_row types type row)
rows-part shape types old now plan0 plan before used kinds rows xs left firsts row type m p d z b x e t =
    let P : ℕ → Type 0 = λ k. RowsDone shape types old now plan before used kinds rows k firsts in
    let n = rows-next shape types old now plan0 plan before used kinds rows (left - 1) firsts row type m p
    (subst P (sym (sucs left z)) d) (omega arith) (e ∙ ap (λ ys. get_or ys (left - 1) row) x) t in
    (before ++ n.rest, n.part, n.planned)

pub rows-on : (shape : Shape) (types : List SegDef) (old now new : List (List ℕ))
    (plan0 plan plan2 before used : List Planned) (kinds : List ℕ) (rows xs : List (List Node)) (left : ℕ)
    (firsts firsts2 : List Pointer) (row : List Node) (type : ℕ) (first : Pointer)
    → length rows ≡ length kinds → length firsts ≡ length rows
    → IsPlanned types old plan0 before used (types_of_rows types kinds rows)
    → RowsDone shape types old now plan before used kinds rows left firsts → 0 < left → left ≤ length rows
    → xs ≡ rows → row ≡ get_or xs (left - 1) row → type ≡ get_or kinds (left - 1) 0
    → firsts2 ≡ set firsts (left - 1) first
    → ((b u : List Planned) → IsPlanned types now plan b u (types_of_row types type row) → (plan2 ≡ b)
    × BuildsRows shape types now new u (type ∷ []) (first ∷ []) (row ∷ []))
    → RowsDone shape types old new plan2 before used kinds rows (left - 1) firsts2
rows-on shape types old now new plan0 plan plan2 before used kinds rows xs left firsts firsts2 row type first m w p d z
    b x e t s f =
    let P : ℕ → Type 0 = λ k. RowsDone shape types old now plan before used kinds rows k firsts in
    rows-step shape types old now new plan0 plan plan2 before used kinds rows (left - 1) firsts firsts2 row type first m
    w p (subst P (sym (sucs left z)) d) (omega arith) (e ∙ ap (λ ys. get_or ys (left - 1) row) x) t s f

pub roots-part : (shape : Shape) (types : List SegDef) (old now : List (List ℕ)) (plan0 plan before used : List Planned)
    (roots xs : List Root) (left : ℕ) (next : Pointer) (root : Root)
    → IsPlanned types old plan0 before used (types_of_roots types roots)
    → RootsDone shape types old now plan before used roots left next → 0 < left → left ≤ length roots → xs ≡ roots
    → root ≡ get_or xs (left - 1) root
    → (b : List Planned) × (u : List Planned) × IsPlanned types now plan b u
    (types_of_segment types 0 root.children)
roots-part shape types old now plan0 plan before used roots xs left next root p d z b x e =
    let P : ℕ → Type 0 = λ k. RootsDone shape types old now plan before used roots k next in
    let n = roots-next shape types old now plan0 plan before used roots (left - 1) next root p
    (subst P (sym (sucs left z)) d) (omega arith) (e ∙ ap (λ ys. get_or ys (left - 1) root) x) in
    (before ++ n.rest, n.part, n.planned)

pub roots-on : (shape : Shape) (types : List SegDef) (old now new : List (List ℕ))
    (plan0 plan plan2 before used : List Planned) (roots xs : List Root) (left : ℕ) (next at : Pointer) (root : Root)
    (serial : ℕ) (bytes : List ℕ)
    → IsPlanned types old plan0 before used (types_of_roots types roots)
    → RootsDone shape types old now plan before used roots left next → 0 < left → left ≤ length roots → xs ≡ roots
    → root ≡ get_or xs (left - 1) root
    → newest serial ≡ root.seqs → bytes ≡ root.bytes
    → ((b u : List Planned) → IsPlanned types now plan b u (types_of_segment types 0 root.children) → (plan2 ≡ b)
    × BuildsSegment shape types now new u 0 at next serial bytes root.children)
    → RootsDone shape types old new plan2 before used roots (left - 1) at
roots-on shape types old now new plan0 plan plan2 before used roots xs left next at root serial bytes p d z b x e w y f
    =
    let P : ℕ → Type 0 = λ k. RootsDone shape types old now plan before used roots k next in
    roots-step shape types old now new plan0 plan plan2 before used roots (left - 1) next at root serial p
    (subst P (sym (sucs left z)) d) (omega arith) (e ∙ ap (λ ys. get_or ys (left - 1) root) x) w
    (λ s u q. let g = f s u q in (
      g.0,
      (let Q : List ℕ → Type 0 = λ bs. BuildsSegment shape types now new u 0 at next serial bs root.children in
          subst Q y g.1),
    ))

pub same-types : (a b : ℕ) (types : List SegDef) → b ≡ a → AreTypes a types → AreTypes b types
same-types a b types e t = let P : ℕ → Type 0 = λ n. AreTypes n types in subst P (sym e) t

-- a segment that is put in front of what was built below it
pub room-planned : (shape : Shape) (types : List SegDef) (old mid : List (List ℕ)) (plan before used : List Planned)
    (type : ℕ) (firsts : List Pointer) (rows : List (List Node)) (at : Pointer)
    → (p : IsPlanned types old plan before used (types_of_segment types type rows))
    → (it : IsParted types old plan before used type (types_of_rows types (child_types types type) rows))
    → BuildsRows shape types old mid it.below (child_types types type) firsts rows → at ≡ it.has_place.place
    → HasRoom (bytes_at mid at.0) at.1 (content_length types type)
room-planned shape types old mid plan before used type firsts rows at p it b e =
    let P : Pointer → Type 0 = λ q. HasRoom (bytes_at mid q.0) q.1 (content_length types type) in
    subst P (sym e) (room-left shape types old mid plan before used type
    (types_of_rows types (child_types types type) rows) firsts rows p it b)

pub segment-made : (shape : Shape) (types : List SegDef) (old mid new : List (List ℕ))
    (plan before used : List Planned) (type : ℕ) (firsts said : List Pointer) (rows : List (List Node))
    (at next : Pointer) (serial : ℕ) (bytes : List ℕ)
    → (p : IsPlanned types old plan before used (types_of_segment types type rows))
    → (it : IsParted types old plan before used type (types_of_rows types (child_types types type) rows))
    → BuildsRows shape types old mid it.below (child_types types type) firsts rows → at ≡ it.has_place.place
    → said ≡ firsts
    → PutsSegment types mid new type at (record { next = next; serial = serial; firsts = said; bytes = bytes })
    → BuildsSegment shape types old new used type at next serial bytes rows
segment-made shape types old mid new plan before used type firsts said rows at next serial bytes p it b e s w =
    let Q : List Pointer → Type 0 = λ f. PutsSegment types mid new type at (record {
      next =
          next;
      serial = serial;
      firsts = f;
      bytes = bytes;
    }) in
    segment-whole shape types old mid plan before used type (types_of_rows types (child_types types type) rows)
    firsts rows p it b new at next serial bytes e (subst Q s w)

-- ---- the types of what is planned, from its end

pub row-planned : (types : List SegDef) (type : ℕ) (row xs : List Node) (left : ℕ) (node : Node) → 0 < left
    → left ≤ length row → xs ≡ row → node ≡ get_or xs (left - 1) node
    → types_of_row types type (drop (left - 1) row) ≡ types_of_segment types type (out-Node node).children ++
    types_of_row types type (drop left row)
row-planned types type row xs left node z b x e =
    let here : drop (left - 1) row ≡ node ∷ drop left row =
    drop-cons row (left - 1) node (omega arith) ∙ ap (λ y. y ∷ drop (suc (left - 1)) row)
    (sym (e ∙ ap (λ ys. get_or ys (left - 1) node) x)) ∙ ap (λ j. node ∷ drop j row) (sucs left z)
    in
    ap (λ (r : List Node). types_of_row types type r) here ∙ ap (λ ts. ts ++ types_of_row types type (drop left row))
    (types-below types type node)

pub rows-planned : (types : List SegDef) (kinds : List ℕ) (rows xs : List (List Node)) (left : ℕ) (row : List Node)
    (type : ℕ) → length rows ≡ length kinds → 0 < left → left ≤ length rows → xs ≡ rows → row ≡ get_or xs (left - 1) row
    → type ≡ get_or kinds (left - 1) 0
    → types_of_rows types (drop (left - 1) kinds) (drop (left - 1) rows) ≡ types_of_row types type row ++ types_of_rows
    types (drop left kinds) (drop left rows)
rows-planned types kinds rows xs left row type m z b x e t =
    let here : drop (left - 1) rows ≡ row ∷ drop left rows =
    drop-cons rows (left - 1) row (omega arith) ∙ ap (λ y. y ∷ drop (suc (left - 1)) rows)
    (sym (e ∙ ap (λ ys. get_or ys (left - 1) row) x)) ∙ ap (λ j. row ∷ drop j rows) (sucs left z)
    in
    let there : drop (left - 1) kinds ≡ type ∷ drop left kinds =
    drop-cons kinds (left - 1) 0 (omega (arith, m)) ∙ ap (λ y. y ∷ drop (suc (left - 1)) kinds) (sym t) ∙ ap
    (λ j. type ∷ drop j kinds) (sucs left z)
    in
    ap (λ (r : List (List Node)). types_of_rows types (drop (left - 1) kinds) r) here ∙ ap
    (λ (ks : List ℕ). types_of_rows types ks (row ∷ drop left rows)) there

pub roots-planned : (types : List SegDef) (roots xs : List Root) (left : ℕ) (root : Root) → 0 < left
    → left ≤ length roots → xs ≡ roots → root ≡ get_or xs (left - 1) root
    → types_of_roots types (drop (left - 1) roots) ≡ types_of_segment types 0 root.children ++ types_of_roots types
    (drop left roots)
roots-planned types roots xs left root z b x e =
    let here : drop (left - 1) roots ≡ root ∷ drop left roots =
    drop-cons roots (left - 1) root (omega arith) ∙ ap (λ y. y ∷ drop (suc (left - 1)) roots)
    (sym (e ∙ ap (λ ys. get_or ys (left - 1) root) x)) ∙ ap (λ j. root ∷ drop j roots) (sucs left z)
    in
    ap (λ (r : List Root). types_of_roots types r) here

pub planned-on : (new old first rest before part : List ℕ) → new ≡ part ++ old → old ≡ rest ++ before
    → first ≡ part ++ rest → new ≡ first ++ before
planned-on new old first rest before part n o f = n ∙ ap (λ xs. part ++ xs) o ∙ sym (append_assoc part rest before) ∙ ap
    (λ xs. xs ++ before) (sym f)

-- nothing is planned yet
pub rows-unplanned : (types : List SegDef) (kinds : List ℕ) (rows : List (List Node)) (left : ℕ) → left ≡ length rows
    → types_of_rows types (drop left kinds) (drop left rows) ≡ []
rows-unplanned types kinds rows left e =
    let d : drop left rows ≡ [] = drop_all left rows (omega arith) in
    ap (λ (r : List (List Node)). types_of_rows types (drop left kinds) r) d ∙ in_rows_none (drop left kinds)

pub roots-unplanned : (types : List SegDef) (roots : List Root) (left : ℕ) → left ≡ length roots
    → types_of_roots types (drop left roots) ≡ []
roots-unplanned types roots left e = let d : drop left roots ≡ [] = drop_all left roots (omega arith) in
    ap (λ (r : List Root). types_of_roots types r) d
