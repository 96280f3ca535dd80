-- Rows of segments that stand, from the last segment to the first.
use Rattle.std.proofs.Common.{◌≡◌, ℕ, inl, inr, List, [], ◌∷◌, ◌++◌, Contains, refl, sym, subst}
use Rattle.std.proofs.lemmas.List.Elements.{Contains-append_left, Contains-append_right}
use Rattle.fp_model.specs.declared.definitions.SegDef.{SegDef}
use Rattle.fp_model.specs.declared.database.Node.{Node, out-Node, roll-Node}
use Rattle.fp_model.specs.declared.database.Node.TheViews.{roll-out-Node}
use Rattle.fp_model.specs.declared.database.Root.{Root}
use Rattle.fp_model.specs.Order.{child_types}
use Rattle.anchor_elements.specs.Elements.{Pointer, nothing, Segment, HasSegment}
use Rattle.root_anchor.specs.Chains.{AreRows, no_row, row_end, segment, newest, AreRoots, no_root, root}
use Rattle.root_anchor.specs.inside.Rebuilding.{AreApart, met_after, RowsStand, RootsStand}
use Rattle.root_anchor.proofs.Apart.{apart-disjoint, met-cases, met-append}
use Rattle.root_anchor.proofs.Framing.{rows_stay, roots_stay}
use Rattle.plain_laws.proofs.Alls.{contains_cases, contains_first, contains_later}

-- ---- rows

pub no-rows : (types : List SegDef) (area : List (List ℕ)) → RowsStand types area [] [] [] []
no-rows types area met d = no_row

pub row-ends : (types : List SegDef) (area : List (List ℕ)) (type : ℕ)
    → RowsStand types area (type ∷ []) (nothing ∷ []) ([] ∷ []) []
row-ends types area type met d = row_end no_row

-- what is met in front of others, where each is met once
front_apart : (at : Pointer) (xs ys met : List Pointer) → AreApart (at ∷ (xs ++ ys))
    → ((p : Pointer) → Contains (at ∷ (xs ++ ys)) p → ¬ Contains met p) → (p : Pointer) → Contains xs p
    → ¬ Contains (at ∷ met) p
front_apart at xs ys met a d p c m = elim (contains_cases at met p m) as (λ _. ⊥) [
  | inl e ↦ (let P : Pointer → Type 0 = λ q. Contains xs q in a.0 (Contains-append_left xs ys at (subst P (sym e) c)))
  | inr n ↦ d p (contains_later at (xs ++ ys) p (Contains-append_left xs ys p c)) n
]

back_apart : (at : Pointer) (xs ys met : List Pointer) → AreApart (at ∷ (xs ++ ys))
    → ((p : Pointer) → Contains (at ∷ (xs ++ ys)) p → ¬ Contains met p) → (p : Pointer) → Contains ys p
    → ¬ Contains (met_after xs (at ∷ met)) p
back_apart at xs ys met a d p c m = elim (met-cases xs (at ∷ met) p m) as (λ _. ⊥) [
  | inl n ↦ apart-disjoint xs ys p a.1 n c
  | inr n ↦ elim (contains_cases at met p n) as (λ _. ⊥) [
    | inl e ↦ (let P : Pointer → Type 0 = λ q. Contains ys q in
        a.0 (Contains-append_right xs ys at (subst P (sym e) c)))
    | inr o ↦ d p (contains_later at (xs ++ ys) p (Contains-append_right xs ys p c)) o
  ]
]

pub row-begins : (types : List SegDef) (area : List (List ℕ)) (type : ℕ) (at : Pointer) (s : Segment)
    (below : List (List Node)) (row : List Node) (xs ys : List Pointer) (node : Node)
    → HasSegment types area type at s → RowsStand types area (child_types types type) s.firsts below xs
    → RowsStand types area (type ∷ []) (s.next ∷ []) (row ∷ []) ys → AreApart (at ∷ (xs ++ ys))
    → s.bytes ≡ (out-Node node).bytes → below ≡ (out-Node node).children
    → RowsStand types area (type ∷ []) (at ∷ []) ((node ∷ row) ∷ []) (at ∷ (xs ++ ys))
row-begins types area type at s below row xs ys node h f g a b c met d =
    let n : roll-Node (record { bytes = s.bytes; children = below }) ≡ node = rw (b, c) (roll-out-Node node) in
    let P : Node → Type 0 = λ m. AreRows types area met (type ∷ []) (at ∷ []) ((m ∷ row) ∷ []) (met_after xs (at ∷ met))
    in
    let Q : List Pointer → Type 0 = λ after. AreRows types area met (type ∷ []) (at ∷ []) ((node ∷ row) ∷ []) after in
    let R : Node → Type 0 = λ m. AreRows types area met (type ∷ []) (at ∷ []) ((m ∷ row) ∷ [])
    (met_after ys (met_after xs (at ∷ met))) in
    let all : AreRows types area met (type ∷ []) (at ∷ []) ((roll-Node (record {
      bytes = s.bytes;
      children =
          below;
    }) ∷ row) ∷ []) (met_after ys (met_after xs (at ∷ met))) =
    segment s h (d at (contains_first at (xs ++ ys))) (f (at ∷ met) (front_apart at xs ys met a d))
    (g (met_after xs (at ∷ met)) (back_apart at xs ys met a d))
    in
    subst Q (sym (met-append xs ys (at ∷ met))) (subst R n all)

-- rows and others behind them
pub rows_joined : {types : List SegDef} {area : List (List ℕ)} {met : List Pointer} {kinds : List ℕ} {firsts : List Pointer}
    {rows : List (List Node)} {between : List Pointer}
    → AreRows types area met kinds firsts rows between
    → {more : List ℕ} {others : List Pointer} {later : List (List Node)} {after : List Pointer}
    → AreRows types area between more others later after
    → AreRows types area met (kinds ++ more) (firsts ++ others) (rows ++ later) after
rows_joined no_row r = r
rows_joined (row_end next) r = row_end (rows_joined next r)
rows_joined (segment s has fresh below next) r = segment s has fresh below (rows_joined next r)

pub row-before : (types : List SegDef) (area : List (List ℕ)) (type : ℕ) (kinds : List ℕ) (first : Pointer)
    (firsts : List Pointer) (row : List Node) (rows : List (List Node)) (xs ys : List Pointer)
    → RowsStand types area (type ∷ []) (first ∷ []) (row ∷ []) xs → RowsStand types area kinds firsts rows ys
    → AreApart (xs ++ ys)
    → RowsStand types area (type ∷ kinds) (first ∷ firsts) (row ∷ rows) (xs ++ ys)
row-before types area type kinds first firsts row rows xs ys f g a met d =
    let e : (p : Pointer) → Contains xs p → ¬ Contains met p = λ p c. d p (Contains-append_left xs ys p c) in
    let h : (p : Pointer) → Contains ys p → ¬ Contains (met_after xs met) p =
    λ p c m. elim (met-cases xs met p m) as (λ _. ⊥) [
      | inl n ↦ apart-disjoint xs ys p a n c
      | inr n ↦ d p (Contains-append_right xs ys p c) n
    ] in
    let all : AreRows types area met (type ∷ kinds) (first ∷ firsts) (row ∷ rows) (met_after ys (met_after xs met)) =
    rows_joined (f met e) (g (met_after xs met) h) in
    let P : List Pointer → Type 0 = λ after. AreRows types area met (type ∷ kinds) (first ∷ firsts) (row ∷ rows) after
    in
    subst P (sym (met-append xs ys met)) all

-- in any area in which their elements stay
pub rows-stay : (types : List SegDef) (old new : List (List ℕ)) (kinds : List ℕ) (firsts : List Pointer)
    (rows : List (List Node)) (xs : List Pointer)
    → ((p : Pointer) → Contains xs p → (type : ℕ) (s : Segment) → HasSegment types old type p s
    → HasSegment types new type p s) → RowsStand types old kinds firsts rows xs
    → RowsStand types new kinds firsts rows xs
rows-stay types old new kinds firsts rows xs f r met d =
    rows_stay (r met d) (record {
      each = λ p c n type s h. elim (met-cases xs met p c) as
          (λ _. HasSegment types new type p s) [ inl x ↦ f p x type s h | inr x ↦ absurd (n x) ];
    })

-- ---- roots

pub no-roots : (types : List SegDef) (area : List (List ℕ)) → RootsStand types area nothing [] []
no-roots types area met d = no_root

pub root-begins : (types : List SegDef) (area : List (List ℕ)) (at : Pointer) (s : Segment) (first : Root)
    (roots : List Root) (xs ys : List Pointer)
    → HasSegment types area 0 at s → RowsStand types area (child_types types 0) s.firsts first.children xs
    → RootsStand types area s.next roots ys → AreApart (at ∷ (xs ++ ys))
    → s.bytes ≡ first.bytes → newest s.serial ≡ first.seqs
    → RootsStand types area at (first ∷ roots) (at ∷ (xs ++ ys))
root-begins types area at s first roots xs ys h f g a b c met d =
    let n : record { bytes = s.bytes; children = first.children; seqs = newest s.serial } ≡ first = rw (b, c) refl in
    let Q : List Pointer → Type 0 = λ after. AreRoots types area met at (first ∷ roots) after in
    let R : Root → Type 0 = λ r. AreRoots types area met at (r ∷ roots) (met_after ys (met_after xs (at ∷ met))) in
    let all : AreRoots types area met at (record {
      bytes = s.bytes;
      children = first.children;
      seqs =
          newest s.serial;
    } ∷ roots) (met_after ys (met_after xs (at ∷ met))) =
    root s h (d at (contains_first at (xs ++ ys))) (f (at ∷ met) (front_apart at xs ys met a d))
    (g (met_after xs (at ∷ met)) (back_apart at xs ys met a d))
    in
    subst Q (sym (met-append xs ys (at ∷ met))) (subst R n all)

pub roots-stay : (types : List SegDef) (old new : List (List ℕ)) (first : Pointer) (roots : List Root)
    (xs : List Pointer)
    → ((p : Pointer) → Contains xs p → (type : ℕ) (s : Segment) → HasSegment types old type p s
    → HasSegment types new type p s) → RootsStand types old first roots xs → RootsStand types new first roots xs
roots-stay types old new first roots xs f r met d =
    roots_stay (r met d) (record {
      each = λ p c n type s h. elim (met-cases xs met p c) as
          (λ _. HasSegment types new type p s) [ inl x ↦ f p x type s h | inr x ↦ absurd (n x) ];
    })
