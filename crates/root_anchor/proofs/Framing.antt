-- A chain stands in any area in which its elements stay, and behind any elements that aren't among them.
use Rattle.std.proofs.Common.{◌≡◌, inl, inr, ℕ, List, [], ◌∷◌, ◌++◌, refl, sym, ap, subst, ◌∙◌, append_assoc}
use Rattle.std.specs.List.{Contains}
use Rattle.std.proofs.lemmas.List.Elements.{Contains-append_left, Contains-append_right, Contains-append_cases}
use Rattle.fp_model.specs.declared.definitions.SegDef.{SegDef}
use Rattle.fp_model.specs.declared.database.Node.{Node, roll-Node}
use Rattle.fp_model.specs.declared.database.Root.{Root}
use Rattle.fp_model.specs.Order.{child_types}
use Rattle.anchor_elements.specs.Elements.{Pointer, Segment, HasSegment}
use Rattle.root_anchor.specs.Chains.{AreRows, no_row, row_end, segment, newest, AreRoots, no_root, root}
use Rattle.plain_laws.proofs.Alls.{contains_cases, contains_first, contains_later, contains_nothing}

-- ---- what was met before is met after

pub rows_keep : {types : List SegDef} {area : List (List ℕ)} {met : List Pointer} {row_types : List ℕ}
    {firsts : List Pointer} {rows : List (List Node)} {after : List Pointer}
    → AreRows types area met row_types firsts rows after → (p : Pointer) → Contains met p → Contains after p
rows_keep no_row p h = h
rows_keep (row_end next) p h = rows_keep next p h
rows_keep (segment s has fresh below next) p h = rows_keep next p (rows_keep below p (contains_later _ _ p h))

pub roots_keep : {types : List SegDef} {area : List (List ℕ)} {met : List Pointer} {at : Pointer} {roots : List Root}
    {after : List Pointer}
    → AreRoots types area met at roots after → (p : Pointer) → Contains met p → Contains after p
roots_keep no_root p h = h
roots_keep (root s has fresh below next) p h = roots_keep next p (rows_keep below p (contains_later _ _ p h))

-- ---- elements that stay

-- the elements that were met on the way stay
pub record Stay (types : List SegDef) (old new : List (List ℕ)) (met after : List Pointer) : Type 0 where
  pub each : (p : Pointer) → Contains after p → ¬ Contains met p → (type : ℕ) (s : Segment)
      → HasSegment types old type p s → HasSegment types new type p s

stay_below : {types : List SegDef} {old new : List (List ℕ)} {met after : List Pointer} (at : Pointer)
    (between : List Pointer)
    → ((p : Pointer) → Contains between p → Contains after p) → Stay types old new met after
    → Stay types old new (at ∷ met) between
stay_below {met = met} at between within stay = record
    { each = λ p h apart. stay.each p (within p h) (λ m. apart (contains_later at met p m)) }

stay_next : {types : List SegDef} {old new : List (List ℕ)} {met after : List Pointer} (between : List Pointer)
    → ((p : Pointer) → Contains met p → Contains between p) → Stay types old new met after
    → Stay types old new between after
stay_next between within stay = record { each = λ p h apart. stay.each p h (λ m. apart (within p m)) }

pub rows_stay : {types : List SegDef} {old new : List (List ℕ)} {met : List Pointer} {row_types : List ℕ}
    {firsts : List Pointer} {rows : List (List Node)} {after : List Pointer}
    → AreRows types old met row_types firsts rows after → Stay types old new met after
    → AreRows types new met row_types firsts rows after
rows_stay no_row stay = no_row
rows_stay (row_end next) stay = row_end (rows_stay next stay)
rows_stay (segment {met = met} {type = type} {at = at} s {between = between} has fresh below next) stay =
    segment s
    (stay.each at (rows_keep next at (rows_keep below at (contains_first at met))) fresh type s has)
    fresh
    (rows_stay below (stay_below at between (rows_keep next) stay))
    (rows_stay next (stay_next between (λ p m. rows_keep below p (contains_later at met p m)) stay))

pub roots_stay : {types : List SegDef} {old new : List (List ℕ)} {met : List Pointer} {at : Pointer} {roots : List Root}
    {after : List Pointer}
    → AreRoots types old met at roots after → Stay types old new met after → AreRoots types new met at roots after
roots_stay no_root stay = no_root
roots_stay (root {met = met} {at = at} s {between = between} has fresh below next) stay =
    root s
    (stay.each at (roots_keep next at (rows_keep below at (contains_first at met))) fresh 0 s has)
    fresh
    (rows_stay below (stay_below at between (roots_keep next) stay))
    (roots_stay next (stay_next between (λ p m. rows_keep below p (contains_later at met p m)) stay))

-- ---- other elements that were met before

-- these were added, none of which was met before, and behind others than them it is the same
pub record AreRowsBehind (types : List SegDef) (area : List (List ℕ)) (met : List Pointer) (row_types : List ℕ)
    (firsts : List Pointer) (rows : List (List Node)) (after : List Pointer) : Type 0 where
  pub added : List Pointer
  pub same : after ≡ added ++ met
  pub fresh : (p : Pointer) → Contains added p → ¬ Contains met p
  pub behind : (other : List Pointer) → ((p : Pointer) → Contains added p → ¬ Contains other p)
      → AreRows types area other row_types firsts rows (added ++ other)

pub record AreRootsBehind (types : List SegDef) (area : List (List ℕ)) (met : List Pointer) (at : Pointer)
    (roots : List Root) (after : List Pointer) : Type 0 where
  pub added : List Pointer
  pub same : after ≡ added ++ met
  pub fresh : (p : Pointer) → Contains added p → ¬ Contains met p
  pub behind : (other : List Pointer) → ((p : Pointer) → Contains added p → ¬ Contains other p)
      → AreRoots types area other at roots (added ++ other)

-- an element, those below it, and those behind these
joined : (last first : List Pointer) (at : Pointer) (met : List Pointer)
    → last ++ (first ++ (at ∷ met)) ≡ (last ++ (first ++ at ∷ [])) ++ met
joined last first at met = simp append_assoc

-- none of an element, those below it and those behind these is among others
record AreApart (last first : List Pointer) (at : Pointer) (other : List Pointer) : Type 0 where
  one : ¬ Contains other at
  first_apart : (p : Pointer) → Contains first p → ¬ Contains (at ∷ other) p
  last_apart : (p : Pointer) → Contains last p → ¬ Contains (first ++ (at ∷ other)) p

apart_joined : (last first : List Pointer) (at : Pointer) (other : List Pointer)
    → ¬ Contains other at → ((p : Pointer) → Contains first p → ¬ Contains (at ∷ other) p)
    → ((p : Pointer) → Contains last p → ¬ Contains (first ++ (at ∷ other)) p)
    → (p : Pointer) → Contains (last ++ (first ++ at ∷ [])) p → ¬ Contains other p
apart_joined last first at other one head tail p h o =
    elim (Contains-append_cases last (first ++ at ∷ []) p h) as (λ _. ⊥) [
      | inl l ↦ tail p l (Contains-append_right first (at ∷ other) p (contains_later at other p o))
      | inr f ↦ elim (Contains-append_cases first (at ∷ []) p f) as (λ _. ⊥) [
        | inl l ↦ head p l (contains_later at other p o)
        | inr a ↦ elim (contains_cases at [] p a) as (λ _. ⊥)
            [ inl e ↦ one (subst (λ q. Contains other q) (sym e) o) | inr n ↦ contains_nothing p n ]
      ]
    ]

joined_apart : (last first : List Pointer) (at : Pointer) (met other : List Pointer)
    → ((p : Pointer) → Contains first p → ¬ Contains (at ∷ met) p)
    → ((p : Pointer) → Contains last p → ¬ Contains (first ++ (at ∷ met)) p)
    → ((p : Pointer) → Contains (last ++ (first ++ at ∷ [])) p → ¬ Contains other p) → AreApart last first at other
joined_apart last first at met other head tail apart = record {
  one = apart at (Contains-append_right last (first ++ at ∷ []) at
      (Contains-append_right first (at ∷ []) at (contains_first at [])));
  first_apart = λ p h o. elim (contains_cases at other p o) as (λ _. ⊥) [
    | inl e ↦ head p h (subst (λ q. Contains (at ∷ met) q) e (contains_first at met))
    | inr m ↦ apart p (Contains-append_right last (first ++ at ∷ []) p (Contains-append_left first (at ∷ []) p h)) m
  ];
  last_apart = λ p h o. elim (Contains-append_cases first (at ∷ other) p o) as (λ _. ⊥) [
    | inl f ↦ tail p h (Contains-append_left first (at ∷ met) p f)
    | inr r ↦ elim (contains_cases at other p r) as (λ _. ⊥) [
      | inl e ↦ tail p h (subst (λ q. Contains (first ++ (at ∷ met)) q) e
          (Contains-append_right first (at ∷ met) at (contains_first at met)))
      | inr m ↦ apart p (Contains-append_left last (first ++ at ∷ []) p h) m
    ]
  ];
}

pub rows_behind : {types : List SegDef} {area : List (List ℕ)} {met : List Pointer} {row_types : List ℕ}
    {firsts : List Pointer} {rows : List (List Node)} {after : List Pointer}
    → AreRows types area met row_types firsts rows after → AreRowsBehind types area met row_types firsts rows after
rows_behind no_row = record {
  added = [];
  same = refl;
  fresh = λ p h. absurd (contains_nothing p h);
  behind =
      λ other apart. no_row;
}
rows_behind (row_end next) =
    let tail = rows_behind next in
    record {
      added = tail.added;
      same = tail.same;
      fresh = tail.fresh;
      behind =
          λ other apart. row_end (tail.behind other apart);
    }
rows_behind {types} {area} (segment {met = met} {type = type} {more = more} {at = at} {firsts = firsts} s {below = down}
    {between = between} {row = row} {rows = rows} {after = after} has fresh below next) =
    let head : AreRowsBehind types area (at ∷ met) (child_types types type) s.firsts down between = rows_behind below in
    let tail : AreRowsBehind types area between (type ∷ more) (s.next ∷ firsts) (row ∷ rows) after = rows_behind next in
    let apart : (p : Pointer) → Contains tail.added p → ¬ Contains (head.added ++ (at ∷ met)) p =
    λ p h m. tail.fresh p h (subst (λ l. Contains l p) (sym head.same) m) in
    record {
      added = tail.added ++ (head.added ++ at ∷ []);
      same = tail.same ∙ ap (λ l. tail.added ++ l) head.same ∙ joined tail.added head.added at met;
      fresh = apart_joined tail.added head.added at met fresh head.fresh apart;
      behind = λ other others.
          let a : AreApart tail.added head.added at other =
          joined_apart tail.added head.added at met other head.fresh apart others in
          subst (λ l. AreRows types area other (type ∷ more) (at ∷ firsts)
          ((roll-Node (record { bytes = s.bytes; children = down }) ∷ row) ∷ rows) l)
          (joined tail.added head.added at other)
          (segment s has a.one (head.behind (at ∷ other) a.first_apart)
          (tail.behind (head.added ++ (at ∷ other)) a.last_apart));
    }

pub roots_behind : {types : List SegDef} {area : List (List ℕ)} {met : List Pointer} {at : Pointer} {roots : List Root}
    {after : List Pointer}
    → AreRoots types area met at roots after → AreRootsBehind types area met at roots after
roots_behind no_root = record {
  added = [];
  same = refl;
  fresh = λ p h. absurd (contains_nothing p h);
  behind =
      λ other apart. no_root;
}
roots_behind {types} {area} (root {met = met} {at = at} s {below = down} {between = between} {roots = roots}
    {after = after} has fresh below next) =
    let head : AreRowsBehind types area (at ∷ met) (child_types types 0) s.firsts down between = rows_behind below in
    let tail : AreRootsBehind types area between s.next roots after = roots_behind next in
    let apart : (p : Pointer) → Contains tail.added p → ¬ Contains (head.added ++ (at ∷ met)) p =
    λ p h m. tail.fresh p h (subst (λ l. Contains l p) (sym head.same) m) in
    record {
      added = tail.added ++ (head.added ++ at ∷ []);
      same = tail.same ∙ ap (λ l. tail.added ++ l) head.same ∙ joined tail.added head.added at met;
      fresh = apart_joined tail.added head.added at met fresh head.fresh apart;
      behind = λ other others.
          let a : AreApart tail.added head.added at other =
          joined_apart tail.added head.added at met other head.fresh apart others in
          subst (λ l. AreRoots types area other at (record { bytes = s.bytes; children = down; seqs = newest s.serial }
          ∷ roots) l) (joined tail.added head.added at other)
          (root s has a.one (head.behind (at ∷ other) a.first_apart)
          (tail.behind (head.added ++ (at ∷ other)) a.last_apart));
    }
