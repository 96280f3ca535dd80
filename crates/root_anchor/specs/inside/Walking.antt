-- The walk over an anchor's elements.
use Rattle.std.specs.Prelude.{◌≡◌, ◌≢◌, ◌↔◌, ℕ, ◌<◌, ◌≤◌, true, List, [], ◌∷◌, ◌++◌, length, reverse, All, AllPairs, Contains, IsTrue}
use Rattle.std.specs.Ordering.{nat_cmp, ordering_then}
use Rattle.std.specs.declared.cmp.Ordering.{Ordering}
use Rattle.std.specs.BTreeSet.{contains}
use Rattle.ci_space.specs.declared.intervals.Shape.{Shape}
use Rattle.ci_space.specs.Calls.{GoesOn}
use Rattle.fp_model.specs.declared.definitions.SegDef.{SegDef}
use Rattle.fp_model.specs.declared.database.Node.{Node}
use Rattle.fp_model.specs.declared.database.Root.{Root}
use Rattle.fp_model.specs.Order.{key_in}
use Rattle.root_anchor.specs.declared.standing.Standing.{Standing}
use Rattle.root_anchor.specs.declared.walk.Walk.{Walk}
use Rattle.root_anchor.specs.declared.anchor.Walked.{Walked}
use Rattle.anchor_elements.specs.Elements.{Pointer}
use Rattle.root_anchor.specs.Chains.{AreRows, AreRoots, IsChain}
use Rattle.root_anchor.specs.Damage.{RowsFail, RootsFail}
use Rattle.root_anchor.specs.inside.Standing.{places_of, Stands, AreKeyed}

-- the order of places: by interval, then by place in it
abbrev pub place_cmp : Pointer → Pointer → Ordering
place_cmp a b = ordering_then (nat_cmp a.0 b.0) (nat_cmp a.1 b.1)

-- the elements that a walk has met, the last first
abbrev pub met_of : Walk → List Pointer
met_of walk = reverse (places_of walk.met.items)

-- a walk over so many intervals has met each element once, and knows which it has met
pub record IsWalk (number : ℕ) (walk : Walk) : Type 0 where
  pub known : (at : Pointer) → IsTrue (contains place_cmp walk.places at) ↔ Contains (places_of walk.met.items) at
  pub once : AllPairs (λ a b. a ≢ b) (places_of walk.met.items)
  pub in_range : All (λ at. (at.0 < number) × (at.1 < 4096)) (places_of walk.met.items)

-- a walk has met one element more, in which a segment of this type and these bytes stands
pub record IsNoted (types : List SegDef) (old new : Walk) (type : ℕ) (at : Pointer) (bytes : List ℕ) : Type 0 where
  pub key : List ℕ
  pub one_more : new.met.items ≡ old.met.items ++ record { segment = type; at = at; key = key } ∷ []
  pub is_key : old.keyed ≡ true → key ≡ key_in types type bytes
  pub same_keyed : new.keyed ≡ old.keyed

-- a walk goes on: it is one still, and has met no fewer; whether keys are wanted stays
pub record WalksOn (number : ℕ) (old new : Walk) : Type 0 where
  pub is_walk : IsWalk number new
  pub more : length old.met.items ≤ length new.met.items
  pub same_keyed : new.keyed ≡ old.keyed

-- a segment of its type stands in each element that was met, and its key is there where it is wanted
pub record AllStand (types : List SegDef) (area : List (List ℕ)) (walk : Walk) : Type 0 where
  pub stand : (s : Standing) → Contains walk.met.items s → Stands types area s
  pub keys : walk.keyed ≡ true → AreKeyed types area walk.met.items

-- the intervals are looked at, and stay
pub record IsLook {I : Type 0} (told : I → Type 0) (intervals : I → List (List ℕ)) (number size faults : I → ℕ)
    (keeps : I → I → Type 0) (old new : I) : Type 0 where
  pub same : told old → intervals new ≡ intervals old
  pub same_number : number new ≡ number old
  pub goes_on : GoesOn told size faults keeps old new

-- a pointer of this type leads to this row: whatever follows it, rows or a wrong pointer, follows it
pub record IsRow (types : List SegDef) (area : List (List ℕ)) (met : List Pointer) (type : ℕ) (at : Pointer)
    (row : List Node) (after : List Pointer) : Type 0 where
  pub in_front : (more : List ℕ) (firsts : List Pointer) (rows : List (List Node)) (last : List Pointer)
      → AreRows types area after more firsts rows last
      → AreRows types area met (type ∷ more) (at ∷ firsts) (row ∷ rows) last
  pub behind : (home from : ℕ) (more : List ℕ) (firsts : List Pointer) (ci : ℕ)
      → RowsFail types area after home home more firsts ci
      → RowsFail types area met home from (type ∷ more) (at ∷ firsts) ci

-- a pointer of this type in the interval `from` comes to a wrong one, whichever pointers follow it
pub record RowFails (types : List SegDef) (area : List (List ℕ)) (met : List Pointer) (from type : ℕ) (at : Pointer)
    (ci : ℕ) : Type 0 where
  pub whatever : (home : ℕ) (more : List ℕ) (firsts : List Pointer)
      → RowsFail types area met home from (type ∷ more) (at ∷ firsts) ci

-- the walk along a row has read so much of it, and is at this pointer, which stands in the interval `from`
pub record IsAlong (types : List SegDef) (area : List (List ℕ)) (start : List Pointer) (home type : ℕ) (first : Pointer)
    (row : List Node) (met : List Pointer) (from : ℕ) (at : Pointer) : Type 0 where
  pub reads : (rest : List Node) (after : List Pointer) → IsRow types area met type at rest after
      → IsRow types area start type first (row ++ rest) after
  pub fails : (ci : ℕ) → RowFails types area met from type at ci → RowFails types area start home type first ci

-- the walk over rows has read those of so many types, and these are left
pub record IsAmong (types : List SegDef) (area : List (List ℕ)) (start : List Pointer) (home : ℕ) (all : List ℕ)
    (firsts : List Pointer) (rows : List (List Node)) (met : List Pointer) (left : List ℕ) (left_firsts : List Pointer)
    : Type 0 where
  pub reads : (rest : List (List Node)) (after : List Pointer) → AreRows types area met left left_firsts rest after
      → AreRows types area start all firsts (rows ++ rest) after
  pub fails : (ci : ℕ) → RowsFail types area met home home left left_firsts ci
      → RowsFail types area start home home all firsts ci

-- the whole walk over an anchor: its roots, and its elements in hierarchical order, each once, with their types
pub record IsWalked (shape : Shape) (types : List SegDef) (area : List (List ℕ)) (anchor : ℕ) (walked : Walked) : Type 0
  where
    pub is_chain : IsChain shape types area anchor walked.roots (reverse (places_of walked.met.items))
    pub once : AllPairs (λ a b. a ≢ b) (places_of walked.met.items)
    pub stand : (s : Standing) → Contains walked.met.items s → Stands types area s

-- the walk along the roots has read so many, and is at this pointer, which stands in the interval `from`
pub record IsAlongRoots (types : List SegDef) (area : List (List ℕ)) (base : ℕ) (first : Pointer) (roots : List Root)
    (met : List Pointer) (from : ℕ) (at : Pointer) : Type 0 where
  pub reads : (rest : List Root) (after : List Pointer) → AreRoots types area met at rest after
      → AreRoots types area [] first (roots ++ rest) after
  pub fails : (ci : ℕ) → RootsFail types area met from at ci → RootsFail types area [] base first ci
