-- What bodies and proofs need of Keeping, beside what contracts say.
use Rattle.std.specs.Prelude.{◌≡◌, ◌≢◌, ℕ, List, ◌∷◌, ◌++◌, length, map, flat_map, All, Some}
use Rattle.fp_model.specs.declared.definitions.SegDef.{SegDef}
use Rattle.fp_model.specs.declared.database.Node.{Node}
use Rattle.root_anchor.specs.declared.plan.Planned.{Planned}
use Rattle.root_anchor.specs.declared.standing.Standing.{Standing}
use Rattle.root_anchor.specs.Keeping.{keys_below}

-- ---- the type and the key of each segment, in hierarchical order

abbrev pub keys_of_row : List SegDef → ℕ → List Node → List (ℕ × List ℕ)
keys_of_row types type row = flat_map (λ node. node type) (map (keys_below types) row)

-- ---- a plan in which each segment has the element that it had

abbrev pub marks_of : List Standing → List (ℕ × List ℕ)
marks_of list = map (λ s. (s.segment, s.key)) list

abbrev pub kept : List Standing → List Planned
kept list = map (λ s. record { segment = s.segment; at = Some s.at }) list

-- The last of these elements are planned for the segments that have their types and keys: they are taken out, and stand
-- in front of the plan.
pub record PlansAll (before part standing : List Standing) (to : ℕ) (old new : List Planned) : Type 0 where
  pub left : standing ≡ before
  pub ends : to ≡ length before
  pub planned : new ≡ kept part ++ old

-- so it is for some of them, and those in front of them are left, which have these types and keys
pub record IsPlanning (before part standing : List Standing) (to : ℕ) (old now : List Planned)
    (marks : List (ℕ × List ℕ)) : Type 0 where
  pub rest : List Standing
  pub done : List Standing
  pub parts : part ≡ rest ++ done
  pub are : marks_of rest ≡ marks
  pub left : standing ≡ before ++ rest
  pub ends : to ≡ length standing
  pub planned : now ≡ kept done ++ old

-- the last of these elements that has this type is the one at a place, and it has this key
pub record IsLastOf (standing : List Standing) (segment : ℕ) (key : List ℕ) (place : ℕ) : Type 0 where
  pub before : List Standing
  pub one : Standing
  pub below : List Standing
  pub parts : standing ≡ before ++ one ∷ below
  pub is_place : place ≡ length before
  pub is_segment : one.segment ≡ segment
  pub is_key : one.key ≡ key
  pub others : All (λ s. s.segment ≢ segment) below
