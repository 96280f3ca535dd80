-- What bodies and proofs need of Touches, beside what contracts say.
use Rattle.std.specs.Prelude.{◌≡◌, ⊤, ℕ, List, [], ◌∷◌, Bool, ◌&&◌, ◌==◌, Option, None, Some, if◌then◌else◌}
use Rattle.std.specs.declared.cmp.Ordering.{Ordering}
use Rattle.std.specs.declared.cmp.Ordering.TheVariants.{Less}
use Rattle.std.specs.List.{AllByRecursion}
use Rattle.std.specs.Ordering.{match_ordering, nat_cmp, ordering_then}
use Rattle.std.specs.Cmp.Lexicographic.{slice_cmp}
use Rattle.fp_model.specs.Texts.{same_text}
use Rattle.fp_model.specs.declared.log.Item.{Item}
use Rattle.fp_model.specs.declared.log.Item.TheVariants.{Segment}
use Rattle.msdb_store.specs.Touches.{Touch}

abbrev pub item_of : Touch → Item
item_of t = Segment t.number t.key t.bytes

-- by database, and then by key
abbrev pub touch_cmp : Touch → Touch → Ordering
touch_cmp t u = ordering_then (nat_cmp t.number u.number) (slice_cmp nat_cmp t.key u.key)

-- with a segment in place of that of its key, or at its place
abbrev pub put_touch : Touch → List Touch → List Touch
put_touch t [] = t ∷ []
put_touch t (u ∷ us) = match_ordering (touch_cmp t u) (t ∷ u ∷ us) (record u { bytes = t.bytes } ∷ us)
    (u ∷ put_touch t us)

-- whether a segment has this key
abbrev pub has_key : Touch → ℕ → List ℕ → Bool
has_key t number key = t.number == number && same_text t.key key

-- the bytes of a key
abbrev pub bytes_at : List Touch → ℕ → List ℕ → Option (List ℕ)
bytes_at [] number key = None
bytes_at (t ∷ ts) number key = if has_key t number key then Some t.bytes else bytes_at ts number key

-- a segment, where there are bytes
abbrev pub made : List ℕ → Option (List ℕ)
made [] = None
made (b ∷ bytes) = Some (b ∷ bytes)

-- the segment of a key, where the databases have this one
abbrev pub seen : List Touch → Option (List ℕ) → ℕ → List ℕ → Option (List ℕ)
seen ts base number key = elim (bytes_at ts number key) [ None ↦ base | Some bytes ↦ made bytes ]

-- each stands before those behind it
abbrev pub AreInOrder : List Touch → Type 0
AreInOrder [] = ⊤
AreInOrder (t ∷ ts) = AllByRecursion (λ u. touch_cmp t u ≡ Less) ts × AreInOrder ts
