-- What bodies and proofs need of Changing, beside what contracts say.
use Rattle.std.specs.Prelude.{◌≡◌, ◌≢◌, ⊤, ℕ, ◌<◌, ◌==◌, ◌&&◌, if◌then◌else◌, Bool, true, nat_lt, List, Option, Some, None}
use Rattle.std.specs.List.{AllByRecursion}
use Rattle.fp_model.specs.ItemTargets.{OfInterval, item_target, target_precedes}
use Rattle.fp_model.specs.declared.log.Item.{Item}
use Rattle.ci_pool.specs.Held.{Held, staged_at}
use Rattle.area_staging.specs.declared.extent.Extent.{Extent}
use Rattle.area_staging.specs.Items.{IsItemOf}
use Rattle.area_staging.specs.Changing.{IsFitFor}

-- ---- one interval

-- The item of a changed interval of an area that had so many: an image where it is new or has no item since the mark, else
-- a range. There is none where an interval that stood keeps its bytes.
abbrev pub IsItemFor : Bool → Extent → ℕ → List ℕ → List ℕ → Option Item → Type 0
IsItemFor imaged area ci old new None = (ci < area.count) × (new ≡ old)
IsItemFor imaged area ci old new (Some item) =
    IsItemOf (imaged && nat_lt ci area.count) area.set ci old new item × (ci < area.count → new ≢ old)

-- such an item of one interval, if there is any
abbrev pub IsFitItem : Extent → ℕ → Option Item → Type 0
IsFitItem area ci None = ⊤
IsFitItem area ci (Some item) = IsFitFor area.set area.size item × (item_target item ≡ OfInterval area.set ci)

-- where a changed interval has an item it is staged with these bytes; all else that is staged stays
abbrev pub IsOneStaged : ℕ → ℕ → List ℕ → Held → Held → Option Item → Type 0
IsOneStaged set ci bytes before after None = (s k : ℕ) → staged_at after s k ≡ staged_at before s k
IsOneStaged set ci bytes before after (Some item) =
    (s k : ℕ) → staged_at after s k ≡ (if s == set && k == ci then Some bytes else staged_at before s k)

-- each item stands before those of an interval
abbrev pub AllBefore : ℕ → ℕ → List Item → Type 0
AllBefore set ci items =
    AllByRecursion (λ item. target_precedes (item_target item) (OfInterval set ci) ≡ true) items
