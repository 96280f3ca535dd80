-- The locks as tables, region 1 first.
use Rattle.std.specs.Prelude.{ℕ, zero, suc, List, length, Option, Some, None, option_and_then, slice_get}
use Rattle.std.specs.BTreeMap.{is_at}
use Rattle.std.specs.Cmp.Lexicographic.{slice_cmp}
use Rattle.std.specs.Map.{lookup}
use Rattle.std.specs.Ordering.{nat_cmp}
use Rattle.fp_model.specs.declared.calls.Mode.{Mode}
use Rattle.fp_model.specs.declared.calls.Resource.{Resource}
use Rattle.fp_model.specs.declared.calls.Resource.TheVariants.{Segment, Anchor}
use Rattle.fp_model.specs.Waiting.{Lock}
use Rattle.ci_locks.specs.Holdings.{anchor_cmp}
use Rattle.ci_locks.specs.Standing.{Standing}
use Rattle.ci_locks.specs.declared.state.Request.{Request}

-- A region: of what some region holds, how it holds the anchors, by database and number, and the segments, by key, a
-- table for each database; and its request.
pub record Row : Type 0 where
  pub anchors : List ((ℕ × ℕ) × Option Mode)
  pub segments : List (List (List ℕ × Option Mode))
  pub request : Option Request

-- what is found, if anything is
abbrev pub joined : {X : Type 0} → Option (Option X) → Option X
joined found = option_and_then (λ x. x) found

-- how a key is held, where there is a table of its database
abbrev pub key_mode : List ℕ → Option (List (List ℕ × Option Mode)) → Option Mode
key_mode key None = None
key_mode key (Some table) = joined (lookup (is_at (slice_cmp nat_cmp key)) table)

abbrev pub row_mode : Row → Resource → Option Mode
row_mode row (Anchor dedb anchor) = joined (lookup (is_at (anchor_cmp (dedb, anchor))) row.anchors)
row_mode row (Segment msdb key) = key_mode key (slice_get row.segments msdb)

-- the row of a region
abbrev pub row_at : List Row → ℕ → Option Row
row_at rows zero = None
row_at rows (suc place) = slice_get rows place

abbrev pub mode_of : Option Row → Resource → Option Mode
mode_of None resource = None
mode_of (Some row) resource = row_mode row resource

abbrev pub lock_of : ℕ → Option Request → Option Lock
lock_of region None = None
lock_of region (Some request) = Some (record { region = region; resource = request.resource; mode = request.mode })

abbrev pub request_of : ℕ → Option Row → Option Lock
request_of region None = None
request_of region (Some row) = lock_of region row.request

-- what stands
abbrev pub standing : List Row → Standing
standing rows = record {
  regions = length rows;
  holds = λ region. mode_of (row_at rows region);
  asks =
      λ region. request_of region (row_at rows region);
}
