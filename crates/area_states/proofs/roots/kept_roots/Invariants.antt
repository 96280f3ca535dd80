use Rattle.std.proofs.Common.{◌≡◌, ◌<◌, ℕ, length, map, take, true}
use Rattle.std.specs.Prelude.{Some, slice_get}
use Rattle.std.specs.List.{AllZip}
use Rattle.root_anchor.specs.Stored.{are_storable}
use Rattle.area_states.specs.Changes.{kept_root}
use Rattle.fp_model.specs.Order.{root_key}
use Rattle.fp_model.specs.State.{ascend}
use Rattle.fp_model.specs.declared.database.Root.{Root}
use Rattle.area_states.specs.inside.Keys.{HasSeqsAt, IsKeptAs, IsOwnOf}
use Rattle.area_states.proofs.roots.kept_roots.Given as goal

-- those before are kept, and may be stored
abbrev pub invariant-loop-root : goal.invariant-loop-root
invariant-loop-root l = record {
  same : AllZip (IsKeptAs l.begin) (take l.root-index l.root-items) l.kept;
  form : are_storable l.segments l.before ≡ true → are_storable l.segments (map kept_root l.root-items) ≡ true
      → are_storable l.segments l.kept ≡ true;
  count : length l.kept ≡ l.root-index;
  again : ascend (map (root_key l.segments) l.before) ≡ true → (number : ℕ) (root other : Root)
      → number < l.root-index → slice_get l.root-items number ≡ Some root → slice_get l.before number ≡ Some other
      → IsOwnOf l.begin root other → HasSeqsAt l.kept number other.seqs;
}
