-- How a transaction that runs alone holds anchors.
use Rattle.std.proofs.Common.{◌≡◌, refl, List, Bool, true, false, Some, None}
use Rattle.std.specs.Prelude.{if◌then◌else◌, is_some}
use Rattle.fp_model.specs.declared.calls.Mode.TheVariants.{Exclusive}
use Rattle.dedb_calls.specs.Anchors.{held_at}
use Rattle.dedb_calls.specs.Progress.{Knows}
use Rattle.dedb_calls.specs.declared.anchors.HeldAnchor.{HeldAnchor}
use Rattle.past_calls.specs.Alone.{held_alone}

-- it has the roots of each anchor that it holds
pub knows_alone : (anchors : List HeldAnchor) → Knows (held_alone anchors) anchors
knows_alone anchors dedb anchor held = by (is_some (held_at anchors dedb anchor)) refl held
  where
    by : (b : Bool) → is_some (held_at anchors dedb anchor) ≡ b
        → is_some (if b then Some Exclusive else None) ≡ true → is_some (held_at anchors dedb anchor) ≡ true
    by true has h = has
    by false has h = absurd (cc)
