use Rattle.std.proofs.Common.{◌≡◌, drop}
use Rattle.fp_model.specs.Values.{empty_segment}
use Rattle.txn_values.proofs.FieldLemmas.{prefixed}
use Rattle.txn_values.proofs.fields.empty_segment.Given as goal

abbrev pub invariant-loop-field : goal.invariant-loop-field
invariant-loop-field l = prefixed l.segment (empty_segment (drop l.field-index l.fields)) ≡ empty_segment l.fields
