use Rattle.std.proofs.Common.{◌≡◌, drop}
use Rattle.fp_model.specs.Fsas.{field_of}
use Rattle.txn_values.proofs.fields.field_of.Given as goal

-- the fields so far have other names
abbrev pub invariant-loop-field : goal.invariant-loop-field
invariant-loop-field l = field_of l.fields l.name.0 ≡ field_of (drop l.field-index l.fields) l.name.0
