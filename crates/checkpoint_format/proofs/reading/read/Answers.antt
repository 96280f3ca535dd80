use Rattle.std.proofs.Common.{◌≡◌, Option, Some, arith}
use Rattle.std.specs.Prelude.{IfOk, Result, Ok, Err}
use Rattle.log_format.specs.Reading.{Gives}
use Rattle.log_format.specs.declared.fault.ReadError.{ReadError}
use Rattle.log_format.proofs.Fields.{from_places}
use Rattle.checkpoint_format.specs.Given.{loaded_as}
use Rattle.checkpoint_format.specs.Reading.{rest_at}
use Rattle.checkpoint_format.proofs.CheckpointLaws.{rest_takes}
use Rattle.checkpoint_format.proofs.reading.read.Goals as goal

-- what holds of all that reading may give
ok_of : {X Y : Type 0} (view : X → Y) (r : Result X ReadError) (read : Option Y) (P : Y → Type 0) → Gives view r read
    → ((y : Y) → read ≡ Some y → P y) → IfOk r (λ x. P (view x))
ok_of view (Ok x) read P given f = f (view x) given
ok_of view (Err e) read P given f = tt

pub returns-clause-whole : goal.returns-clause-whole
returns-clause-whole c short =
    ok_of (λ x. ((x.0.format, loaded_as x.0), x.1.now)) c.rest_of.result (rest_at c.args.defs.now c.args.bytes.now)
    _ c.rest_of.ensures
    (λ y is. rest_takes c.args.defs.now c.args.bytes.now y short
    (from_places 256 c.args.bytes.now (λ i. grind (arith, c.type_inv.bytes i))) is)
