use Rattle.std.proofs.Common.{◌≡◌, inr, ap}
use Rattle.fp_source.specs.declared.part.Part.TheVariants as part
use Rattle.command_tasks.proofs.Jobs.{long_definitions}
use Rattle.std.specs.Prelude.{Err}
use Rattle.fp_exits.specs.Kinds.{kinds_of}
use Rattle.fp_source.specs.declared.whole_part.WholeFault.TheVariants as fault
use Rattle.command_tasks.proofs.parts.read_definitions.Goals as goal

pub returns-in-Err-TooLong-clause-refused : goal.returns-in-Err-TooLong-clause-refused
returns-in-Err-TooLong-clause-refused g c t =
    let is : c.in-Err-TooLong.field-0 ≡ fault.TooLong = cc in
    inr (long_definitions (kinds_of c.args.exits.now) (g.S.Source.left c.args.source.now part.Definitions)
    (c.in-Err-TooLong.ensures.too_long t (ap (λ x. Err x) is)))
