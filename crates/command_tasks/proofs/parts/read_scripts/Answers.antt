use Rattle.std.proofs.Common.{◌≡◌, inr, refl, ap}
use Rattle.txn_lang.specs.Grammar.{is_long}
use Rattle.txn_lang.specs.declared.fault.ScriptFault.TheVariants as wrong
use Rattle.std.specs.Prelude.{Err}
use Rattle.fp_source.specs.declared.whole_part.WholeFault.TheVariants as fault
use Rattle.command_tasks.proofs.parts.read_scripts.Goals as goal

pub returns-in-Err-TooLong-clause-refused : goal.returns-in-Err-TooLong-clause-refused
returns-in-Err-TooLong-clause-refused g c t =
    let is : c.in-Err-TooLong.field-0 ≡ fault.TooLong = cc in
    inr (wrong.TooLong, refl, is_long (c.in-Err-TooLong.ensures.too_long t (ap (λ x. Err x) is)))
