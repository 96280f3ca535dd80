use Rattle.std.proofs.lemmas.Result.{IfOk-from_err}
use Rattle.fp_source.specs.declared.part.Part.TheVariants.{Messages}
use Rattle.fp_source.proofs.Calls.{reads_none, reads_on}
use Rattle.message_lines.proofs.lines.Lines.fill.Goals as goal

pub returns-in_err-count-clause-some : goal.returns-in_err-count-clause-some
returns-in_err-count-clause-some g c = IfOk-from_err c.from_residual.result _ c.from_residual.ensures.0

pub returns-in_err-count-clause-none : goal.returns-in_err-count-clause-none
returns-in_err-count-clause-none g c = λ t. IfOk-from_err c.from_residual.result _ c.from_residual.ensures.0

pub returns-in_err-count-clause-source : goal.returns-in_err-count-clause-source
returns-in_err-count-clause-source g c =
    let call = c.read.ensures in
    reads_on g.S.Source.told g.S.Source.left g.S.Source.faults g.S.Source.holds g.S.Source.keeps Messages
    c.args.source.now c.args.source.now c.read.new.self (reads_none g.S.Source.told g.S.Source.left g.S.Source.faults
    g.S.Source.holds g.S.Source.keeps Messages c.args.source.now) call.source call.others
