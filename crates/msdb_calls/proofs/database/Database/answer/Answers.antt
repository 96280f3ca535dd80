use Rattle.std.proofs.Common.{◌∙◌, ap, sym}
use Rattle.fp_model.specs.Answers.{Replied}
use Rattle.fp_model.specs.Workspace.{Workspace}
use Rattle.msdb_calls.proofs.AnswerLemmas.{fits_answer}
use Rattle.msdb_calls.proofs.WorkLemmas.{keeps, own_is}
use Rattle.msdb_calls.proofs.database.Database.answer.Goals as goal

pub returns-clause-answer : goal.returns-clause-answer
returns-clause-answer g c own =
    sym (c.in_ok-answer.ensures.reply own)
    ∙ ap (λ (kept : Workspace). let r : Replied = record { answer = c.in_ok-answer.field-0.answer; own = kept } in r)
    (own_is c.args.self.now.def.now c.args.self.now.number c.in_ok-answer.field-0.change c.args.work.now
    c.settle.new.self own c.in_ok-settle.ensures.positions c.in_ok-settle.ensures.deferred)

pub returns-clause-shown : goal.returns-clause-shown
returns-clause-shown g c =
    fits_answer c.args.call.now c.args.self.now.number c.args.self.now.def.now c.in_ok-answer.field-0.answer
    c.in_ok-answer.ensures.shown

pub returns-clause-of : goal.returns-clause-of
returns-clause-of g c defs there is =
    keeps defs c.args.self.now.def.now c.args.self.now.number c.in_ok-answer.field-0.change c.args.work.now
    c.settle.new.self there is c.in_ok-answer.ensures.change c.in_ok-settle.ensures.positions
    c.in_ok-settle.ensures.deferred c.in_ok-settle.ensures.changed
