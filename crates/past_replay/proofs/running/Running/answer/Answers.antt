use Rattle.std.proofs.Common.{◌≤◌, ◌∙◌, sym}
use Rattle.fp_model.specs.Asking.{full_cost}
use Rattle.past_calls.proofs.TargetLemmas.{shown_fits}
use Rattle.past_replay.proofs.GoingLemmas.{goes_on, lacks}
use Rattle.past_replay.proofs.ListLemmas.{each_has}
use Rattle.past_replay.proofs.ShapeLemmas.{is_db}
use Rattle.past_replay.proofs.running.Running.answer.Goals as goal
use Rattle.txn_machine.specs.Running.{types_shown}

pub looks-requires-clause-call : goal.looks-requires-clause-call
looks-requires-clause-call g c =
    let it = c.args.it.now in
    let a = c.requires.asking.1 in
    shown_fits it.defs.now (types_shown c.args.self.now.program) c.args.self.now.work c.args.call.now a.under.kept.tied
    a.fits

pub reply-requires-clause-call : goal.reply-requires-clause-call
reply-requires-clause-call g c =
    let it = c.args.it.now in
    let a = c.requires.asking.1 in
    shown_fits it.defs.now (types_shown c.args.self.now.program) c.args.self.now.work c.args.call.now a.under.kept.tied
    a.fits

pub returns-in_default-clause-ends : goal.returns-in_default-clause-ends
returns-in_default-clause-ends g c count a =
    let it = c.args.it.now in
    let cheap : full_cost a.under.script.statements ≤ 10000
    = each_has (λ script. full_cost script.statements ≤ 10000) it.scripts.now.scripts c.args.self.now.program.number
    a.under.script c.requires.can.setup.cheap a.under.numbered in
    lacks it count c.args.self.now c.args.call.now a cheap c.in_ok-looks.looks c.in_ok-looks.ensures
    (sym c.look.ensures ∙ c.in_default.is)

pub returns-clause-goes : goal.returns-clause-goes
returns-clause-goes g c count a =
    let it = c.args.it.now in
    let s = a.under in
    goes_on it count c.args.self.now c.args.call.now a c.in-Some.look c.in_ok-given.given c.reply.new.work
    c.requires.can.notes (λ visible there. c.in_ok-given.ensures.answer visible there)
    c.in_ok-looks.looks c.in_ok-looks.ensures (sym c.look.ensures ∙ c.in-Some.is) c.requires.can.setup.good
    (is_db it.defs.now it.place it.pasts.now it.anchors.now c.requires.can.are c.requires.can.shape)
    c.reply.ensures.of c.reply.ensures.sees c.in_ok-given.ensures.few c.give.new.self
    c.give.ensures.number (c.give.ensures.at it.defs.now s.script.statements it.message.now s.answers s.at)
    (c.give.ensures.fit it.defs.now c.args.call.now a.waits s.fit c.in_ok-given.ensures.shown)
    (λ db. c.give.ensures.types c.args.call.now db a.waits)
