use Rattle.std.proofs.Common.{◌∙◌, ap, refl, sym, subst}
use Rattle.std.specs.Prelude.{Err}
use Rattle.command_tasks.specs.Causes.{IsCausedBySite}
use Rattle.fp_system.specs.inside.Acted.{IsRefusedLog}
use Rattle.fp_system.specs.inside.Answers.{IsOfSite}
use Rattle.command_tasks.specs.Setups.{job_of}
use Rattle.fp_system.proofs.CauseLemmas.{fault_by_site, fault_of_site, one_err}
use Rattle.fp_system.proofs.Due.{fault_due, fault_not_done, fault_stands}
use Rattle.fp_system.proofs.Restarted.{back_for, good_for, once_for, sound_for, stands_for}
use Rattle.fp_system.proofs.acting.restart_for.Goals as goal

pub returns-in-Ok-clause-ok : goal.returns-in-Ok-clause-ok
returns-in-Ok-clause-ok g c t =
    let setup = c.args.setup.now in
    let log = (g.T.Site.disk c.args.site.now).contents 0 in
    let new = g.T.Site.disk c.restart.new.site in
    let call = c.in-Ok.ensures in
    record {
      good = good_for setup c.requires log
          (record { format = c.in-Ok.log.front_format; is_format = call.is_format; begins = call.front t })
          (call.readable t);
      back = back_for setup c.requires c.in-Ok.log.front_format new c.in-Ok.msdbs c.in-Ok.log c.in-Ok.lasts
          (call.reads t);
      sound = λ format earlier sound.
          stands_for setup c.requires format new earlier c.in-Ok.msdbs c.in-Ok.log c.in-Ok.lasts
          (call.sound format setup.scripts.scripts earlier t (sound_for setup c.requires format log earlier sound));
    }

pub returns-in-Err-clause-refused : goal.returns-in-Err-clause-refused
returns-in-Err-clause-refused g c t =
    let setup = c.args.setup.now in
    let old = g.T.Site.disk c.args.site.now in
    let why = c.in-Err.fault in
    let call = c.in-Err.ensures in
    subst (IsRefusedLog (job_of setup) old (g.T.Site.disk c.restart.new.site)) (sym c.answer_to.ensures) (record {
      due = fault_due setup c.requires (old.contents 0) why (λ e. call.foreign t (ap (λ f. Err f) e))
          (λ set at e. let is = ap (λ f. Err f) e in
          (call.damaged set at t is, call.begun set at t is, call.place set at t is));
      never = λ format earlier sound.
          let no = call.never format setup.scripts.scripts earlier t
          (sound_for setup c.requires format (old.contents 0) earlier sound) in
          fault_stands why (λ e. no.0 (ap (λ f. Err f) e)) (λ set at e. no.1 set at (ap (λ f. Err f) e));
      images = λ image. c.restart.ensures.settles image t;
    })

pub returns-in-Err-clause-fault : goal.returns-in-Err-clause-fault
returns-in-Err-clause-fault g c = (
  subst IsOfSite (sym c.answer_to.ensures) (fault_of_site c.in-Err.fault),
  λ done. fault_not_done c.in-Err.fault (sym c.answer_to.ensures ∙ done),
)

pub returns-in-Err-clause-cause : goal.returns-in-Err-clause-cause
returns-in-Err-clause-cause g c =
    let before = g.T.Site.faults c.args.site.now in
    let now = g.T.Site.faults c.restart.new.site in
    subst (IsCausedBySite before now) (sym c.answer_to.ensures)
    (fault_by_site before now c.in-Err.fault (λ e. c.in-Err.ensures.cause (ap (λ f. Err f) e))
    (λ other. c.in-Err.ensures.stayed (λ e. other (one_err _ refl e))))

pub returns-in-Ok-clause-stayed : goal.returns-in-Ok-clause-stayed
returns-in-Ok-clause-stayed g c = c.in-Ok.ensures.stayed (λ e. absurd cc)

pub returns-in-Ok-clause-once : goal.returns-in-Ok-clause-once
returns-in-Ok-clause-once g c t tells =
    let call = c.restart.ensures in
    once_for c.args.setup.now c.requires (record {
      all = call.once t tells;
      up_to = λ groups gate holds. call.read groups gate t holds.reads tells;
      of_others = λ away. call.no_front t away tells;
    })

pub returns-in-Err-clause-once : goal.returns-in-Err-clause-once
returns-in-Err-clause-once g c t tells =
    let call = c.restart.ensures in
    once_for c.args.setup.now c.requires (record {
      all = call.once t tells;
      up_to = λ groups gate holds. call.read groups gate t holds.reads tells;
      of_others = λ away. call.no_front t away tells;
    })

pub returns-in-Ok-clause-unchanged : goal.returns-in-Ok-clause-unchanged
returns-in-Ok-clause-unchanged g c t =
    let call = c.restart.ensures in record { contents = call.contents t; sent = call.sent t; crash = call.crash t }

pub returns-in-Err-clause-unchanged : goal.returns-in-Err-clause-unchanged
returns-in-Err-clause-unchanged g c t =
    let call = c.restart.ensures in record { contents = call.contents t; sent = call.sent t; crash = call.crash t }
