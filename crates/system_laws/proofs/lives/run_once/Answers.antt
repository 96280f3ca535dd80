use Rattle.system_laws.specs.Stops as stops
use Rattle.system_laws.proofs.lives.run_once.Goals as goal

pub returns : goal.returns
returns g c = λ job start s asks holds.
    let schedule = asks.schedule_is in
    c.a_call_keeps_what_was_answered.ensures.stands job start c.args.site.now c.ims.new.site tt tt
    (stops.ran (c.ims.ensures.ran job schedule.0 s tt asks schedule.1)) holds
