use Rattle.std.proofs.Common.{◌≡◌}
use Rattle.memory_site.specs.Memory.{memory_disk}
use Rattle.command_tasks.specs.declared.status.Status.TheVariants as status
use Rattle.system_laws.proofs.StopLemmas.{made_holds}
use Rattle.system_laws.proofs.lives.is_made.Goals.{in-Done, in_default}
use Rattle.system_laws.proofs.lives.is_made.Goals as goal

pub returns : goal.returns
returns g c job s asks is = elim c.match-ims.branch [
  | in-Done w ↦
      let done : c.ims.result ≡ status.Done = cc in
      let defined = c.ims.ensures.defined s tt asks.command_is in
      let rest = defined.made job asks.job_is done in
      made_holds job (memory_disk c.args.site.now).sent (memory_disk c.ims.new.site) defined.only.now.sent rest
  | in_default w ↦ absurd cc
]
