use Rattle.fp_restart.proofs.Replays.{new_safe}
use Rattle.log_groups.specs.Images.{as_front}
use Rattle.fp_restart.proofs.defining.define.Goals as goal

pub returns-clause-safe : goal.returns-clause-safe
returns-clause-safe g c t scripts = new_safe c.args.defs.now scripts (as_front c.args.front.now)
    c.requires.fits.is_format (g.T.Site.disk c.make.new.site) (c.in_ok-make.ensures.made t)
