use Rattle.std.proofs.Common.{refl}
use Rattle.past_segments.specs.Pasts.{databases_at}
use Rattle.fp_audit.proofs.StateLemmas.{purge_found, ready_later}
use Rattle.fp_audit.proofs.so_far.SoFar.purges.Goals as goal

pub returns-clause-found : goal.returns-clause-found
returns-clause-found c = λ h stands.
    let it = c.args.self.now in
    purge_found it.defs.now c.args.set c.args.n it.place it.pasts.items it.anchors c.purge.new.self h.now c.purge.result
    c.requires.ready.settled stands.states.here (c.purge.ensures.purged (databases_at it.place it.pasts.items))

pub returns-clause-keeps : goal.returns-clause-keeps
returns-clause-keeps c =
    record { requests = refl; place = refl; defs = refl; scripts = refl; before = λ p le. refl }

pub returns-clause-next : goal.returns-clause-next
returns-clause-next c =
    let it = c.args.self.now in
    ready_later it.defs.now it.place it.pasts.items it.anchors c.purge.new.self c.requires.ready c.purge.ensures.shape
