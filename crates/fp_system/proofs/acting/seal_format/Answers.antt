use Rattle.std.proofs.Common.{sym, subst}
use Rattle.fp_core.proofs.FrontLemmas.{fronts_from, fronts_none, fronts_sealing}
use Rattle.fp_core.proofs.Onwards.{reads_nothing_none}
use Rattle.fp_system.specs.Gives.{format_entry}
use Rattle.log_groups.specs.Images.{IsAtRest}
use Rattle.fp_system.proofs.CauseLemmas.{seal_by_site}
use Rattle.fp_system.proofs.Migrations.{seal_outcome, sealed, unsealed}
use Rattle.fp_system.proofs.Runs.{only_same}
use Rattle.fp_system.proofs.acting.seal_format.Goals as goal

pub returns-in-Ok-clause-outcome : goal.returns-in-Ok-clause-outcome
returns-in-Ok-clause-outcome g c = seal_outcome c.seal.result c.seal_status.result c.seal_status.ensures

pub returns-in-Ok-clause-cause : goal.returns-in-Ok-clause-cause
returns-in-Ok-clause-cause g c =
    seal_by_site (g.T.Site.faults c.args.site.now) (g.T.Site.faults c.seal.new.site) c.seal.result c.seal_status.result
    c.seal_status.ensures c.seal.ensures.cause

pub returns-in-Ok-clause-seals : goal.returns-in-Ok-clause-seals
returns-in-Ok-clause-seals g c front groups t rest =
    let call = c.seal.ensures in
    let old = g.T.Site.disk c.args.site.now in
    let there = subst (IsAtRest old front groups) (sym c.append_format.ensures.gate) rest in
    sealed front groups c.args.log.now.gate (format_entry c.args.log.now.sealed) old (g.T.Site.disk c.seal.new.site)
    c.append_format.new.log.gate c.seal.new.self.gate c.append_format.new.log.unsealed c.seal.result
    c.seal_status.result c.append_format.ensures.gate c.in-Ok.ensures.entry c.seal_status.ensures
    (call.crash front groups t there) (λ image. call.settles front groups image t there)
    (call.durable front groups t there)

pub returns-in-Ok-clause-front : goal.returns-in-Ok-clause-front
returns-in-Ok-clause-front g c t =
    let old = g.T.Site.disk c.args.site.now in
    let new = g.T.Site.disk c.seal.new.site in
    let gate = c.append_format.new.log.gate in
    fronts_from old new c.args.log.now.gate gate c.append_format.ensures.gate
    (fronts_sealing old new gate c.seal.new.self.gate (c.seal.ensures.front t))

-- ---- no memory for the entry

pub returns-in-Err-clause-seals : goal.returns-in-Err-clause-seals
returns-in-Err-clause-seals g c front groups t rest =
    unsealed front groups c.args.log.now.gate (format_entry c.args.log.now.sealed) (g.T.Site.disk c.args.site.now)
    (g.met.T.Site.lawful c.args.site.now t) rest

pub returns-in-Err-clause-only : goal.returns-in-Err-clause-only
returns-in-Err-clause-only g c t = only_same (g.T.Site.disk c.args.site.now)

pub returns-in-Err-clause-reads : goal.returns-in-Err-clause-reads
returns-in-Err-clause-reads g c =
    reads_nothing_none (g.T.Site.tells_reads c.args.site.now) (g.T.Site.bytes_read c.args.site.now)

pub returns-in-Err-clause-front : goal.returns-in-Err-clause-front
returns-in-Err-clause-front g c t =
    fronts_none (g.T.Site.disk c.args.site.now) c.args.log.now.gate (g.met.T.Site.lawful c.args.site.now t)
