use Rattle.std.proofs.Common.{◌≡◌, ◌≢◌, ◌∙◌, [], refl, sym, ap, subst}
use Rattle.std.specs.Prelude.{slice_index}
use Rattle.fp_model.specs.LogText.{StartsWithFront, first_gate}
use Rattle.fp_model.specs.State.{start}
use Rattle.fp_site.proofs.Images.{durable_stays, settles_stays, settles_synced}
use Rattle.fp_site.proofs.Runs.{now_one, of_call, stays_on}
use Rattle.fp_site.specs.Disk.{Syncs}
use Rattle.fp_restart.specs.Replayed.{IsFirstBadAt, IsReplayed, ReadsBack, way_to}
use Rattle.fp_restart.specs.Restarts.{StandsFor}
use Rattle.log_groups.specs.Kept.{IsSound}
use Rattle.log_groups.specs.Images.{BeginsFor, as_front, in_format}
use Rattle.log_groups.proofs.Fronts.{one_format, same_gate}
use Rattle.msdb_store.specs.Store.{IsOf}
use Rattle.fp_restart.proofs.Replays.{reads_back, sound_begins, sound_not_bad, sound_stands}
use Rattle.fp_restart.proofs.Results.{damage_or, narrower, of_five, of_four, same_synced}
use Rattle.fp_restart.proofs.restarting.restart.Goals as goal

pub returns-clause-sound : goal.returns-clause-sound
returns-clause-sound g c format scripts entries t sound =
    let defs = c.args.defs.now in
    let texts = as_front c.args.front.now in
    let front = in_format format texts in
    let old = (g.T.Site.disk c.args.site.now).contents 0 in
    let bytes = (g.T.Site.disk c.sync.new.self).contents 0 in
    let new = g.T.Site.disk c.read_parts.new.site in
    let same = c.sync.ensures.same t in
    let t1 = c.sync.ensures.site.still_told t in
    let t2 = c.read_parts.ensures.site.still_told t1 in
    let stays = c.read_parts.ensures.stays t1 in
    let durable = durable_stays (g.T.Site.disk c.sync.new.self) new 0 (g.met.T.Site.lawful c.sync.new.self t1)
    (g.met.T.Site.lawful c.read_parts.new.site t2) stays (c.in_ok-sync.ensures.durable t) in
    let here : IsSound defs scripts front bytes entries =
    subst (λ l. IsSound defs scripts front l entries) (sym same) sound in
    of_five c.read_parts.result
    (λ parts. IsReplayed defs bytes (way_to (first_gate texts) parts.1 parts.2) (start defs).msdbs parts.0.msdbs)
    (λ parts. slice_index bytes parts.1.gate ≢ 1)
    (λ parts. parts.1.unsealed ≡ [])
    (λ parts. IsOf defs.msdbs parts.0)
    (λ parts. StartsWithFront bytes (in_format parts.1.front_format texts))
    (λ parts. StandsFor defs scripts front new entries parts.0 parts.1 parts.2)
    (λ parts replayed closed unsealed of begins. sound_stands defs scripts front bytes entries here new parts.0 parts.1
    parts.2 durable (ap (λ f. f 0) stays.contents) of unsealed
    (one_format parts.1.front_format format texts bytes begins (sound_begins defs scripts front bytes entries here))
    (subst (λ n. IsReplayed defs bytes (way_to n parts.1 parts.2) (start defs).msdbs parts.0.msdbs)
    (sym (same_gate format texts)) replayed) closed)
    (c.read_parts.ensures.replayed t1) (c.read_parts.ensures.closed t1) c.read_parts.ensures.unsealed
    c.read_parts.ensures.of (c.read_parts.ensures.front t1)

pub returns-clause-never : goal.returns-clause-never
returns-clause-never g c format scripts entries t sound =
    let defs = c.args.defs.now in
    let texts = as_front c.args.front.now in
    let front = in_format format texts in
    let bytes = (g.T.Site.disk c.sync.new.self).contents 0 in
    let t1 = c.sync.ensures.site.still_told t in
    let here : IsSound defs scripts front bytes entries =
    subst (λ l. IsSound defs scripts front l entries) (sym (c.sync.ensures.same t)) sound in (
      λ is. c.read_parts.ensures.foreign t1 is (record {
        format = format;
        is_format = sound.is_format;
        begins = sound_begins defs scripts front bytes entries here;
      }),
      λ set at is. sound_not_bad defs scripts front bytes entries here at
          (subst (λ n. IsFirstBadAt defs bytes n at) (sym (same_gate format texts))
          (c.read_parts.ensures.damaged set at t1 is).1),
    )

pub returns-clause-damaged : goal.returns-clause-damaged
returns-clause-damaged g c set at t is = (c.read_parts.ensures.damaged set at (c.sync.ensures.site.still_told t) is).0

pub returns-clause-place : goal.returns-clause-place
returns-clause-place g c set at t is =
    let bad = c.read_parts.ensures.damaged set at (c.sync.ensures.site.still_told t) is in
    subst (λ l. IsFirstBadAt c.args.defs.now l (first_gate (as_front c.args.front.now)) at) (c.sync.ensures.same t)
    bad.1

pub returns-clause-begun : goal.returns-clause-begun
returns-clause-begun g c set at t is =
    subst (BeginsFor (as_front c.args.front.now)) (c.sync.ensures.same t)
    (c.read_parts.ensures.begun set at (c.sync.ensures.site.still_told t) is)

pub returns-clause-only_damaged : goal.returns-clause-only_damaged
returns-clause-only_damaged g c at t begins bad =
    let defs = c.args.defs.now in
    let front = as_front c.args.front.now in
    let bytes = (g.T.Site.disk c.sync.new.self).contents 0 in
    let same = sym (c.sync.ensures.same t) in
    let t1 = c.sync.ensures.site.still_told t in
    damage_or c.read_parts.result defs bytes (first_gate front) at (c.read_parts.ensures.readable t1)
    (λ is. c.read_parts.ensures.foreign t1 is (subst (BeginsFor front) same begins))
    (λ set place is. c.read_parts.ensures.damaged set place t1 is)
    (subst (λ l. IsFirstBadAt defs l (first_gate front) at) same bad)

pub returns-clause-crash : goal.returns-clause-crash
returns-clause-crash g c t =
    let old = g.T.Site.disk c.args.site.now in
    let mid = g.T.Site.disk c.sync.new.self in
    let law = g.met.T.Site.lawful c.args.site.now t in
    let t1 = c.sync.ensures.site.still_told t in
    let law1 = g.met.T.Site.lawful c.sync.new.self t1 in
    let crash = c.sync.ensures.crash t in
    stays_on (Syncs old 0) old mid (g.T.Site.disk c.read_parts.new.site) law1
    (of_call old mid (Syncs old 0) law crash (same_synced old)) (c.read_parts.ensures.stays t1)
    (now_one old mid (Syncs old 0) law law1 crash (same_synced old))

pub returns-clause-reads : goal.returns-clause-reads
returns-clause-reads g c t =
    let defs = c.args.defs.now in
    let texts = as_front c.args.front.now in
    let mid = g.T.Site.disk c.sync.new.self in
    let new = g.T.Site.disk c.read_parts.new.site in
    let bytes = mid.contents 0 in
    let t1 = c.sync.ensures.site.still_told t in
    let t2 = c.read_parts.ensures.site.still_told t1 in
    let stays = c.read_parts.ensures.stays t1 in
    let durable = durable_stays mid new 0 (g.met.T.Site.lawful c.sync.new.self t1)
    (g.met.T.Site.lawful c.read_parts.new.site t2) stays (c.in_ok-sync.ensures.durable t) in
    of_four c.read_parts.result
    (λ parts. IsReplayed defs bytes (way_to (first_gate texts) parts.1 parts.2) (start defs).msdbs parts.0.msdbs)
    (λ parts. slice_index bytes parts.1.gate ≢ 1)
    (λ parts. parts.1.unsealed ≡ [])
    (λ parts. StartsWithFront bytes (in_format parts.1.front_format texts))
    (λ parts. ReadsBack defs (in_format parts.1.front_format texts) new parts.0 parts.1 parts.2)
    (λ parts replayed closed unsealed begins. reads_back defs (in_format parts.1.front_format texts) bytes new parts.0
    parts.1 parts.2 durable (ap (λ f. f 0) stays.contents) begins unsealed refl
    (subst (λ n. IsReplayed defs bytes (way_to n parts.1 parts.2) (start defs).msdbs parts.0.msdbs)
    (sym (same_gate parts.1.front_format texts)) replayed) closed)
    (c.read_parts.ensures.replayed t1) (c.read_parts.ensures.closed t1) c.read_parts.ensures.unsealed
    (c.read_parts.ensures.front t1)

-- ---- what a further sync may make

pub returns-in_err-sync-clause-settles : goal.returns-in_err-sync-clause-settles
returns-in_err-sync-clause-settles g c image t settles =
    settles_synced _ _ 0 image (g.met.T.Site.lawful c.args.site.now t)
    (g.met.T.Site.lawful c.sync.new.self (c.sync.ensures.site.still_told t)) (c.sync.ensures.crash t) settles

pub returns-in_err-sync-clause-begins : goal.returns-in_err-sync-clause-begins
returns-in_err-sync-clause-begins g c format scripts earlier t safe =
    narrower c.args.defs.now scripts (in_format format (as_front c.args.front.now)) _ _ earlier (c.sync.ensures.same t)
    (λ image settles. returns-in_err-sync-clause-settles g c image t settles) safe

pub returns-clause-settles : goal.returns-clause-settles
returns-clause-settles g c image t settles =
    let t1 = c.sync.ensures.site.still_told t in
    let law1 = g.met.T.Site.lawful c.sync.new.self t1 in
    let law2 = g.met.T.Site.lawful c.read_parts.new.site (c.read_parts.ensures.site.still_told t1) in
    settles_synced _ _ 0 image (g.met.T.Site.lawful c.args.site.now t) law1 (c.sync.ensures.crash t)
    (settles_stays _ _ 0 image law1 law2 (c.read_parts.ensures.stays t1) settles)

pub returns-clause-begins : goal.returns-clause-begins
returns-clause-begins g c format scripts earlier t safe =
    narrower c.args.defs.now scripts (in_format format (as_front c.args.front.now)) _ _ earlier
    (ap (λ f. f 0) (c.read_parts.ensures.stays (c.sync.ensures.site.still_told t)).contents ∙ c.sync.ensures.same t)
    (λ image settles. returns-clause-settles g c image t settles) safe
