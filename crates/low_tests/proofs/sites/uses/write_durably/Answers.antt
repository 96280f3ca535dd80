use Rattle.std.proofs.Common.{ℕ, length, sym, subst}
use Rattle.fp_site.specs.Disk.{Snapshot, Disk, IsDurable, Torn, Settles, Tears, Syncs, Elapses, Leaves, IsLawful}
use Rattle.fp_site.specs.Moments.{Through, OnlyOn}
use Rattle.fp_site.proofs.Runs.{started, goes_on}
use Rattle.fp_site.proofs.Images.{torn_from, torn_now, torn_settles}
use Rattle.fp_site.proofs.Torns.{torn_none}
use Rattle.fp_site.proofs.Frames.{only_none, only_more}
use Rattle.low_tests.proofs.sites.uses.write_durably.Goals as goal

-- over disks: h before, h1 after the write, h2 after the sync
module _ (set at count : ℕ) (h h1 : Disk) (law : IsLawful h) (law1 : IsLawful h1) (leaves : Leaves set h h1)
    (crash : Elapses h h1 (Tears h set at count)) where
  abbrev IsTorn : Snapshot → Type 0
  IsTorn s = Torn at count (h.contents set) (s.images set)

  only1 : OnlyOn set h h1
  only1 = only_more set h h h1 (Torn at count) law law (only_none set h) leaves crash

  torn1 : IsDurable h set → Through h h1 IsTorn
  torn1 durable =
      goes_on IsTorn h h h1 (Tears h set at count)
      (started IsTorn h law (λ s left. subst (λ c. Torn at count (h.contents set) c) (sym (durable s left))
      (torn_none at count (h.contents set))))
      crash (λ s d. torn_from h set at count s durable d)

  module _ (h2 : Disk) (leaves2 : Leaves set h1 h2) (crash2 : Elapses h1 h2 (Syncs h1 set)) where
    only2 : OnlyOn set h h2
    only2 = only_more set h h1 h2 (λ before image. Settles h1 set image) law law1 only1 leaves2 crash2

    torn2 : IsDurable h set → Through h h2 IsTorn
    torn2 durable =
        goes_on IsTorn h h1 h2 (Syncs h1 set) (torn1 durable) crash2
        (λ s d. torn_settles h1 set at count (h.contents set) (s.images set)
        (torn_now h h1 set at count law law1 durable crash) d.this)

pub returns-in_err-write_at-clause-only : goal.returns-in_err-write_at-clause-only
returns-in_err-write_at-clause-only g c t =
    let t1 = c.write_at.ensures.site.still_told t in
    only1 c.args.set c.args.at (length c.args.from.now) _ _ (g.met.S.Site.lawful c.args.site.now t)
    (g.met.S.Site.lawful c.write_at.new.self t1) (c.write_at.ensures.leaves t) (c.write_at.ensures.crash t)

pub returns-in_err-write_at-clause-torn : goal.returns-in_err-write_at-clause-torn
returns-in_err-write_at-clause-torn g c t =
    let t1 = c.write_at.ensures.site.still_told t in
    torn1 c.args.set c.args.at (length c.args.from.now) _ _ (g.met.S.Site.lawful c.args.site.now t)
    (g.met.S.Site.lawful c.write_at.new.self t1) (c.write_at.ensures.leaves t) (c.write_at.ensures.crash t)

pub returns-in_err-sync-clause-only : goal.returns-in_err-sync-clause-only
returns-in_err-sync-clause-only g c t =
    let t1 = c.write_at.ensures.site.still_told t in
    only2 c.args.set c.args.at (length c.args.from.now) _ _ (g.met.S.Site.lawful c.args.site.now t)
    (g.met.S.Site.lawful c.write_at.new.self t1) (c.write_at.ensures.leaves t) (c.write_at.ensures.crash t) _
    (c.sync.ensures.leaves t1) (c.sync.ensures.crash t1)

pub returns-in_err-sync-clause-torn : goal.returns-in_err-sync-clause-torn
returns-in_err-sync-clause-torn g c t =
    let t1 = c.write_at.ensures.site.still_told t in
    torn2 c.args.set c.args.at (length c.args.from.now) _ _ (g.met.S.Site.lawful c.args.site.now t)
    (g.met.S.Site.lawful c.write_at.new.self t1) (c.write_at.ensures.leaves t) (c.write_at.ensures.crash t) _
    (c.sync.ensures.leaves t1) (c.sync.ensures.crash t1)

pub returns-clause-only : goal.returns-clause-only
returns-clause-only g c t =
    let t1 = c.write_at.ensures.site.still_told t in
    only2 c.args.set c.args.at (length c.args.from.now) _ _ (g.met.S.Site.lawful c.args.site.now t)
    (g.met.S.Site.lawful c.write_at.new.self t1) (c.write_at.ensures.leaves t) (c.write_at.ensures.crash t) _
    (c.sync.ensures.leaves t1) (c.sync.ensures.crash t1)

pub returns-clause-torn : goal.returns-clause-torn
returns-clause-torn g c t =
    let t1 = c.write_at.ensures.site.still_told t in
    torn2 c.args.set c.args.at (length c.args.from.now) _ _ (g.met.S.Site.lawful c.args.site.now t)
    (g.met.S.Site.lawful c.write_at.new.self t1) (c.write_at.ensures.leaves t) (c.write_at.ensures.crash t) _
    (c.sync.ensures.leaves t1) (c.sync.ensures.crash t1)
