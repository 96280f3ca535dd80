use Rattle.std.proofs.Common.{◌≡◌, ◌+◌, length, refl, sym, subst, arith}
use Rattle.std.specs.Prelude.{Ok}
use Rattle.std.proofs.lemmas.Result.{err_from_is_err_and}
use Rattle.dedb_area.specs.inside.Staging.{StageAreas}
use Rattle.dedb_area.proofs.Data.{place_in_turn, place_there}
use Rattle.dedb_area.proofs.StageLemmas.{handed_on}
use Rattle.dedb_area.proofs.StageRun.{area_refused, area_staged, no_area, no_memory}
use Rattle.dedb_area.proofs.committing.stage_all.Goals as goal

pub loop-place-init : goal.loop-place-init
loop-place-init g c = record {
  here = refl;
  within = omega arith;
  done = no_area g.T.Site.told g.T.Site.disk g.T.Site.faults g.T.Site.holds g.T.Site.keeps g.T.Site.tells_reads
      g.T.Site.bytes_read c.args.changes.now c.args.inserts.now c.args.places.now c.args.site.now c.args.pool.now
      c.args.imaged.now.items c.new-items.result c.new-items.ensures;
}

pub stage_here-requires : goal.stage_here-requires
stage_here-requires g c =
    let index = c.loop-place.place-index in
    let here = c.loop-place.invariant.here in
    let is = place_in_turn c.args.places.now c.loop-place.set index c.place-item.result here c.loop-place-test.true
    c.place-item.is in
    record {
      place = place_there c.args.places.now c.loop-place.set c.place-item.result c.requires.places is;
      from = omega (arith, here);
      within = let lt = c.loop-place-test.true in
          let count = c.loop-place.invariant.done.count in
          let each = c.requires.each in
          omega (arith, lt, here, count, each);
      storable = c.requires.stageable.storable c.loop-place.set c.place-item.result is;
      insertable = c.requires.stageable.insertable c.loop-place.set c.place-item.result is;
    }

pub returns-in_err-more : goal.returns-in_err-more
returns-in_err-more g c =
    let index = c.loop-place.place-index in
    let here = c.loop-place.invariant.here in
    let is = place_in_turn c.args.places.now c.loop-place.set index c.place-item.result here c.loop-place-test.true
    c.place-item.is in
    let p = err_from_is_err_and c.from_residual.result c.from_residual.ensures.1 in
    subst (StageAreas g.T.Site.told g.T.Site.disk g.T.Site.faults g.T.Site.holds g.T.Site.keeps g.T.Site.tells_reads
    g.T.Site.bytes_read c.args.places.now (length c.args.places.now) c.args.changes.now c.args.inserts.now
    c.args.site.now c.stage_here.new.site c.args.pool.now c.stage_here.new.pool c.args.imaged.now.items
    c.stage_here.new.imaged.items) (sym (handed_on _ _ _ p.1 p.2))
    (area_refused g.T.Site.told g.T.Site.disk g.T.Site.faults g.T.Site.holds g.T.Site.keeps g.T.Site.tells_reads
    g.T.Site.bytes_read c.args.changes.now c.args.inserts.now c.args.places.now (λ s t. g.met.T.Site.lawful s t) index
    c.loop-place.set c.place-item.result c.args.site.now c.loop-place.site c.stage_here.new.site c.args.pool.now
    c.loop-place.pool c.stage_here.new.pool c.args.imaged.now.items c.loop-place.imaged.items
    c.stage_here.new.imaged.items c.loop-place.items here is c.loop-place.invariant.done _ (length c.args.places.now)
    c.in_err-more.ensures)

pub returns-in_err-append : goal.returns-in_err-append
returns-in_err-append g c =
    let index = c.loop-place.place-index in
    let here = c.loop-place.invariant.here in
    let is = place_in_turn c.args.places.now c.loop-place.set index c.place-item.result here c.loop-place-test.true
    c.place-item.is in
    let p = err_from_is_err_and c.from_residual-in_err-append.result c.from_residual-in_err-append.ensures.1 in
    let staged = area_staged g.T.Site.told g.T.Site.disk g.T.Site.faults g.T.Site.holds g.T.Site.keeps
    g.T.Site.tells_reads g.T.Site.bytes_read c.args.changes.now c.args.inserts.now c.args.places.now
    (λ s t. g.met.T.Site.lawful s t) index c.loop-place.set c.place-item.result c.args.site.now c.loop-place.site
    c.stage_here.new.site c.args.pool.now c.loop-place.pool c.stage_here.new.pool c.args.imaged.now.items
    c.loop-place.imaged.items c.stage_here.new.imaged.items c.loop-place.items here is c.loop-place.invariant.done
    c.in_ok-more.more _ refl c.in_ok-more.ensures in
    subst (StageAreas g.T.Site.told g.T.Site.disk g.T.Site.faults g.T.Site.holds g.T.Site.keeps g.T.Site.tells_reads
    g.T.Site.bytes_read c.args.places.now (length c.args.places.now) c.args.changes.now c.args.inserts.now
    c.args.site.now c.stage_here.new.site c.args.pool.now c.stage_here.new.pool c.args.imaged.now.items
    c.stage_here.new.imaged.items) (sym (handed_on _ _ _ p.1 p.2))
    (no_memory g.T.Site.told g.T.Site.disk g.T.Site.faults g.T.Site.holds g.T.Site.keeps g.T.Site.tells_reads
    g.T.Site.bytes_read c.args.changes.now c.args.inserts.now c.args.places.now (index + 1)
    (length c.args.places.now) c.args.site.now c.stage_here.new.site c.args.pool.now c.stage_here.new.pool
    c.args.imaged.now.items c.stage_here.new.imaged.items _ staged)

pub loop-place-preserved : goal.loop-place-preserved
loop-place-preserved g c =
    let index = c.loop-place.place-index in
    let here = c.loop-place.invariant.here in
    let lt = c.loop-place-test.true in
    let is = place_in_turn c.args.places.now c.loop-place.set index c.place-item.result here lt c.place-item.is in
    record {
      here = omega (arith, here);
      within = omega (arith, lt);
      done = area_staged g.T.Site.told g.T.Site.disk g.T.Site.faults g.T.Site.holds g.T.Site.keeps g.T.Site.tells_reads
          g.T.Site.bytes_read c.args.changes.now c.args.inserts.now c.args.places.now (λ s t. g.met.T.Site.lawful s t)
          index c.loop-place.set c.place-item.result c.args.site.now c.loop-place.site c.stage_here.new.site
          c.args.pool.now c.loop-place.pool c.stage_here.new.pool c.args.imaged.now.items c.loop-place.imaged.items
          c.stage_here.new.imaged.items c.loop-place.items here is c.loop-place.invariant.done c.in_ok-more.more
          c.append.new.self c.in_ok-append.ensures.ok c.in_ok-more.ensures;
    }

pub returns : goal.returns
returns g c =
    let last : c.loop-place.place-index ≡ length c.args.places.now =
    (let w = c.loop-place.invariant.within in let past = c.loop-place-test.false in omega (arith, w, past)) in
    subst (λ n. StageAreas g.T.Site.told g.T.Site.disk g.T.Site.faults g.T.Site.holds g.T.Site.keeps
    g.T.Site.tells_reads g.T.Site.bytes_read c.args.places.now n c.args.changes.now c.args.inserts.now c.args.site.now c.loop-place.site
    c.args.pool.now c.loop-place.pool c.args.imaged.now.items c.loop-place.imaged.items (Ok c.loop-place.items)) last
    c.loop-place.invariant.done
