use Rattle.std.proofs.Common.{◌≡◌, ◌≢◌, ◌+◌, length, ◌∙◌, refl, sym, ap, subst, arith, rules}
use Rattle.std.specs.Prelude.{slice_index}
use Rattle.fp_model.specs.Groups.{entries_of}
use Rattle.fp_restart.specs.Replayed.{IsFirstBadAt}
use Rattle.fp_restart.specs.Restarts.{IsBadAt}
use Rattle.log_groups.specs.Reads.{HasGroup}
use Rattle.fp_restart.proofs.Groups.{read_at_most, read_inside}
use Rattle.fp_restart.proofs.Looking.{Looks, looks_none, looks_on}
use Rattle.fp_restart.proofs.NumbersBehind.{some_more, some_none, some_of}
use Rattle.fp_restart.specs.inside.Replayed.{HasNumbersOfSome, IsFollowed, IsTaken}
use Rattle.fp_restart.proofs.Replays.{ended_at, followed_more, followed_none, way_of}
use Rattle.fp_restart.proofs.reading.replay.Given as given
use Rattle.fp_restart.proofs.reading.replay.Goals as goal

pub loop-numbers-init : goal.loop-numbers-init
loop-numbers-init g c =
    let gate = c.gate-at.ensures in
    let defs = c.args.defs.now in
    let bytes = (g.T.Site.disk c.args.site.now).contents 0 in
    let store = c.args.store.now.msdbs in
    record {
      of = c.requires.of;
      within = let le = c.requires.gate in omega (arith, gate);
      few = omega arith;
      log = refl;
      followed = λ t.
          let numbers = c.in_ok-numbers.numbers in
          let format : numbers.format ≡ c.args.log.now.front_format = search rules in
          subst
          (λ at. IsFollowed defs bytes (way_of c.args.log.now.gate c.args.log.now.front_format at 0 numbers)
          c.new-begun.result store store)
          (sym gate)
          (subst (λ f. IsFollowed defs bytes (way_of c.args.log.now.gate f c.args.log.now.gate 0 numbers)
          c.new-begun.result store store) format
          (followed_none defs bytes c.args.log.now.gate c.new-begun.result numbers store c.new-begun.ensures
          (search rules)));
      first_format = search rules;
      no_number = search rules;
      some = some_none c.in_ok-numbers.numbers;
      counted = refl;
      only_log = λ set told. (told, λ other. refl);
      read = λ told. omega (arith, gate);
      looks = looks_none g.T.Site.told g.T.Site.disk g.T.Site.faults g.T.Site.holds g.T.Site.keeps c.args.site.now;
    }

pub take_group-requires : goal.take_group-requires
take_group-requires g c = c.loop-numbers.invariant.of

pub returns-in_err-taken-clause-damaged : goal.returns-in_err-taken-clause-damaged
returns-in_err-taken-clause-damaged g c set at t is =
    let it = c.loop-numbers.invariant in
    let defs = c.args.defs.now in
    let bytes = (g.T.Site.disk c.args.site.now).contents 0 in
    let same = ap (λ f. f 0) (it.looks.stays t).contents in
    let so_far = it.followed t in
    let earlier = entries_of so_far.replayed.groups in
    let bad = c.take_group.ensures.damaged earlier so_far.intervals so_far.replayed.holds.fit set at
    (it.looks.site.still_told t)
    (search rules) in
    let here : IsBadAt defs bytes earlier c.loop-numbers.at =
    subst (λ l. IsBadAt defs l earlier c.loop-numbers.at) same bad.2 in (
      bad.0,
      subst (λ n. IsFirstBadAt defs bytes c.args.log.now.gate n) (sym bad.1)
          (record { groups = so_far.replayed.groups; holds = so_far.replayed.holds; bad = here }),
    )

pub returns-in_err-taken-clause-cause : goal.returns-in_err-taken-clause-cause
returns-in_err-taken-clause-cause g c is =
    let later = c.loop-numbers.invariant.looks.site.later in
    let rose = c.take_group.ensures.cause (search rules) in
    grind (arith, later, rose)

-- what the loop and one call more leave of the site
looked : (g : given.Over) (c : goal.After-drop-begun-in_err-taken g)
    → Looks g.T.Site.told g.T.Site.disk g.T.Site.faults g.T.Site.holds g.T.Site.keeps c.args.site.now
    c.take_group.new.site
looked g c =
    let call = c.take_group.ensures in
    looks_on g.T.Site.told g.T.Site.disk g.T.Site.faults g.T.Site.holds g.T.Site.keeps g.met.T.Site.lawful _ _ _
    c.loop-numbers.invariant.looks call.stays call.site

pub returns-in_err-taken-clause-stays : goal.returns-in_err-taken-clause-stays
returns-in_err-taken-clause-stays g c = (looked g c).stays

pub returns-in_default-clause-replayed : goal.returns-in_default-clause-replayed
returns-in_default-clause-replayed g c t =
    let it = c.loop-numbers.invariant in
    let bytes = (g.T.Site.disk c.args.site.now).contents 0 in
    let kept : c.take_group.new.store ≡ c.loop-numbers.store = search rules in
    let none : c.take_group.new.numbers ≡ c.loop-numbers.numbers = search rules in
    let first_format : c.end_at.new.self.front_format ≡ c.args.log.now.front_format =
    c.end_at.ensures.front_format ∙ ap (λ l. l.front_format) (c.take_group.ensures.log ∙ it.log) in
    ended_at c.args.defs.now bytes c.args.log.now.gate c.args.log.now.front_format c.loop-numbers.at
    c.loop-numbers.count
    c.loop-numbers.numbers c.take_group.new.numbers c.end_at.new.self c.args.store.now.msdbs c.loop-numbers.store
    c.take_group.new.store (it.followed t).replayed c.end_at.ensures.gate c.end_at.ensures.sealed first_format
    c.end_at.ensures.format none kept

pub returns-in_default-clause-closed : goal.returns-in_default-clause-closed
returns-in_default-clause-closed g c t =
    let it = c.loop-numbers.invariant in
    let same = ap (λ f. f 0) (it.looks.stays t).contents in
    let t1 = it.looks.site.still_told t in
    let closed : slice_index ((g.T.Site.disk c.loop-numbers.site).contents 0) c.loop-numbers.at ≢ 1 = search rules in
    subst (λ n. slice_index ((g.T.Site.disk c.args.site.now).contents 0) n ≢ 1) (sym c.end_at.ensures.gate)
    (subst (λ l. slice_index l c.loop-numbers.at ≢ 1) same closed)

pub returns-in_default-clause-stays : goal.returns-in_default-clause-stays
returns-in_default-clause-stays g c =
    let call = c.take_group.ensures in
    (looks_on g.T.Site.told g.T.Site.disk g.T.Site.faults g.T.Site.holds g.T.Site.keeps g.met.T.Site.lawful _ _ _
    c.loop-numbers.invariant.looks call.stays call.site).stays

pub loop-numbers-preserved : goal.loop-numbers-preserved
loop-numbers-preserved g c =
    let it = c.loop-numbers.invariant in
    let call = c.take_group.ensures in
    let bytes = (g.T.Site.disk c.args.site.now).contents 0 in
    record {
      of = search rules;
      within = search rules;
      few = let few = it.few in search (rules, few);
      log = call.log ∙ it.log;
      followed = λ t.
          let so_far = it.followed t in
          let earlier = entries_of so_far.replayed.groups in
          let same = ap (λ f. f 0) (it.looks.stays t).contents in
          let t1 = it.looks.site.still_told t in
          let defs = c.args.defs.now in
          let taken : IsTaken defs ((g.T.Site.disk c.loop-numbers.site).contents 0) earlier c.loop-numbers.at
          c.in-Some.taken.next c.in-Some.taken.count c.take_group.new.begun c.loop-numbers.numbers
          c.take_group.new.numbers c.loop-numbers.store.msdbs c.take_group.new.store.msdbs =
          rw c.in-Some.is at (c.in_ok-taken.ensures.taken earlier so_far.intervals so_far.replayed.holds.fit t1) in
          followed_more defs bytes c.args.log.now.gate c.args.log.now.front_format c.loop-numbers.at
          c.in-Some.taken.next c.loop-numbers.count c.in-Some.taken.count c.loop-numbers.begun c.take_group.new.begun
          c.loop-numbers.numbers c.take_group.new.numbers c.args.store.now.msdbs c.loop-numbers.store.msdbs
          c.take_group.new.store.msdbs so_far
          (subst (λ l. IsTaken defs l earlier c.loop-numbers.at c.in-Some.taken.next c.in-Some.taken.count
          c.take_group.new.begun c.loop-numbers.numbers c.take_group.new.numbers c.loop-numbers.store.msdbs
          c.take_group.new.store.msdbs) same taken);
      first_format = it.first_format;
      no_number = it.no_number;
      some = some_more c.loop-numbers.count c.in-Some.taken.count _ c.loop-numbers.numbers c.take_group.new.numbers
          it.some
          (rw c.in-Some.is at c.in_ok-taken.ensures.some);
      counted = c.in_ok-taken.ensures.stayed (λ is. cc) ∙ it.counted;
      only_log = λ set told.
          let here = call.only_log set told in
          let before = it.only_log set here.0 in
          (before.0, λ other. here.1 other ∙ before.1 other);
      read = λ told.
          let so_far = it.read (call.only_log 0 told).0 in
          let here : g.T.Site.bytes_read c.take_group.new.site 0 + c.loop-numbers.at ≡ g.T.Site.bytes_read
          c.loop-numbers.site 0 + c.in-Some.taken.next = rw c.in-Some.is at (c.in_ok-taken.ensures.count told) in
          omega (arith, so_far, here);
      looks = looks_on g.T.Site.told g.T.Site.disk g.T.Site.faults g.T.Site.holds g.T.Site.keeps g.met.T.Site.lawful _ _
          _ it.looks call.stays call.site;
    }

-- ---- faults, and what is read

pub returns-in_err-taken-clause-stayed : goal.returns-in_err-taken-clause-stayed
returns-in_err-taken-clause-stayed g c other = c.take_group.ensures.stayed (λ is. other (search rules)) ∙
    c.loop-numbers.invariant.counted

pub returns-in_default-clause-stayed : goal.returns-in_default-clause-stayed
returns-in_default-clause-stayed g c other = c.in_ok-taken.ensures.stayed (λ is. cc) ∙ c.loop-numbers.invariant.counted

pub returns-in_err-taken-clause-only_log : goal.returns-in_err-taken-clause-only_log
returns-in_err-taken-clause-only_log g c set told =
    let here = c.take_group.ensures.only_log set told in
    let before = c.loop-numbers.invariant.only_log set here.0 in
    (before.0, λ other. here.1 other ∙ before.1 other)

pub returns-in_default-clause-only_log : goal.returns-in_default-clause-only_log
returns-in_default-clause-only_log g c set told =
    let here = c.take_group.ensures.only_log set told in
    let before = c.loop-numbers.invariant.only_log set here.0 in
    (before.0, λ other. here.1 other ∙ before.1 other)

pub returns-in_err-taken-clause-read : goal.returns-in_err-taken-clause-read
returns-in_err-taken-clause-read g c groups gate t whole told =
    let it = c.loop-numbers.invariant in
    let call = c.take_group.ensures in
    let t1 = it.looks.site.still_told t in
    let bytes = (g.T.Site.disk c.args.site.now).contents 0 in
    let same = ap (λ f. f 0) (it.looks.stays t).contents in
    let so_far = (it.followed t).replayed in
    read_at_most bytes c.args.log.now.gate c.loop-numbers.at so_far.groups (g.T.Site.bytes_read c.args.site.now 0)
    (g.T.Site.bytes_read c.loop-numbers.site 0) (g.T.Site.bytes_read c.take_group.new.site 0) so_far.holds.holds
    (it.read (call.only_log 0 told).0) gate groups whole
    (λ entries next has. call.most entries next t1
    (subst (λ l. HasGroup l c.loop-numbers.at entries next) (sym same) has) told)
    (λ closed. call.one t1 (λ is. closed (ap (λ l. slice_index l c.loop-numbers.at) (sym same) ∙ is)) told)

pub returns-in_err-taken-clause-once : goal.returns-in_err-taken-clause-once
returns-in_err-taken-clause-once g c t told =
    let it = c.loop-numbers.invariant in
    let call = c.take_group.ensures in
    let bytes = (g.T.Site.disk c.args.site.now).contents 0 in
    let same = ap (λ f. f 0) (it.looks.stays t).contents in
    let so_far = (it.followed t).replayed in
    read_inside bytes c.args.log.now.gate c.loop-numbers.at so_far.groups (g.T.Site.bytes_read c.args.site.now 0)
    (g.T.Site.bytes_read c.loop-numbers.site 0) (g.T.Site.bytes_read c.take_group.new.site 0) so_far.holds.holds
    (it.read (call.only_log 0 told).0)
    (let few = call.inside (it.looks.site.still_told t) told in omega (arith, few, ap length same))

pub returns-in_default-clause-read : goal.returns-in_default-clause-read
returns-in_default-clause-read g c groups gate t whole told =
    let it = c.loop-numbers.invariant in
    let call = c.take_group.ensures in
    let t1 = it.looks.site.still_told t in
    let bytes = (g.T.Site.disk c.args.site.now).contents 0 in
    let same = ap (λ f. f 0) (it.looks.stays t).contents in
    let so_far = (it.followed t).replayed in
    read_at_most bytes c.args.log.now.gate c.loop-numbers.at so_far.groups (g.T.Site.bytes_read c.args.site.now 0)
    (g.T.Site.bytes_read c.loop-numbers.site 0) (g.T.Site.bytes_read c.take_group.new.site 0) so_far.holds.holds
    (it.read (call.only_log 0 told).0) gate groups whole
    (λ entries next has. call.most entries next t1
    (subst (λ l. HasGroup l c.loop-numbers.at entries next) (sym same) has) told)
    (λ closed. call.one t1 (λ is. closed (ap (λ l. slice_index l c.loop-numbers.at) (sym same) ∙ is)) told)

pub returns-in_default-clause-once : goal.returns-in_default-clause-once
returns-in_default-clause-once g c t told =
    let it = c.loop-numbers.invariant in
    let call = c.take_group.ensures in
    let bytes = (g.T.Site.disk c.args.site.now).contents 0 in
    let same = ap (λ f. f 0) (it.looks.stays t).contents in
    let so_far = (it.followed t).replayed in
    read_inside bytes c.args.log.now.gate c.loop-numbers.at so_far.groups (g.T.Site.bytes_read c.args.site.now 0)
    (g.T.Site.bytes_read c.loop-numbers.site 0) (g.T.Site.bytes_read c.take_group.new.site 0) so_far.holds.holds
    (it.read (call.only_log 0 told).0)
    (let few = call.inside (it.looks.site.still_told t) told in omega (arith, few, ap length same))

pub returns-in_default-clause-exact : goal.returns-in_default-clause-exact
returns-in_default-clause-exact g c told =
    let so_far = c.loop-numbers.invariant.read (c.take_group.ensures.only_log 0 told).0 in
    let one : g.T.Site.bytes_read c.take_group.new.site 0 ≡ g.T.Site.bytes_read c.loop-numbers.site 0 + 1 =
    search rules in
    omega (arith, so_far, one, c.end_at.ensures.gate)

pub returns-in_default-clause-some : goal.returns-in_default-clause-some
returns-in_default-clause-some g c =
    let it = c.loop-numbers.invariant in
    let none : c.take_group.new.numbers ≡ c.loop-numbers.numbers = search rules in
    let front_format : c.end_at.new.self.front_format ≡ c.args.log.now.front_format =
    c.end_at.ensures.front_format ∙ ap (λ l. l.front_format) (c.take_group.ensures.log ∙ it.log) in
    some_of c.loop-numbers.count _ c.take_group.new.numbers c.end_at.new.self
    (subst (HasNumbersOfSome c.loop-numbers.count _) (sym none) it.some) it.no_number
    (front_format ∙ sym it.first_format) c.end_at.ensures.sealed c.end_at.ensures.format
