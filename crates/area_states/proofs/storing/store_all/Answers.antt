use Rattle.std.proofs.Common.{◌∙◌, sym, ap, subst, refl, arith}
use Rattle.std.specs.List.{AllByRecursion}
use Rattle.std.proofs.lemmas.Result.{err_from_is_err_and}
use Rattle.area_states.specs.Changes.{AllKeepLists, ChangesOne, IsStorable, KeepsLists, OneChanges, with_change, with_changes}
use Rattle.area_states.specs.States.{HasState}
use Rattle.area_states.proofs.Alone.{none_changes, only_one}
use Rattle.area_states.proofs.storing.store_all.Goals as goal
use Rattle.ci_space.proofs.GoingLemmas.{goes_on_joined}
use Rattle.plain_laws.proofs.Lists.{drop_whole}
use Rattle.plain_laws.proofs.Places.{rest_at}
use Rattle.plain_laws.proofs.Results.{same_fault}

pub loop-change-init : goal.loop-change-init
loop-change-init g c = record {
  goes_on = record { tells = λ t. t; same_size = refl; later = omega arith; known = λ first k. k };
  number = omega arith;
  storable = c.requires.roots;
  stands = λ told state has own. (state, has, own, refl);
  none_yet = λ told e. refl;
  alone = λ told state has change is keeps ordered one. none_changes _;
}

pub loop-change-preserved : goal.loop-change-preserved
loop-change-preserved g c =
    let place = c.args.place.now in
    let inv = c.loop-change.invariant in
    let at = rest_at c.args.changes.now c.loop-change.change-index c.change-item.result c.loop-change-test.true
    c.change-item.is in
    record {
      goes_on = goes_on_joined _ _ _ _ _ _ _ inv.goes_on c.store_one.ensures.goes_on;
      number = omega (arith, inv.number, c.store_one.ensures.number);
      storable = (subst (λ l. AllByRecursion (IsStorable place) l) at inv.storable).1;
      stands = λ told state has own.
          let was = inv.stands told state has own in
          let keeps = subst (λ l. AllKeepLists place was.0 l) at was.2 in (
            with_change place was.0 c.change-item.result,
            c.in_ok-store_one.ensures.stored (inv.goes_on.tells told) was.0 was.1 keeps.0,
            keeps.1,
            was.3 ∙ ap (λ l. with_changes place l was.0) at,
          );
      none_yet = λ told e. absurd (omega (arith, e));
      alone = λ told state has change is keeps ordered one.
          let first = only_one c.args.changes.now change c.loop-change.change-index c.change-item.result is
          c.loop-change-test.true c.change-item.is in
          let same = inv.none_yet told first.0 in
          let has2 = subst (λ area. HasState place area state) (sym same) has in
          subst (λ area. OneChanges area (g.I.Intervals.intervals c.store_one.new.i)) same
          (c.in_ok-store_one.ensures.alone (inv.goes_on.tells told) state has2
          (subst (KeepsLists place state) (sym first.1) keeps) ordered
          (subst (ChangesOne place state) (sym first.1) one));
    }

pub store_one-requires-clause-roots : goal.store_one-requires-clause-roots
store_one-requires-clause-roots g c =
    let at = rest_at c.args.changes.now c.loop-change.change-index c.change-item.result c.loop-change-test.true
    c.change-item.is in
    (subst (λ l. AllByRecursion (IsStorable c.args.place.now) l) at c.loop-change.invariant.storable).0

pub store_one-requires-clause-size : goal.store_one-requires-clause-size
store_one-requires-clause-size g c = c.loop-change.invariant.goes_on.same_size ∙ c.requires.size

pub returns-in_err-store_one-clause-sound : goal.returns-in_err-store_one-clause-sound
returns-in_err-store_one-clause-sound g c = λ told state has own ci e.
    let f = err_from_is_err_and c.from_residual.result c.from_residual.ensures.1 in
    let was = c.loop-change.invariant.stands told state has own in
    c.in_err-store_one.ensures.sound (c.loop-change.invariant.goes_on.tells told) was.0 was.1 ci
    (same_fault _ _ _ _ f.1 f.2 e)

pub returns-clause-stored : goal.returns-clause-stored
returns-clause-stored g c = λ told state has own.
    let place = c.args.place.now in
    let was = c.loop-change.invariant.stands told state has own in
    let none = drop_whole c.args.changes.now c.loop-change.change-index (omega arith) in
    subst (λ s. HasState place (g.I.Intervals.intervals c.loop-change.i) s)
    (sym (was.3 ∙ ap (λ l. with_changes place l was.0) none)) was.1
