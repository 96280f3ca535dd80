use Rattle.std.proofs.Common.{◌∙◌, sym, ap, subst, refl, arith}
use Rattle.std.specs.List.{AllByRecursion}
use Rattle.std.proofs.lemmas.Result.{err_from_is_err_and}
use Rattle.area_states.specs.Changes.{HasRoom, IsInsertable, count_of, with_insert, with_inserts}
use Rattle.area_states.specs.States.{HasState}
use Rattle.area_states.proofs.Changing.{ordered_insert}
use Rattle.area_states.proofs.Rooms.{room_first, room_rest}
use Rattle.area_states.proofs.appending.number_all.Goals as goal
use Rattle.ci_space.proofs.GoingLemmas.{goes_on_joined}
use Rattle.plain_laws.proofs.Lists.{drop_whole}
use Rattle.plain_laws.proofs.Places.{rest_at}
use Rattle.plain_laws.proofs.Results.{same_fault}

pub loop-insert-init : goal.loop-insert-init
loop-insert-init g c = record {
  goes_on = record { tells = λ t. t; same_size = refl; later = omega arith; known = λ first k. k };
  number = refl;
  insertable = c.requires.insertable;
  stands = λ told state has ordered. (state, has, ordered, refl, λ room. room);
}

pub loop-insert-preserved : goal.loop-insert-preserved
loop-insert-preserved g c =
    let place = c.args.place.now in
    let inv = c.loop-insert.invariant in
    let at = rest_at c.args.inserts.now c.loop-insert.insert-index c.insert-item.result c.loop-insert-test.true
    c.insert-item.is in
    record {
      goes_on = goes_on_joined _ _ _ _ _ _ _ inv.goes_on c.number_one.ensures.goes_on;
      number = c.number_one.ensures.number ∙ inv.number;
      insertable = (subst (λ l. AllByRecursion (IsInsertable place) l) at inv.insertable).1;
      stands = λ told state has ordered.
          let was = inv.stands told state has ordered in (
            with_insert place was.0 c.insert-item.result,
            c.in_ok-number_one.ensures.numbered (inv.goes_on.tells told) was.0 was.1 was.2,
            ordered_insert place was.0 c.insert-item.result was.2,
            was.3 ∙ ap (λ l. with_inserts place l was.0) at,
            λ room. room_rest place was.0 c.insert-item.result _
                (subst (λ l. HasRoom place was.0 (count_of place l)) at (was.4 room)),
          );
    }

pub number_one-requires-clause-insertable : goal.number_one-requires-clause-insertable
number_one-requires-clause-insertable g c =
    let at = rest_at c.args.inserts.now c.loop-insert.insert-index c.insert-item.result c.loop-insert-test.true
    c.insert-item.is in
    (subst (λ l. AllByRecursion (IsInsertable c.args.place.now) l) at c.loop-insert.invariant.insertable).0

pub number_one-requires-clause-size : goal.number_one-requires-clause-size
number_one-requires-clause-size g c = c.loop-insert.invariant.goes_on.same_size ∙ c.requires.size

pub returns-in_err-number_one-clause-sound : goal.returns-in_err-number_one-clause-sound
returns-in_err-number_one-clause-sound g c = λ told state has ordered ci e.
    let f = err_from_is_err_and c.from_residual.result c.from_residual.ensures.1 in
    let was = c.loop-insert.invariant.stands told state has ordered in
    c.in_err-number_one.ensures.sound (c.loop-insert.invariant.goes_on.tells told) was.0 was.1 ci
    (same_fault _ _ _ _ f.1 f.2 e)

pub returns-in_err-number_one-clause-room : goal.returns-in_err-number_one-clause-room
returns-in_err-number_one-clause-room g c = λ told state has ordered room begin end n e.
    let place = c.args.place.now in
    let f = err_from_is_err_and c.from_residual.result c.from_residual.ensures.1 in
    let at = rest_at c.args.inserts.now c.loop-insert.insert-index c.insert-item.result c.loop-insert-test.true
    c.insert-item.is in
    let was = c.loop-insert.invariant.stands told state has ordered in
    let left = subst (λ l. HasRoom place was.0 (count_of place l)) at (was.4 room) in
    c.in_err-number_one.ensures.room (c.loop-insert.invariant.goes_on.tells told) was.0 was.1
    (λ is. room_first place was.0 c.insert-item.result _ left is) begin end n (same_fault _ _ _ _ f.1 f.2 e)

pub returns-clause-numbered : goal.returns-clause-numbered
returns-clause-numbered g c = λ told state has ordered.
    let place = c.args.place.now in
    let was = c.loop-insert.invariant.stands told state has ordered in
    let none = drop_whole c.args.inserts.now c.loop-insert.insert-index (omega arith) in
    subst (λ s. HasState place (g.I.Intervals.intervals c.loop-insert.i) s)
    (sym (was.3 ∙ ap (λ l. with_inserts place l was.0) none)) was.1
