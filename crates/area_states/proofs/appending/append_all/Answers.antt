use Rattle.std.proofs.Common.{◌≡◌, ◌∙◌, sym, subst, true, arith}
use Rattle.std.proofs.lemmas.Result.{err_from_is_err_and}
use Rattle.fp_model.specs.Commit.{is_too_full}
use Rattle.area_states.specs.Changes.{HasRoom, ends_of}
use Rattle.area_states.specs.States.{HasState}
use Rattle.area_states.proofs.Changing.{none_inserted, state_stays}
use Rattle.area_states.proofs.appending.append_all.Goals as goal
use Rattle.plain_laws.proofs.Results.{same_fault}

pub returns-then-n-eq0-clause-numbered : goal.returns-then-n-eq0-clause-numbered
returns-then-n-eq0-clause-numbered g c = λ told state has ordered.
    let place = c.args.place.now in
    let n = c.count_of-n.ensures in
    subst (λ s. HasState place (g.I.Intervals.intervals c.args.i.now) s)
    (sym (none_inserted place c.args.inserts.now state (omega (arith, n)))) has

pub returns-in_err-test_room-clause-full : goal.returns-in_err-test_room-clause-full
returns-in_err-test_room-clause-full g c = λ told state has ordered begin end n e.
    let f = err_from_is_err_and c.from_residual.result c.from_residual.ensures.1 in
    let full = c.in_err-test_room.ensures.full told state has begin end n (same_fault _ _ _ _ f.1 f.2 e) in
    let m = full.2 in
    record {
      is_begin = full.0;
      is_end = full.1;
      is_count = full.2 ∙ c.count_of-n.ensures;
      some = omega (arith, m);
      too_full = subst (λ k. is_too_full c.args.place.now.capacity (ends_of state) k ≡ true) (sym full.2) full.3;
    }

pub returns-in_err-test_room-clause-sound : goal.returns-in_err-test_room-clause-sound
returns-in_err-test_room-clause-sound g c = λ told state has ordered ci e.
    let f = err_from_is_err_and c.from_residual.result c.from_residual.ensures.1 in
    c.in_err-test_room.ensures.sound told state has ci (same_fault _ _ _ _ f.1 f.2 e)

pub returns-clause-full : goal.returns-clause-full
returns-clause-full g c = λ told state has ordered begin end n e.
    let place = c.args.place.now in
    let now = state_stays place _ _ state (c.test_room.ensures.same told) has in
    let room = subst (λ k. HasRoom place state k) c.count_of-n.ensures (c.in_ok-test_room.ensures.room told state has) in
    absurd (c.number_all.ensures.room (c.test_room.ensures.goes_on.tells told) state now ordered room begin end n e)

pub returns-clause-unchanged : goal.returns-clause-unchanged
returns-clause-unchanged g c = λ told state has ordered begin end n e.
    let place = c.args.place.now in
    let now = state_stays place _ _ state (c.test_room.ensures.same told) has in
    let room = subst (λ k. HasRoom place state k) c.count_of-n.ensures (c.in_ok-test_room.ensures.room told state has) in
    absurd (c.number_all.ensures.room (c.test_room.ensures.goes_on.tells told) state now ordered room begin end n e)

pub returns-clause-sound : goal.returns-clause-sound
returns-clause-sound g c = λ told state has ordered ci e.
    let now = state_stays c.args.place.now _ _ state (c.test_room.ensures.same told) has in
    c.number_all.ensures.sound (c.test_room.ensures.goes_on.tells told) state now ordered ci e
