use Rattle.std.proofs.Common.{◌≡◌, ◌∙◌, sym, subst}
use Rattle.std.specs.List.{AllZip}
use Rattle.std.proofs.lemmas.Result.{err_from_is_err_and}
use Rattle.anchor_elements.specs.Elements.{AreTypes}
use Rattle.root_anchor.specs.Damage.{ChainFails}
use Rattle.area_states.specs.States.{HasAnchor, IsReadAs}
use Rattle.area_states.proofs.Changing.{roots_stay}
use Rattle.area_reading.specs.Damage.{in_chain, in_part}
use Rattle.area_reading.proofs.Readable.{ends_stay, unreadable_stays}
use Rattle.area_reading.proofs.reading.read_whole.Goals as goal
use Rattle.plain_laws.proofs.Results.{if_ok_with, same_fault}

pub load-requires-clause-types : goal.load-requires-clause-types
load-requires-clause-types g c =
    subst (λ n. AreTypes n c.args.place.now.segments) (sym (c.ends_of.ensures.goes_on.same_size ∙ c.requires.size))
    c.requires.place.types

pub with_lists-requires-clause-size : goal.with_lists-requires-clause-size
with_lists-requires-clause-size g c =
    c.load.ensures.goes_on.same_size ∙ c.ends_of.ensures.goes_on.same_size ∙ c.requires.size

pub returns-in_err-ends-clause-damaged : goal.returns-in_err-ends-clause-damaged
returns-in_err-ends-clause-damaged g c = λ told ci e.
    let f = err_from_is_err_and c.from_residual.result c.from_residual.ensures.1 in
    in_part (c.in_err-ends.ensures.damaged told ci (same_fault _ _ _ _ f.1 f.2 e))

pub returns-in_err-kept-clause-damaged : goal.returns-in_err-kept-clause-damaged
returns-in_err-kept-clause-damaged g c = λ told ci e.
    let f = err_from_is_err_and c.from_residual-in_err-kept.result c.from_residual-in_err-kept.ensures.1 in
    let told1 = c.ends_of.ensures.goes_on.tells told in
    in_chain (subst (λ area. ChainFails c.args.place.now.shape c.args.place.now.segments area c.args.anchor ci)
    (c.ends_of.ensures.same told) (c.in_err-kept.ensures.damaged told1 ci (same_fault _ _ _ _ f.1 f.2 e)))

pub returns-clause-roots : goal.returns-clause-roots
returns-clause-roots g c = λ told.
    let place = c.args.place.now in
    let old = g.I.Intervals.intervals c.args.i.now in
    let told1 = c.ends_of.ensures.goes_on.tells told in
    let told2 = c.load.ensures.goes_on.tells told1 in
    let same1 = c.ends_of.ensures.same told in
    let same2 = c.load.ensures.same told1 ∙ same1 in
    let ends = ends_stay old (g.I.Intervals.intervals c.load.new.i) c.in_ok-ends.ends same2
    (c.in_ok-ends.ensures.ends told) in
    if_ok_with c.with_lists.result
    (AllZip (IsReadAs place (g.I.Intervals.intervals c.load.new.i)) c.in_ok-kept.kept)
    (HasAnchor place old c.args.anchor) (c.with_lists.ensures.read told2 ends)
    (λ roots lists. record {
      kept = c.in_ok-kept.kept;
      has = roots_stay place (g.I.Intervals.intervals c.ends_of.new.i) old c.args.anchor c.in_ok-kept.kept (sym same1)
          (c.in_ok-kept.ensures.roots told1);
      lists = subst (λ area. AllZip (IsReadAs place area) c.in_ok-kept.kept roots) same2 lists;
    })

pub returns-clause-damaged : goal.returns-clause-damaged
returns-clause-damaged g c = λ told ci e.
    let place = c.args.place.now in
    let old = g.I.Intervals.intervals c.args.i.now in
    let told1 = c.ends_of.ensures.goes_on.tells told in
    let told2 = c.load.ensures.goes_on.tells told1 in
    let same1 = c.ends_of.ensures.same told in
    let same2 = c.load.ensures.same told1 ∙ same1 in
    let ends = ends_stay old (g.I.Intervals.intervals c.load.new.i) c.in_ok-ends.ends same2
    (c.in_ok-ends.ensures.ends told) in
    let has = roots_stay place (g.I.Intervals.intervals c.ends_of.new.i) (g.I.Intervals.intervals c.load.new.i)
    c.args.anchor c.in_ok-kept.kept (c.load.ensures.same told1) (c.in_ok-kept.ensures.roots told1) in
    unreadable_stays place old (g.I.Intervals.intervals c.load.new.i) c.args.anchor ci same2
    (c.with_lists.ensures.damaged told2 ends has ci e)
