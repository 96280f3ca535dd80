use Rattle.std.proofs.Common.{◌≡◌, ◌∙◌, ◌∷◌, [], ◌+◌, ◌++◌, length, take, sym, subst, rules}
use Rattle.std.specs.List.{AllZip}
use Rattle.std.proofs.lemmas.Result.{err_from_is_err_and}
use Rattle.area_states.specs.States.{IsReadAs}
use Rattle.area_states.proofs.Changing.{roots_stay}
use Rattle.area_reading.proofs.Readable.{all_taken, ends_stay, one_taken, others_left, this_one, unreadable_stays}
use Rattle.area_reading.proofs.lists.with_lists.Goals as goal
use Rattle.ci_space.proofs.GoingLemmas.{goes_on_joined}
use Rattle.plain_laws.proofs.Lists.{nil_by_length}
use Rattle.plain_laws.proofs.Results.{same_fault}
use Rattle.plain_laws.proofs.Alls.{each_push}

pub with_list-requires-clause-size : goal.with_list-requires-clause-size
with_list-requires-clause-size g c = c.loop-root.invariant.goes_on.same_size ∙ c.requires.size

pub loop-root-preserved : goal.loop-root-preserved
loop-root-preserved g c =
    let place = c.args.place.now in
    let old = g.I.Intervals.intervals c.args.i.now in
    let it = c.loop-root.invariant in
    let n = c.loop-root.number in
    let rest = c.next.new.self.rest.items in
    let next : c.loop-root.root-iterator.rest.items ≡ c.in-Some.root ∷ rest = search rules in
    let left = it.left ∙ next in
    let added = c.in_ok-push.ensures.ok in
    record {
      left = others_left c.args.kept rest n c.in-Some.root left;
      goes_on = goes_on_joined _ _ _ _ _ _ _ it.goes_on c.with_list.ensures.goes_on;
      same = λ told. c.with_list.ensures.same (it.goes_on.tells told) ∙ it.same told;
      count = c.with_list.ensures.number ∙ it.count;
      read = λ told ends.
          let told1 = it.goes_on.tells told in
          let ends1 = ends_stay old (g.I.Intervals.intervals c.loop-root.i) c.args.ends (it.same told) ends in
          let one = subst (λ area. IsReadAs place area c.in-Some.root c.in_ok-one.one) (it.same told)
          (c.in_ok-one.ensures.read told1 ends1) in
          subst (λ ys. AllZip (IsReadAs place old) (take (n + 1) c.args.kept) ys) (sym added)
          (subst (λ xs. AllZip (IsReadAs place old) xs (c.loop-root.roots ++ c.in_ok-one.one ∷ []))
          (sym (one_taken c.args.kept rest n c.in-Some.root left))
          (each_push (IsReadAs place old) (take n c.args.kept) c.loop-root.roots c.in-Some.root c.in_ok-one.one
          (it.read told ends) one));
    }

pub returns-in_err-one-clause-damaged : goal.returns-in_err-one-clause-damaged
returns-in_err-one-clause-damaged g c = λ told ends has ci e.
    let place = c.args.place.now in
    let old = g.I.Intervals.intervals c.args.i.now in
    let mid = g.I.Intervals.intervals c.loop-root.i in
    let f = err_from_is_err_and c.from_residual.result c.from_residual.ensures.1 in
    let it = c.loop-root.invariant in
    let n = c.loop-root.number in
    let rest = c.next.new.self.rest.items in
    let next : c.loop-root.root-iterator.rest.items ≡ c.in-Some.root ∷ rest = search rules in
    let ends1 = ends_stay old mid c.args.ends (it.same told) ends in
    let has1 = roots_stay place old mid c.args.anchor c.args.kept (it.same told) has in
    unreadable_stays place old mid c.args.anchor ci (it.same told)
    (c.in_err-one.ensures.damaged (it.goes_on.tells told) ends1 c.args.kept has1
    (this_one c.args.kept rest n c.in-Some.root (it.left ∙ next)) ci (same_fault _ _ _ _ f.1 f.2 e))

pub returns-clause-read : goal.returns-clause-read
returns-clause-read g c = λ told ends.
    let place = c.args.place.now in
    let it = c.loop-root.invariant in
    let len : length c.loop-root.root-iterator.rest.items ≡ 0 = search rules in
    let none = nil_by_length c.loop-root.root-iterator.rest.items len in
    subst (λ xs. AllZip (IsReadAs place (g.I.Intervals.intervals c.args.i.now)) xs c.loop-root.roots)
    (all_taken c.args.kept c.loop-root.number (it.left ∙ none)) (it.read told ends)
