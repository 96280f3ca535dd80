use Rattle.std.proofs.Common.{ℕ, List, ◌≡◌, ◌∙◌, ◌+◌, ◌<◌, ◌≤◌, ◌∷◌, ◌++◌, [], ap, sym, subst, take, drop, length, slice_index_or, arith, rules}
use Rattle.std.specs.Prelude.{Err, IfOk, ◌↔◌}
use Rattle.std.proofs.lemmas.List.{drop_all, take_all, take_more}
use Rattle.fld_calls.proofs.SettleLemmas.{here}
use Rattle.fp_model.specs.FitCalls.{IsFitDeferred}
use Rattle.fp_model.specs.Settle.{settle}
use Rattle.msdb_store.specs.Settling.{CanSettle, HasItem, IsAnswer, IsNamed}
use Rattle.msdb_store.specs.inside.Steps.{AtCall}
use Rattle.key_order.proofs.Ascending.{all_at}
use Rattle.msdb_store.proofs.Names.{same_keys}
use Rattle.msdb_store.proofs.Queues.{IsSettling, bad_answer, good_answer, one_more, only_item, staged_of, step_long}
use Rattle.msdb_store.proofs.store.MsdbStore.check.Goals as goal

pub returns-in-len1-clause-keys : goal.returns-in-len1-clause-keys
returns-in-len1-clause-keys c defs can =
    let same = c.as_slice.ensures in
    let is : c.args.deferred.now ≡ c.only-item.result ∷ [] =
    subst (λ calls. calls ≡ c.only-item.result ∷ []) same
    (only_item c.as_slice.result.now c.only-item.result c.in-len1.len_at_least c.in-len1.len_below c.only-item.is) in
    subst (λ calls. CanSettle defs c.args.self.now calls → IfOk c.check_one.result (λ staged. (number : ℕ)
    → (key : List ℕ) → HasItem staged.items number key ↔ IsNamed defs calls number key)) (sym is)
    (c.check_one.ensures.keys defs) can

pub returns-in-Err-clause-answer : goal.returns-in-Err-clause-answer
returns-in-Err-clause-answer c defs can =
    let all = c.args.deferred.now in
    let msdbs = c.args.self.now.msdbs in
    let i = c.loop-at.at in
    let call = c.call-item.result in
    let same = c.as_slice-call-items.ensures in
    let within : i < length all = omega (arith, ap length same) in
    let is : call ≡ slice_index_or all i call = subst (λ calls. call ≡ slice_index_or calls i call) same (search rules)
    in
    let rest : drop i all ≡ call ∷ drop (i + 1) all = here all i call within is in
    let s : IsSettling defs msdbs all (take i all) i (call ∷ drop (i + 1) all) c.loop-at.staging =
    subst (λ r. IsSettling defs msdbs all (take i all) i r c.loop-at.staging) rest (c.loop-at.invariant.1 defs can)
    in
    let at : AtCall defs c.args.self.now c.loop-at.staging s.now call = record {
      of = can.of;
      defined =
          can.defined;
      stages = s.stages;
      fit = subst (IsFitDeferred defs) (sym is)
          (all_at (IsFitDeferred defs) all i call can.fit within);
    } in
    subst (λ why. IsAnswer defs msdbs (Err why) (settle defs msdbs all)) (sym c.at.ensures)
    (bad_answer defs msdbs all (take i all) i call (drop (i + 1) all) c.loop-at.staging c.settle_call.new.staging s
    c.in-Err.fault (c.in-Err.ensures defs s.now at))

pub loop-at-preserved : goal.loop-at-preserved
loop-at-preserved c =
    let all = c.args.deferred.now in
    let msdbs = c.args.self.now.msdbs in
    let i = c.loop-at.at in
    let call = c.call-item.result in
    let same = c.as_slice-call-items.ensures in
    let within : i < length all = omega (arith, ap length same) in
    let is : call ≡ slice_index_or all i call = subst (λ calls. call ≡ slice_index_or calls i call) same (search rules)
    in
    let rest : drop i all ≡ call ∷ drop (i + 1) all = here all i call within is in
    let longer : take (i + 1) all ≡ take i all ++ call ∷ [] =
    take_more all i call within ∙ ap (λ x. take i all ++ x ∷ []) (sym is) in (
      (let can = c.requires.fit.1 in
          let defs = c.requires.fit.0 in
          let s : IsSettling defs msdbs all (take i all) i (call ∷ drop (i + 1) all) c.loop-at.staging =
          subst (λ r. IsSettling defs msdbs all (take i all) i r c.loop-at.staging) rest
          (c.loop-at.invariant.1 defs can) in
          let at : AtCall defs c.args.self.now c.loop-at.staging s.now call = record {
            of = can.of;
            defined =
                can.defined;
            stages = s.stages;
            fit =
                subst (IsFitDeferred defs) (sym is) (all_at (IsFitDeferred defs) all i call can.fit within);
          } in
          let step = c.in-Ok.ensures defs s.now at in
          omega (
            arith,
            c.loop-at.invariant.0,
            step_long defs s.now call c.loop-at.staging c.settle_call.new.staging
                step,
          )),
      λ defs can.
          let s : IsSettling defs msdbs all (take i all) i (call ∷ drop (i + 1) all) c.loop-at.staging =
          subst (λ r. IsSettling defs msdbs all (take i all) i r c.loop-at.staging) rest
          (c.loop-at.invariant.1 defs can) in
          let at : AtCall defs c.args.self.now c.loop-at.staging s.now call = record {
            of = can.of;
            defined =
                can.defined;
            stages = s.stages;
            fit =
                subst (IsFitDeferred defs) (sym is) (all_at (IsFitDeferred defs) all i call can.fit within);
          } in
          subst (λ done. IsSettling defs msdbs all done (i + 1) (drop (i + 1) all) c.settle_call.new.staging)
          (sym longer)
          (one_more defs msdbs all (take i all) i call (drop (i + 1) all) c.loop-at.staging c.settle_call.new.staging s
          (c.in-Ok.ensures defs s.now at)),
    )

pub returns-clause-answer : goal.returns-clause-answer
returns-clause-answer c defs can =
    let all = c.args.deferred.now in
    let msdbs = c.args.self.now.msdbs in
    let i = c.loop-at.at in
    let past : length all ≤ i = omega (arith, ap length c.as_slice-call-items.ensures) in
    let s : IsSettling defs msdbs all all i [] c.loop-at.staging =
    subst (λ done. IsSettling defs msdbs all done i [] c.loop-at.staging) (take_all i all past)
    (subst (λ r. IsSettling defs msdbs all (take i all) i r c.loop-at.staging) (drop_all i all past)
    (c.loop-at.invariant.1 defs can)) in
    good_answer defs msdbs all all i c.loop-at.staging c.in_ok-items.items can.of.each s c.in_ok-items.ensures.in_order
    c.in_ok-items.ensures.items

pub returns-clause-staged : goal.returns-clause-staged
returns-clause-staged c defs can =
    let all = c.args.deferred.now in
    let msdbs = c.args.self.now.msdbs in
    let i = c.loop-at.at in
    let past : length all ≤ i = omega (arith, ap length c.as_slice-call-items.ensures) in
    let s : IsSettling defs msdbs all all i [] c.loop-at.staging =
    subst (λ done. IsSettling defs msdbs all done i [] c.loop-at.staging) (take_all i all past)
    (subst (λ r. IsSettling defs msdbs all (take i all) i r c.loop-at.staging) (drop_all i all past)
    (c.loop-at.invariant.1 defs can)) in
    staged_of defs msdbs s.now c.loop-at.staging c.in_ok-items.items c.count_new-inserts.result s.stages
    c.in_ok-items.ensures.in_order c.in_ok-items.ensures.items (c.count_new-inserts.ensures defs can.of)

pub returns-clause-keys : goal.returns-clause-keys
returns-clause-keys c defs can number key =
    let all = c.args.deferred.now in
    let msdbs = c.args.self.now.msdbs in
    let i = c.loop-at.at in
    let past : length all ≤ i = omega (arith, ap length c.as_slice-call-items.ensures) in
    let s : IsSettling defs msdbs all all i [] c.loop-at.staging =
    subst (λ done. IsSettling defs msdbs all done i [] c.loop-at.staging) (take_all i all past)
    (subst (λ r. IsSettling defs msdbs all (take i all) i r c.loop-at.staging) (drop_all i all past)
    (c.loop-at.invariant.1 defs can)) in
    same_keys defs all c.loop-at.staging c.in_ok-items.items number key c.in_ok-items.ensures.items (s.keys number key)
