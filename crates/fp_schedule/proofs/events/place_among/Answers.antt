use Rattle.std.proofs.Common.{◌≡◌, ◌∙◌, ◌∷◌, ℕ, ◌+◌, ◌<◌, ◌≤◌, List, Some, get_or, length, subst, suc, drop, drop-cons, drop_of_length-le, sym, ap, rules}
use Rattle.std.specs.Prelude.{option_map, position}
use Rattle.fp_model.specs.declared.definitions.DedbDef.{DedbDef}
use Rattle.fp_schedule.specs.Schedule.{can_be_purged}
use Rattle.fp_schedule.proofs.AreaLemmas.{found_here, place_among, position_of_all}
use Rattle.fp_schedule.proofs.events.place_among.Goals as goal

pub returns-in-Some-clause-place : goal.returns-in-Some-clause-place
returns-in-Some-clause-place c =
    let dedbs : List DedbDef = c.args.defs.now.dedbs in
    let at : ℕ = c.loop-dedb.dedb-index in
    let same : c.as_slice-dedb-items.result.now ≡ dedbs = c.as_slice-dedb-items.ensures in
    let within : at < length dedbs = subst (λ (ds : List DedbDef). at < length ds) same c.loop-dedb-test.true in
    let cons : drop at dedbs ≡ c.dedb-item.result ∷ drop (suc at) dedbs =
    drop-cons dedbs at c.dedb-item.result within
    ∙ ap (λ (d : DedbDef). d ∷ drop (suc at) dedbs)
    (sym (c.dedb-item.is ∙ ap (λ (ds : List DedbDef). get_or ds at c.dedb-item.result) same)) in
    let found : position (can_be_purged c.args.name.now) c.dedb-item.result.areas ≡ Some c.in-Some.place =
    search rules in
    sym (position_of_all (can_be_purged c.args.name.now) 0 dedbs
    ∙ c.loop-dedb.invariant.rest
    ∙ ap (λ (ds : List DedbDef). option_map (λ k. c.loop-dedb.before + k)
    (place_among (can_be_purged c.args.name.now) ds)) cons
    ∙ found_here (can_be_purged c.args.name.now) c.loop-dedb.before c.in-Some.place c.dedb-item.result
    (drop (suc at) dedbs) found)

pub returns-clause-place : goal.returns-clause-place
returns-clause-place c =
    let dedbs : List DedbDef = c.args.defs.now.dedbs in
    let same : c.as_slice-dedb-items.result.now ≡ dedbs = c.as_slice-dedb-items.ensures in
    let end : length dedbs ≤ c.loop-dedb.dedb-index =
    subst (λ (ds : List DedbDef). length ds ≤ c.loop-dedb.dedb-index) same c.loop-dedb-test.false in
    let none = drop_of_length-le dedbs {i = c.loop-dedb.dedb-index} end in
    sym (position_of_all (can_be_purged c.args.name.now) 0 dedbs
    ∙ c.loop-dedb.invariant.rest
    ∙ ap (λ (ds : List DedbDef). option_map (λ k. c.loop-dedb.before + k)
    (place_among (can_be_purged c.args.name.now) ds)) none)
