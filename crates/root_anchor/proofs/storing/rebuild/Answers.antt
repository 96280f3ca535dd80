use Rattle.std.proofs.Common.{All, [], sym, subst}
use Rattle.std.proofs.lemmas.Result.{err_from_is_err_and}
use Rattle.root_anchor.specs.inside.Rebuilding.{IsDirect}
use Rattle.root_anchor.proofs.ComingLemmas.{fault-later}
use Rattle.root_anchor.proofs.Directs.{roots-direct}
use Rattle.root_anchor.proofs.Rebuilt.{givable, kept-chain, place-stays, plan-stays, rebuilds}
use Rattle.root_anchor.proofs.Takings.{taken-built, taken-planned}
use Rattle.root_anchor.proofs.TypeLemmas.{root-direct}
use Rattle.root_anchor.proofs.storing.rebuild.Goals as goal
use Rattle.plain_laws.proofs.Results.{on_ok_map, same_fault}

pub take_places-requires-clause-direct : goal.take_places-requires-clause-direct
take_places-requires-clause-direct g c = subst (λ kinds. All (IsDirect c.args.home.now.segments.now) kinds)
    (sym c.requires.kinds) (roots-direct c.args.home.now.segments.now
    (root-direct _ c.args.home.now.segments.now c.requires.types) c.args.roots.now)

-- ---- the elements that are given back

pub returns-in_err-give_back_all-clause-sound : goal.returns-in_err-give_back_all-clause-sound
returns-in_err-give_back_all-clause-sound g c = λ told o r ci e.
    let f = err_from_is_err_and c.from_residual.result c.from_residual.ensures.1 in
    c.in_err-give_back_all.ensures.sound told o
    (givable _ _ _ _ c.args.plan.now.items c.args.rest.now c.args.roots.now r) ci (same_fault _ _ _ _ f.1 f.2 e)

pub returns-in_err-give_back_all-clause-lists : goal.returns-in_err-give_back_all-clause-lists
returns-in_err-give_back_all-clause-lists g c = λ told r ci e.
    let f = err_from_is_err_and c.from_residual.result c.from_residual.ensures.1 in
    c.in_err-give_back_all.ensures.lists told
    (givable _ _ _ _ c.args.plan.now.items c.args.rest.now c.args.roots.now r) c.args.home.now.anchor ci
    (same_fault _ _ _ _ f.1 f.2 e)

-- ---- the places that are taken

pub returns-in_err-taken-clause-sound : goal.returns-in_err-taken-clause-sound
returns-in_err-taken-clause-sound g c = λ told o r ci e.
    let f = err_from_is_err_and c.from_residual-in_err-taken.result c.from_residual-in_err-taken.ensures.1 in
    let given = c.in_ok-give_back_all.ensures.given told
    (givable _ _ _ _ c.args.plan.now.items c.args.rest.now c.args.roots.now r) in
    let planned = plan-stays _ _ _ _ _ c.args.plan.now.items c.args.rest.now c.args.roots.now r given in
    c.in_err-taken.ensures.sound (c.give_back_all.ensures.goes_on.tells told) (given.in_order o) planned ci
    (same_fault _ _ _ _ f.1 f.2 e)

pub returns-in_err-taken-clause-lists : goal.returns-in_err-taken-clause-lists
returns-in_err-taken-clause-lists g c = λ told r ci e.
    let f = err_from_is_err_and c.from_residual-in_err-taken.result c.from_residual-in_err-taken.ensures.1 in
    fault-later _ _ _ _ _ ci (c.in_ok-give_back_all.ensures.comes told c.args.home.now.anchor)
    (c.in_err-taken.ensures.lists (c.give_back_all.ensures.goes_on.tells told) _ ci (same_fault _ _ _ _ f.1 f.2 e))

-- ---- the roots that are built there: nothing is damaged any more

pub returns-in_err-first-clause-sound : goal.returns-in_err-first-clause-sound
returns-in_err-first-clause-sound g c = λ told o r ci e.
    let f = err_from_is_err_and c.from_residual-in_err-first.result c.from_residual-in_err-first.ensures.1 in
    let given = c.in_ok-give_back_all.ensures.given told
    (givable _ _ _ _ c.args.plan.now.items c.args.rest.now c.args.roots.now r) in
    let planned = plan-stays _ _ _ _ _ c.args.plan.now.items c.args.rest.now c.args.roots.now r given in
    let told1 = c.give_back_all.ensures.goes_on.tells told in
    let taken = c.in_ok-taken.ensures.taken told1 planned in
    c.in_err-first.ensures.sound (c.take_places.ensures.goes_on.tells told1) [] c.in_ok-taken.taken.items
    (taken-planned _ _ _ _ _ c.args.plan.now.items _ c.args.roots.now c.requires.kinds taken) ci
    (same_fault _ _ _ _ f.1 f.2 e)

pub returns-in_err-first-clause-lists : goal.returns-in_err-first-clause-lists
returns-in_err-first-clause-lists g c = λ told r ci e.
    let f = err_from_is_err_and c.from_residual-in_err-first.result c.from_residual-in_err-first.ensures.1 in
    let given = c.in_ok-give_back_all.ensures.given told
    (givable _ _ _ _ c.args.plan.now.items c.args.rest.now c.args.roots.now r) in
    let planned = plan-stays _ _ _ _ _ c.args.plan.now.items c.args.rest.now c.args.roots.now r given in
    let told1 = c.give_back_all.ensures.goes_on.tells told in
    let taken = c.in_ok-taken.ensures.taken told1 planned in
    absurd (c.in_err-first.ensures.sound (c.take_places.ensures.goes_on.tells told1) [] c.in_ok-taken.taken.items
    (taken-planned _ _ _ _ _ c.args.plan.now.items _ c.args.roots.now c.requires.kinds taken) ci
    (same_fault _ _ _ _ f.1 f.2 e))

-- ---- the root anchor point

pub returns-clause-rebuilt : goal.returns-clause-rebuilt
returns-clause-rebuilt g c = λ told r.
    let given = c.in_ok-give_back_all.ensures.given told
    (givable _ _ _ _ c.args.plan.now.items c.args.rest.now c.args.roots.now r) in
    let planned = plan-stays _ _ _ _ _ c.args.plan.now.items c.args.rest.now c.args.roots.now r given in
    let told1 = c.give_back_all.ensures.goes_on.tells told in
    let taken = c.in_ok-taken.ensures.taken told1 planned in
    let told2 = c.take_places.ensures.goes_on.tells told1 in
    let built = c.in_ok-first.ensures.built told2 [] c.in_ok-taken.taken.items
    (taken-planned _ _ _ _ _ c.args.plan.now.items _ c.args.roots.now c.requires.kinds taken) in
    let told3 = c.build_roots.ensures.goes_on.tells told2 in
    let all = taken-built _ _ _ _ _ _ c.args.plan.now.items _ _ c.args.roots.now taken
    c.in_ok-taken.ensures.kept built.1 in
    on_ok_map _ _ _ (λ put. rebuilds _ _ _ _ _ _ _ c.args.plan.now.items c.args.rest.now c.args.roots.now _ r given
    all put) (c.put_root.ensures.put told3 (place-stays _ _ _ _ _ _ all.exchange (place-stays _ _ _ _ _ _ given r.base)))

pub returns-clause-kept : goal.returns-clause-kept
returns-clause-kept g c = λ told o r placed.
    let given = c.in_ok-give_back_all.ensures.given told
    (givable _ _ _ _ c.args.plan.now.items c.args.rest.now c.args.roots.now r) in
    let planned = plan-stays _ _ _ _ _ c.args.plan.now.items c.args.rest.now c.args.roots.now r given in
    let told1 = c.give_back_all.ensures.goes_on.tells told in
    let taken = c.in_ok-taken.ensures.taken told1 planned in
    let told2 = c.take_places.ensures.goes_on.tells told1 in
    let built = c.in_ok-first.ensures.built told2 [] c.in_ok-taken.taken.items
    (taken-planned _ _ _ _ _ c.args.plan.now.items _ c.args.roots.now c.requires.kinds taken) in
    let told3 = c.build_roots.ensures.goes_on.tells told2 in
    let all = taken-built _ _ _ _ _ _ c.args.plan.now.items _ _ c.args.roots.now taken
    c.in_ok-taken.ensures.kept built.1 in
    on_ok_map _ _ _ (λ put. kept-chain _ _ _ _ _ _ _ c.args.plan.now.items c.args.rest.now c.args.roots.now _
    c.requires.anchor o r given all placed put) (c.put_root.ensures.put told3 (place-stays _ _ _ _ _ _ all.exchange
    (place-stays _ _ _ _ _ _ given r.base)))

pub returns-clause-lists : goal.returns-clause-lists
returns-clause-lists g c = λ told r ci e.
    let given = c.in_ok-give_back_all.ensures.given told
    (givable _ _ _ _ c.args.plan.now.items c.args.rest.now c.args.roots.now r) in
    let planned = plan-stays _ _ _ _ _ c.args.plan.now.items c.args.rest.now c.args.roots.now r given in
    let told1 = c.give_back_all.ensures.goes_on.tells told in
    let taken = c.in_ok-taken.ensures.taken told1 planned in
    let told2 = c.take_places.ensures.goes_on.tells told1 in
    let built = c.in_ok-first.ensures.built told2 [] c.in_ok-taken.taken.items
    (taken-planned _ _ _ _ _ c.args.plan.now.items _ c.args.roots.now c.requires.kinds taken) in
    let told3 = c.build_roots.ensures.goes_on.tells told2 in
    let all = taken-built _ _ _ _ _ _ c.args.plan.now.items _ _ c.args.roots.now taken
    c.in_ok-taken.ensures.kept built.1 in
    absurd (c.put_root.ensures.sound told3 (place-stays _ _ _ _ _ _ all.exchange
    (place-stays _ _ _ _ _ _ given r.base)) ci e)

pub returns-clause-sound : goal.returns-clause-sound
returns-clause-sound g c = λ told o r ci e.
    let given = c.in_ok-give_back_all.ensures.given told
    (givable _ _ _ _ c.args.plan.now.items c.args.rest.now c.args.roots.now r) in
    let planned = plan-stays _ _ _ _ _ c.args.plan.now.items c.args.rest.now c.args.roots.now r given in
    let told1 = c.give_back_all.ensures.goes_on.tells told in
    let taken = c.in_ok-taken.ensures.taken told1 planned in
    let told2 = c.take_places.ensures.goes_on.tells told1 in
    let built = c.in_ok-first.ensures.built told2 [] c.in_ok-taken.taken.items
    (taken-planned _ _ _ _ _ c.args.plan.now.items _ c.args.roots.now c.requires.kinds taken) in
    let told3 = c.build_roots.ensures.goes_on.tells told2 in
    let all = taken-built _ _ _ _ _ _ c.args.plan.now.items _ _ c.args.roots.now taken
    c.in_ok-taken.ensures.kept built.1 in
    c.put_root.ensures.sound told3 (place-stays _ _ _ _ _ _ all.exchange (place-stays _ _ _ _ _ _ given r.base)) ci e
