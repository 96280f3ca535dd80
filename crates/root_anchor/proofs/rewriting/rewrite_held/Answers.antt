use Rattle.std.proofs.Common.{◌∙◌, sym, subst}
use Rattle.std.proofs.lemmas.Result.{IfOk-from_err, err_from_is_err_and}
use Rattle.ci_overflow.specs.Lists.{IsInOrder}
use Rattle.root_anchor.specs.Formed.{HasRoots}
use Rattle.root_anchor.specs.inside.Storing.{Names}
use Rattle.root_anchor.proofs.StoreLemmas.{alone_rewrites, grown_rewrites, stored_rewrites}
use Rattle.root_anchor.proofs.rewriting.rewrite_held.Goals as goal

-- ---- one element alone

pub returns-in_err-alone-clause-rewrites : goal.returns-in_err-alone-clause-rewrites
returns-in_err-alone-clause-rewrites g c = λ told. IfOk-from_err c.from_residual.result _ c.from_residual.ensures.0

pub returns-in_err-alone-clause-names : goal.returns-in_err-alone-clause-names
returns-in_err-alone-clause-names g c = λ told ci e.
    let p = err_from_is_err_and c.from_residual.result c.from_residual.ensures.1 in
    absurd (c.set_alone.ensures.sound told ci (cc (p.1, p.2, c.in_err-alone.was)))

pub returns-in_err-alone-clause-alone_sound : goal.returns-in_err-alone-clause-alone_sound
returns-in_err-alone-clause-alone_sound g c = λ told has differ ci e.
    let p = err_from_is_err_and c.from_residual.result c.from_residual.ensures.1 in
    c.set_alone.ensures.sound told ci (cc (p.1, p.2, c.in_err-alone.was))

pub returns-then-alone-clause-rewrites : goal.returns-then-alone-clause-rewrites
returns-then-alone-clause-rewrites g c = λ told. alone_rewrites c.args.shape.now c.args.segments.now _ _ c.args.anchor
    c.args.before.now c.args.after.now c.requires.anchor (c.in_ok-alone.ensures.differ c.if-alone.true)
    (c.in_ok-alone.ensures.set told c.if-alone.true)

-- ---- one segment more

pub returns-in_err-more-clause-rewrites : goal.returns-in_err-more-clause-rewrites
returns-in_err-more-clause-rewrites g c = λ told. IfOk-from_err c.from_residual-in_err-more.result _
    c.from_residual-in_err-more.ensures.0

pub returns-in_err-more-clause-names : goal.returns-in_err-more-clause-names
returns-in_err-more-clause-names g c = λ told ci e.
    let p = err_from_is_err_and c.from_residual-in_err-more.result c.from_residual-in_err-more.ensures.1 in
    subst (λ a. Names c.args.shape.now c.args.segments.now a c.args.anchor ci)
    (c.in_ok-alone.ensures.same told c.if-alone.false)
    (c.set_more.ensures.names (c.set_alone.ensures.goes_on.tells told) ci (cc (p.1, p.2, c.in_err-more.was)))

pub returns-in_err-more-clause-alone_sound : goal.returns-in_err-more-clause-alone_sound
returns-in_err-more-clause-alone_sound g c = λ told has differ ci e.
    let yes = c.in_ok-alone.ensures.alone told has differ in
    let no = c.if-alone.false in
    absurd (cc)

pub returns-then-more-clause-rewrites : goal.returns-then-more-clause-rewrites
returns-then-more-clause-rewrites g c = λ told.
    let told1 = c.set_alone.ensures.goes_on.tells told in
    grown_rewrites c.args.shape.now c.args.segments.now _ _ _ c.args.anchor c.args.before.now c.args.after.now
    (c.in_ok-alone.ensures.same told c.if-alone.false) c.requires.anchor
    (λ o. c.in_ok-more.ensures.grows told1 o c.if-more.true) (c.in_ok-more.ensures.stood told1 c.if-more.true)
    (c.in_ok-more.ensures.gains c.if-more.true)

-- ---- else

pub returns-clause-rewrites : goal.returns-clause-rewrites
returns-clause-rewrites g c = λ told.
    let told1 = c.set_alone.ensures.goes_on.tells told in
    let same1 = c.in_ok-alone.ensures.same told c.if-alone.false in
    let same2 = c.in_ok-more.ensures.same told1 c.if-more.false in
    stored_rewrites c.store_held.result c.args.shape.now c.args.segments.now _ _ _ c.args.anchor c.args.before.now
    c.args.after.now (same2 ∙ same1)
    (λ has differ. let yes = c.in_ok-alone.ensures.alone told has differ in let no = c.if-alone.false in absurd (cc))
    (λ has gain. let yes = c.in_ok-more.ensures.more told1 (subst (λ a. HasRoots c.args.shape.now c.args.segments.now a
    c.args.anchor c.args.before.now) same2 has) gain in let no = c.if-more.false in absurd (cc))
    (c.store_held.ensures.stores (c.set_more.ensures.goes_on.tells told1))

pub returns-clause-names : goal.returns-clause-names
returns-clause-names g c = λ told ci e.
    let told1 = c.set_alone.ensures.goes_on.tells told in
    subst (λ a. Names c.args.shape.now c.args.segments.now a c.args.anchor ci)
    (c.in_ok-more.ensures.same told1 c.if-more.false ∙ c.in_ok-alone.ensures.same told c.if-alone.false)
    (c.store_held.ensures.names (c.set_more.ensures.goes_on.tells told1) ci e)

pub returns-clause-alone_sound : goal.returns-clause-alone_sound
returns-clause-alone_sound g c = λ told has differ ci e.
    let yes = c.in_ok-alone.ensures.alone told has differ in
    let no = c.if-alone.false in
    absurd (cc)
