use Rattle.std.proofs.Common.{◌≡◌, Some, None, rules, sym, subst, ◌∙◌, ap, arith}
use Rattle.ci_pool.specs.Changes.{IsAscending, least, oldest_of}
use Rattle.ci_pool.specs.inside.Changes.{first_by, may_pay}
use Rattle.ci_pool.specs.Held.{Held, IsFirstOwed}
use Rattle.ci_pool.proofs.Searches.{none_is_owed, first_owed_is, unsealed_is}
use Rattle.ci_pool.proofs.pool.Pool.owed.Goals as goal

pub returns-then-count-least_oldest-clause-none : goal.returns-then-count-least_oldest-clause-none
returns-then-count-least_oldest-clause-none c is =
    let pool = c.args.self.now in
    let cells : c.self.inside.cells ≡ pool.cells = ap (λ (p : Held). p.cells) c.self.view_is in
    let n : least oldest_of pool.cells ≡ c.least_oldest.result =
    sym (c.least_oldest.ensures.least ∙ ap (least oldest_of) cells) in
    none_is_owed pool (subst IsAscending cells c.least_oldest.ensures.ascending) c.args.count
    (omega (arith, n, c.if-count-least_oldest.true))

pub returns-in-Some-clause-write : goal.returns-in-Some-clause-write
returns-in-Some-clause-write c set ci is =
    let pool = c.args.self.now in
    let cells : c.self.inside.cells ≡ pool.cells = ap (λ (p : Held). p.cells) c.self.view_is in
    let some : first_by (may_pay c.args.count c.args.sealed) c.self.inside.cells ≡ Some c.in-Some.cell.now =
    search rules in
    let a : c.in-Some.cell.now.set ≡ set = cc in
    let b : c.in-Some.cell.now.ci ≡ ci = cc in
    let first = first_owed_is pool (subst IsAscending cells c.least_oldest.ensures.ascending) c.args.count c.args.sealed
    c.in-Some.cell.now (sym (ap (first_by (may_pay c.args.count c.args.sealed)) cells) ∙ some) in
    subst (λ n. IsFirstOwed pool c.args.count c.args.sealed set n) b
    (subst (λ n. IsFirstOwed pool c.args.count c.args.sealed n c.in-Some.cell.now.ci) a first)

pub returns-in-None-clause-unsealed : goal.returns-in-None-clause-unsealed
returns-in-None-clause-unsealed c is =
    let pool = c.args.self.now in
    let cells : c.self.inside.cells ≡ pool.cells = ap (λ (p : Held). p.cells) c.self.view_is in
    let n : c.least_oldest.result ≡ least oldest_of pool.cells = c.least_oldest.ensures.least
    ∙ ap (least oldest_of) cells in
    let none : first_by (may_pay c.args.count c.args.sealed) c.self.inside.cells ≡ None = search rules in
    unsealed_is pool (subst IsAscending cells c.least_oldest.ensures.ascending) c.args.count c.args.sealed
    (omega (arith, n, c.if-count-least_oldest.false)) (omega (arith, c.ranges.count.fits))
    (sym (ap (first_by (may_pay c.args.count c.args.sealed)) cells) ∙ none)
