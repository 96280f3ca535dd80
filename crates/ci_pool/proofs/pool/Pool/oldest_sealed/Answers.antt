use Rattle.std.proofs.Common.{◌≡◌, Some, None, rules, sym, subst, ◌∙◌, ap, arith}
use Rattle.ci_pool.specs.Changes.{IsAscending, least, newest_of}
use Rattle.ci_pool.specs.inside.Changes.{first_by, waits_up_to}
use Rattle.ci_pool.specs.Held.{Held}
use Rattle.ci_pool.proofs.Searches.{none_is_sealed, oldest_sealed_is, one_is_up_to}
use Rattle.ci_pool.proofs.pool.Pool.oldest_sealed.Goals as goal

pub returns-then-sealed-newest-clause-none : goal.returns-then-sealed-newest-clause-none
returns-then-sealed-newest-clause-none c =
    let pool = c.args.self.now in
    let cells : c.self.inside.cells ≡ pool.cells = ap (λ (p : Held). p.cells) c.self.view_is in
    let n : least newest_of pool.cells ≡ c.least_newest-newest.result =
    sym (c.least_newest-newest.ensures.least ∙ ap (least newest_of) cells) in
    none_is_sealed pool (subst IsAscending cells c.least_newest-newest.ensures.ascending) c.args.sealed
    (omega (arith, n, c.if-sealed-newest.true))

pub returns-in_err-cell-clause-none : goal.returns-in_err-cell-clause-none
returns-in_err-cell-clause-none c =
    let pool = c.args.self.now in
    let cells : c.self.inside.cells ≡ pool.cells = ap (λ (p : Held). p.cells) c.self.view_is in
    let n : c.least_newest-newest.result ≡ least newest_of pool.cells = c.least_newest-newest.ensures.least
    ∙ ap (least newest_of) cells in
    let none : first_by (waits_up_to c.least_newest-newest.result) c.self.inside.cells ≡ None = search rules in
    let none2 : first_by (waits_up_to (least newest_of pool.cells)) pool.cells ≡ None =
    sym (ap (λ m. first_by (waits_up_to m) c.self.inside.cells) n
    ∙ ap (first_by (waits_up_to (least newest_of pool.cells))) cells) ∙ none in
    absurd (one_is_up_to pool (subst IsAscending cells c.least_newest-newest.ensures.ascending)
    (omega (arith, n, c.if-sealed-newest.false, c.ranges.sealed.fits)) none2)

pub returns-clause-some : goal.returns-clause-some
returns-clause-some c =
    let pool = c.args.self.now in
    let cells : c.self.inside.cells ≡ pool.cells = ap (λ (p : Held). p.cells) c.self.view_is in
    let n : c.least_newest-newest.result ≡ least newest_of pool.cells = c.least_newest-newest.ensures.least
    ∙ ap (least newest_of) cells in
    let some : first_by (waits_up_to c.least_newest-newest.result) c.self.inside.cells ≡ Some c.in_ok-cell.cell.now =
    search rules in
    let some2 : first_by (waits_up_to (least newest_of pool.cells)) pool.cells ≡ Some c.in_ok-cell.cell.now =
    sym (ap (λ m. first_by (waits_up_to m) c.self.inside.cells) n
    ∙ ap (first_by (waits_up_to (least newest_of pool.cells))) cells) ∙ some in
    oldest_sealed_is pool (subst IsAscending cells c.least_newest-newest.ensures.ascending) c.args.sealed
    c.in_ok-cell.cell.now (omega (arith, n, c.if-sealed-newest.false)) some2
