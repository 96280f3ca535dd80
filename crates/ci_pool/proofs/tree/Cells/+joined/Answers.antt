use Rattle.std.proofs.Common.{◌≡◌, ◌++◌, ◌∷◌, length, append_assoc, sym, subst, ap, arith}
use Rattle.ci_pool.specs.Changes.{IsAscending}
use Rattle.ci_pool.proofs.Lists.{ascending_front, ascending_back}
use Rattle.ci_pool.proofs.Forks.{at_fork}
use Rattle.ci_pool.proofs.tree.Cells.+joined.Goals as goal

pub joined-requires : goal.joined-requires
joined-requires t c =
    let first = c.in-Some-Some.first.value in
    let second = c.in-Some-Some.second.value in
    let f = at_fork c.self.view_is c.self.invariant c.in-Some-Some.is-0 in
    let s = at_fork c.behind.view_is c.behind.invariant c.in-Some-Some.is-1 in
    let whole : IsAscending
    ((first.before ++ first.cell ∷ first.behind) ++ (second.before ++ second.cell ∷ second.behind)) =
    rw (sym f.is, sym s.is) c.requires in
    let same : c.replace-before.result ≡ second.before = cc in (
      rw same (omega (arith, s.before_shorter, ap length f.is)),
      rw same
          (ascending_front ((first.before ++ first.cell ∷ first.behind) ++ second.before) (second.cell ∷ second.behind)
          (subst IsAscending
          (sym (append_assoc (first.before ++ first.cell ∷ first.behind) second.before (second.cell ∷ second.behind)))
          whole)),
    )

pub joined-requires-else-rank : goal.joined-requires-else-rank
joined-requires-else-rank t c =
    let first = c.in-Some-Some.first.value in
    let second = c.in-Some-Some.second.value in
    let f = at_fork c.self.view_is c.self.invariant c.in-Some-Some.is-0 in
    let s = at_fork c.behind.view_is c.behind.invariant c.in-Some-Some.is-1 in
    let whole : IsAscending
    ((first.before ++ first.cell ∷ first.behind) ++ (second.before ++ second.cell ∷ second.behind)) =
    rw (sym f.is, sym s.is) c.requires in
    let same : c.replace-middle.result ≡ first.behind = cc in
    let end : IsAscending (first.cell ∷ (first.behind ++ (second.before ++ second.cell ∷ second.behind))) =
    ascending_back first.before (first.cell ∷ (first.behind ++ (second.before ++ second.cell ∷ second.behind)))
    (subst IsAscending
    (append_assoc first.before (first.cell ∷ first.behind) (second.before ++ second.cell ∷ second.behind)) whole) in
    (rw same (omega (arith, f.behind_shorter, ap length s.is)), rw same (end.1))
