use Rattle.std.proofs.Common.{◌≡◌, ℕ, List, Some, rules, ◌∙◌, ap}
use Rattle.std.specs.Map.{lookup}
use Rattle.lru.specs.LruCache.{LruCache, lru_cache}
use Rattle.ci_pool.specs.Cells.{is_key}
use Rattle.ci_pool.proofs.CleanLists.{found_again, used_again}
use Rattle.ci_pool.proofs.clean.use_again.Goals as goal

abbrev Entries_of : Type 0
Entries_of = LruCache (ℕ × ℕ) (List ℕ)

pub returns-clause-list : goal.returns-clause-list
returns-clause-list c =
    let old = c.args.clean.now in
    let is : lookup (is_key c.args.set c.args.ci) old.entries ≡ Some c.in_ok-bytes.bytes = search rules in
    c.promote.ensures.entries
    ∙ ap (λ es. lru_cache es old.cap)
    (used_again old.cap c.args.set c.args.ci old.entries c.in_ok-bytes.bytes is c.len-count.ensures.valid.1)

pub returns-clause-same : goal.returns-clause-same
returns-clause-same c = λ s k.
    let old = c.args.clean.now in
    let is : lookup (is_key c.args.set c.args.ci) old.entries ≡ Some c.in_ok-bytes.bytes = search rules in
    ap (λ (q : Entries_of). lookup (is_key s k) q.entries) c.promote.ensures.entries
    ∙ ap (lookup (is_key s k))
    (used_again old.cap c.args.set c.args.ci old.entries c.in_ok-bytes.bytes is c.len-count.ensures.valid.1)
    ∙ found_again old.cap c.args.set c.args.ci s k old.entries c.in_ok-bytes.bytes is c.len-count.ensures.valid.1
