use Rattle.std.proofs.Common.{◌≡◌, rules, ◌∙◌, ap}
use Rattle.lru.specs.LruCache.{lru_cache}
use Rattle.ci_pool.specs.Held.{brought_first}
use Rattle.ci_pool.proofs.CleanLists.{added}
use Rattle.ci_pool.proofs.clean.add.Goals as goal

pub returns-in-Ok-clause-list : goal.returns-in-Ok-clause-list
returns-in-Ok-clause-list c =
    let old = c.args.clean.now in
    let same : c.in_ok-copy.copy ≡ c.args.bytes = search rules in
    c.in-Ok.ensures.entries
    ∙ ap (λ es. lru_cache es old.cap)
    (added old.cap c.args.set c.args.ci old.entries c.in_ok-copy.copy c.requires c.len-count.ensures.valid.2)
    ∙ ap (λ b. lru_cache (brought_first old.cap c.args.set c.args.ci b old.entries) old.cap) same
