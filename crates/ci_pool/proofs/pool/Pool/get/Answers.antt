use Rattle.std.proofs.Common.{◌≡◌, ℕ, ◌*◌, List, None, length, sym, subst, ◌∙◌, ap}
use Rattle.std.specs.Prelude.{Contains}
use Rattle.std.specs.Map.{lookup}
use Rattle.lru.specs.LruCache.{LruCache}
use Rattle.fp_site.specs.Disk.{read_range}
use Rattle.ci_pool.specs.Cells.{cell_at, is_key}
use Rattle.ci_pool.specs.Held.{Held, pending_at, clean_at, waiting_of, bytes_of, bytes_or, held_at, first_of, newest_in, interval_in, IsClean, IsPool, HasSize}
use Rattle.ci_pool.proofs.Pools.{by_if, nothing_pending, not_held, unstaged_none, listed, pool_used, clean_used, size_used}
use Rattle.ci_pool.proofs.pool.Pool.get.Goals as goal
use Rattle.plain_laws.proofs.Results.{if_ok_with}

abbrev List_of : Type 0
List_of = LruCache (ℕ × ℕ) (List ℕ)

pub invariant_of-self : goal.invariant_of-self
invariant_of-self g c =
    let inside = c.self.inside in
    let waits = nothing_pending c.waiting_bytes.result (waiting_of (cell_at c.args.set c.args.ci inside.cells))
    c.waiting_bytes.ensures c.in_default.is in
    by_if c.use_again.result _ _ _ (IsPool c.use_again.new.clean.cap c.use_again.new.clean.entries inside.cells)
    c.use_again.ensures.list c.use_again.ensures.list c.use_again.ensures.err
    (λ v is _. subst (λ (q : List_of). IsPool q.cap q.entries inside.cells) (sym is)
    (pool_used inside.clean.cap c.args.set c.args.ci v inside.clean.entries inside.cells c.self.invariant waits))
    (λ is. subst (λ (q : List_of). IsPool q.cap q.entries inside.cells) (sym is) c.self.invariant)

pub returns-then-contains-clause-newest : goal.returns-then-contains-clause-newest
returns-then-contains-clause-newest g c told clean sized =
    let inside = c.self.inside in
    let old = (g.T.Site.disk c.args.site.now).contents in
    let waits = nothing_pending c.waiting_bytes.result (waiting_of (cell_at c.args.set c.args.ci inside.cells))
    c.waiting_bytes.ensures c.in_default.is in
    let cells = ap (λ (p : Held). p.cells) c.self.view_is in
    let none : waiting_of (cell_at c.args.set c.args.ci c.args.self.now.cells) ≡ None =
    ap (λ cs. waiting_of (cell_at c.args.set c.args.ci cs)) (sym cells) ∙ waits in
    let site : newest_in c.args.self.now old c.args.set c.args.ci c.args.size ≡ interval_in old c.args.set c.args.ci
    c.args.size = ap (λ o. bytes_or (bytes_of o) (interval_in old c.args.set c.args.ci c.args.size)) none in
    if_ok_with c.use_again.result _ (λ bytes. bytes ≡ newest_in c.args.self.now old c.args.set c.args.ci c.args.size)
    c.use_again.ensures.ok
    (λ v is.
    let there : Contains c.args.self.now.clean ((c.args.set, c.args.ci), v) =
    subst (λ (p : Held). Contains p.clean ((c.args.set, c.args.ci), v)) c.self.view_is
    (listed c.args.set c.args.ci inside.clean.entries v is) in
    clean c.args.set c.args.ci v there ∙ ap (interval_in old c.args.set c.args.ci) (sized.clean c.args.ci v there)
    ∙ sym site)

pub returns-then-contains-clause-clean : goal.returns-then-contains-clause-clean
returns-then-contains-clause-clean g c told clean =
    let inside = c.self.inside in
    let old = (g.T.Site.disk c.args.site.now).contents in
    let was : IsClean old (record { bound = inside.clean.cap; clean = inside.clean.entries; cells = inside.cells }) =
    subst (IsClean old) (sym c.self.view_is) clean in
    by_if c.use_again.result _ _ _
    ((s k : ℕ) (b : List ℕ) → Contains c.use_again.new.clean.entries ((s, k), b)
    → b ≡ interval_in old s k (length b)) c.use_again.ensures.ok c.use_again.ensures.list c.use_again.ensures.err
    (λ v found is. subst
    (λ (q : List_of). (s k : ℕ) (b : List ℕ) → Contains q.entries ((s, k), b) → b ≡ interval_in old s k (length b))
    (sym is) (clean_used inside.clean.cap c.args.set c.args.ci v inside.clean.entries old was
    (was c.args.set c.args.ci v (listed c.args.set c.args.ci inside.clean.entries v found))))
    (λ is. subst
    (λ (q : List_of). (s k : ℕ) (b : List ℕ) → Contains q.entries ((s, k), b) → b ≡ interval_in old s k (length b))
    (sym is) was)

pub returns-then-contains-clause-sizes : goal.returns-then-contains-clause-sizes
returns-then-contains-clause-sizes g c s n same sized =
    let inside = c.self.inside in
    let was : HasSize s n (record { bound = inside.clean.cap; clean = inside.clean.entries; cells = inside.cells }) =
    subst (HasSize s n) (sym c.self.view_is) sized in
    by_if c.use_again.result _ _ _
    (HasSize s n
    (record { bound = c.use_again.new.clean.cap; clean = c.use_again.new.clean.entries; cells = inside.cells }))
    c.use_again.ensures.ok c.use_again.ensures.list c.use_again.ensures.err
    (λ v found is. subst
    (λ (q : List_of). HasSize s n (record { bound = q.cap; clean = q.entries; cells = inside.cells })) (sym is)
    (size_used inside.clean.cap c.args.set c.args.ci v inside.clean.entries inside.cells s n
    (λ e. was.clean c.args.ci v
    (subst (λ t. Contains inside.clean.entries ((t, c.args.ci), v)) (sym e)
    (listed c.args.set c.args.ci inside.clean.entries v found))) was))
    (λ is. subst (λ (q : List_of). HasSize s n (record { bound = q.cap; clean = q.entries; cells = inside.cells }))
    (sym is) was)

pub returns-in_err-bytes-clause-unasked : goal.returns-in_err-bytes-clause-unasked
returns-in_err-bytes-clause-unasked g c bytes held =
    let inside = c.self.inside in
    let waits = nothing_pending c.waiting_bytes.result (waiting_of (cell_at c.args.set c.args.ci inside.cells))
    c.waiting_bytes.ensures c.in_default.is in
    let absent = unstaged_none (lookup (is_key c.args.set c.args.ci) inside.clean.entries)
    (sym c.contains.ensures ∙ c.if-contains.false) in
    let pending = subst (λ (p : Held). pending_at p c.args.set c.args.ci ≡ None) c.self.view_is waits in
    let clean = subst (λ (p : Held). clean_at p c.args.set c.args.ci ≡ None) c.self.view_is absent in
    absurd (not_held c.args.self.now c.args.set c.args.ci pending clean bytes held)

pub invariant_of-self-2 : goal.invariant_of-self-2
invariant_of-self-2 g c =
    let inside = c.self.inside in
    let waits = nothing_pending c.waiting_bytes.result (waiting_of (cell_at c.args.set c.args.ci inside.cells))
    c.waiting_bytes.ensures c.in_default.is in
    by_if c.add.result _ _ _ (IsPool c.add.new.clean.cap c.add.new.clean.entries inside.cells) c.add.ensures.list
    c.add.ensures.list c.add.ensures.err
    (λ v is _. subst (λ (q : List_of). IsPool q.cap q.entries inside.cells) (sym is)
    (pool_used inside.clean.cap c.args.set c.args.ci v inside.clean.entries inside.cells c.self.invariant waits))
    (λ is. subst (λ (q : List_of). IsPool q.cap q.entries inside.cells) (sym is) c.self.invariant)

pub returns-clause-held : goal.returns-clause-held
returns-clause-held g c bytes held =
    let inside = c.self.inside in
    let waits = nothing_pending c.waiting_bytes.result (waiting_of (cell_at c.args.set c.args.ci inside.cells))
    c.waiting_bytes.ensures c.in_default.is in
    let absent = unstaged_none (lookup (is_key c.args.set c.args.ci) inside.clean.entries)
    (sym c.contains.ensures ∙ c.if-contains.false) in
    let pending = subst (λ (p : Held). pending_at p c.args.set c.args.ci ≡ None) c.self.view_is waits in
    let clean = subst (λ (p : Held). clean_at p c.args.set c.args.ci ≡ None) c.self.view_is absent in
    absurd (not_held c.args.self.now c.args.set c.args.ci pending clean bytes held)

pub returns-clause-unasked : goal.returns-clause-unasked
returns-clause-unasked g c bytes held =
    let inside = c.self.inside in
    let waits = nothing_pending c.waiting_bytes.result (waiting_of (cell_at c.args.set c.args.ci inside.cells))
    c.waiting_bytes.ensures c.in_default.is in
    let absent = unstaged_none (lookup (is_key c.args.set c.args.ci) inside.clean.entries)
    (sym c.contains.ensures ∙ c.if-contains.false) in
    let pending = subst (λ (p : Held). pending_at p c.args.set c.args.ci ≡ None) c.self.view_is waits in
    let clean = subst (λ (p : Held). clean_at p c.args.set c.args.ci ≡ None) c.self.view_is absent in
    absurd (not_held c.args.self.now c.args.set c.args.ci pending clean bytes held)

pub returns-clause-clean : goal.returns-clause-clean
returns-clause-clean g c told clean =
    let inside = c.self.inside in
    let old = (g.T.Site.disk c.args.site.now).contents in
    let new = (g.T.Site.disk c.read.new.site).contents in
    let same : new ≡ old = (c.read.ensures.stays told).contents in
    let was : IsClean old (record { bound = inside.clean.cap; clean = inside.clean.entries; cells = inside.cells }) =
    subst (IsClean old) (sym c.self.view_is) clean in
    let read : c.in_ok-bytes.bytes ≡ interval_in old c.args.set c.args.ci c.args.size = c.in_ok-bytes.ensures.value told
    ∙ ap (λ n. read_range (old c.args.set) (c.args.ci * n) c.args.size) c.from.ensures in
    let bytes : c.in_ok-bytes.bytes ≡ interval_in old c.args.set c.args.ci (length c.in_ok-bytes.bytes) = read
    ∙ ap (interval_in old c.args.set c.args.ci) (sym c.in_ok-bytes.ensures.size) in
    subst (λ (contents : ℕ → List ℕ). (s k : ℕ) (b : List ℕ) → Contains c.add.new.clean.entries ((s, k), b)
    → b ≡ interval_in contents s k (length b)) (sym same)
    (by_if c.add.result _ _ _
    ((s k : ℕ) (b : List ℕ) → Contains c.add.new.clean.entries ((s, k), b) → b ≡ interval_in old s k (length b))
    c.add.ensures.ok c.add.ensures.list c.add.ensures.err
    (λ v found is. subst
    (λ (q : List_of). (s k : ℕ) (b : List ℕ) → Contains q.entries ((s, k), b) → b ≡ interval_in old s k (length b))
    (sym is) (clean_used inside.clean.cap c.args.set c.args.ci v inside.clean.entries old was
    (subst (λ (u : List ℕ). u ≡ interval_in old c.args.set c.args.ci (length u)) (sym found) bytes)))
    (λ is. subst
    (λ (q : List_of). (s k : ℕ) (b : List ℕ) → Contains q.entries ((s, k), b) → b ≡ interval_in old s k (length b))
    (sym is) was))

pub returns-clause-sizes : goal.returns-clause-sizes
returns-clause-sizes g c s n same sized =
    let inside = c.self.inside in
    let was : HasSize s n (record { bound = inside.clean.cap; clean = inside.clean.entries; cells = inside.cells }) =
    subst (HasSize s n) (sym c.self.view_is) sized in
    by_if c.add.result _ _ _
    (HasSize s n (record { bound = c.add.new.clean.cap; clean = c.add.new.clean.entries; cells = inside.cells }))
    c.add.ensures.ok c.add.ensures.list c.add.ensures.err
    (λ v found is. subst
    (λ (q : List_of). HasSize s n (record { bound = q.cap; clean = q.entries; cells = inside.cells })) (sym is)
    (size_used inside.clean.cap c.args.set c.args.ci v inside.clean.entries inside.cells s n
    (λ e. ap length found ∙ c.in_ok-bytes.ensures.size ∙ sym (same e)) was))
    (λ is. subst (λ (q : List_of). HasSize s n (record { bound = q.cap; clean = q.entries; cells = inside.cells }))
    (sym is) was)

pub returns-then-contains-clause-hand : goal.returns-then-contains-clause-hand
returns-then-contains-clause-hand g c bytes held s k =
    let inside = c.self.inside in
    ap (λ l. first_of (bytes_of (waiting_of (cell_at s k inside.cells))) l) (c.use_again.ensures.same s k)
    ∙ ap (λ (p : Held). held_at p s k) c.self.view_is

pub returns-clause-hand : goal.returns-clause-hand
returns-clause-hand g c bytes held =
    let inside = c.self.inside in
    let waits = nothing_pending c.waiting_bytes.result (waiting_of (cell_at c.args.set c.args.ci inside.cells))
    c.waiting_bytes.ensures c.in_default.is in
    let absent = unstaged_none (lookup (is_key c.args.set c.args.ci) inside.clean.entries)
    (sym c.contains.ensures ∙ c.if-contains.false) in
    let pending = subst (λ (p : Held). pending_at p c.args.set c.args.ci ≡ None) c.self.view_is waits in
    let clean = subst (λ (p : Held). clean_at p c.args.set c.args.ci ≡ None) c.self.view_is absent in
    absurd (not_held c.args.self.now c.args.set c.args.ci pending clean bytes held)
