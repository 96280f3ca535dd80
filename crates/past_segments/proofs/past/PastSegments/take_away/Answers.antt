use Rattle.std.proofs.Common.{◌≡◌, ◌∙◌, ap, sym, subst, slice_set, true}
use Rattle.fp_model.specs.Texts.{same_text}
use Rattle.past_segments.specs.Times.{FitsSlot, HasKey}
use Rattle.past_segments.proofs.PastLemmas.{changed, late_set, none_drop, on_err, over_drop, same_here, shows_same}
use Rattle.past_segments.proofs.Showing.{all_there}
use Rattle.past_segments.proofs.past.PastSegments.take_away.Goals as goal
use Rattle.plain_laws.proofs.Results.{on_ok}
use Rattle.plain_laws.proofs.Places.{set_same}

-- the key there is the one that was looked for
same : (c : goal.After-self-1) → same_text c.item_mut.result.now.key c.args.key.now ≡ true
same c =
    let q = c.in-Stands.ensures.place c.self.invariant.in_order in
    same_here c.self.inside.slots c.in-Stands.at q.1 c.item_mut.result.now c.args.key.now q.2
    c.item_mut.ensures.value q.3

pub invariant_of-self : goal.invariant_of-self
invariant_of-self c =
    let fits = all_there (FitsSlot c.self.inside.count) c.self.inside.slots c.in-Stands.at c.item_mut.result.now
    c.self.invariant.each c.item_mut.ensures.value in
    changed c.self.inside.count c.self.inside.slots c.in-Stands.at c.item_mut.result.now c.set.new.self
    c.self.invariant c.item_mut.ensures.value c.set.ensures.key (record {
      rises = c.set.ensures.rises fits.rises;
      has_key = subst (λ k. HasKey c.self.inside.count k c.set.new.self.versions) (sym c.set.ensures.key)
          (c.set.ensures.has_key c.self.inside.count c.item_mut.result.now.key fits.has_key tt);
    })

pub returns-in-Stands-clause-from : goal.returns-in-Stands-clause-from
returns-in-Stands-clause-from c = rw (sym c.self.view_is) (λ def p is le.
    let q = c.in-Stands.ensures.place c.self.invariant.in_order in
    on_ok c.set.result (λ from. ap (λ ss. record { segments = ss })
    (over_drop c.self.inside.count c.self.inside.slots c.self.invariant c.args.key.now c.in-Stands.at q.0 p
    c.item_mut.result.now c.set.new.self _ is c.item_mut.ensures.value (same c) (from p le)))
    c.set.ensures.from)

pub returns-in-Stands-clause-before : goal.returns-in-Stands-clause-before
returns-in-Stands-clause-before c = rw (sym c.self.view_is) (λ p less. ap (λ ss. record { segments = ss })
    (shows_same p c.self.inside.slots c.in-Stands.at c.item_mut.result.now c.set.new.self c.item_mut.ensures.value
    (c.set.ensures.before p less)))

pub returns-in-Stands-clause-err : goal.returns-in-Stands-clause-err
returns-in-Stands-clause-err c = rw (sym c.self.view_is) (on_err c.set.result
    (λ e. ap (λ ss. record { count = c.self.inside.count; slots = ss })
    (ap (slice_set c.self.inside.slots c.in-Stands.at) e
    ∙ set_same c.self.inside.slots c.in-Stands.at c.item_mut.result.now c.item_mut.ensures.value))
    c.set.ensures.err)

pub returns-in-Stands-clause-late : goal.returns-in-Stands-clause-late
returns-in-Stands-clause-late c = rw (sym c.self.view_is) (λ key other.
    late_set c.args.place c.args.key.now key c.self.inside.slots c.in-Stands.at c.item_mut.result.now
    c.set.new.self c.item_mut.ensures.value (same c) c.set.ensures.key other)

pub returns-in-Lacks-clause-from : goal.returns-in-Lacks-clause-from
returns-in-Lacks-clause-from c = rw (sym c.self.view_is) (λ def p is le.
    let q = c.in-Lacks.ensures.place c.self.invariant.in_order in
    ap (λ ss. record { segments = ss })
    (none_drop c.self.inside.count c.self.inside.slots c.self.invariant c.args.key.now c.in-Lacks.field-0 q.0
    p _ is q.1))
