use Rattle.std.proofs.Common.{◌≡◌, ap, sym, subst, true}
use Rattle.fp_model.specs.Texts.{same_text}
use Rattle.past_segments.specs.declared.slot.Slot.{Slot}
use Rattle.past_segments.specs.Times.{EndsBy, FitsSlot, HasKey}
use Rattle.past_segments.proofs.PastLemmas.{changed, early, late_no_more, late_set, never_late, same_here, shows_same}
use Rattle.past_segments.proofs.Showing.{all_there}
use Rattle.past_segments.proofs.past.PastSegments.take_back.Goals as goal
use Rattle.plain_laws.proofs.Alls.{all_set}

-- the key there is the one that was looked for
same : (c : goal.After-self-1) → same_text c.item_mut.result.now.key c.args.key.now ≡ true
same c =
    let q = c.in-Stands.ensures.place c.self.invariant.in_order in
    same_here c.self.inside.slots c.in-Stands.at q.1 c.item_mut.result.now c.args.key.now q.2
    c.item_mut.ensures.value q.3

its : (c : goal.After-self-1) → FitsSlot c.self.inside.count c.item_mut.result.now
its c = all_there (FitsSlot c.self.inside.count) c.self.inside.slots c.in-Stands.at c.item_mut.result.now
    c.self.invariant.each c.item_mut.ensures.value

pub invariant_of-self : goal.invariant_of-self
invariant_of-self c =
    changed c.self.inside.count c.self.inside.slots c.in-Stands.at c.item_mut.result.now c.take_back.new.self
    c.self.invariant c.item_mut.ensures.value c.take_back.ensures.key (record {
      rises = c.take_back.ensures.rises (its c).rises;
      has_key = subst (λ k. HasKey c.self.inside.count k c.take_back.new.self.versions) (sym c.take_back.ensures.key)
          (c.take_back.ensures.has_key c.self.inside.count c.item_mut.result.now.key (its c).has_key);
    })

pub returns-in-Stands-clause-before : goal.returns-in-Stands-clause-before
returns-in-Stands-clause-before c = rw (sym c.self.view_is) (λ p less. ap (λ ss. record { segments = ss })
    (shows_same p c.self.inside.slots c.in-Stands.at c.item_mut.result.now c.take_back.new.self
    c.item_mut.ensures.value (c.take_back.ensures.before p less)))

pub returns-in-Stands-clause-none : goal.returns-in-Stands-clause-none
returns-in-Stands-clause-none c =
    let q = c.in-Stands.ensures.place c.self.invariant.in_order in
    late_no_more c.args.place c.args.key.now c.self.inside.slots c.in-Stands.at c.item_mut.result.now
    c.take_back.new.self c.self.invariant.in_order q.0 c.item_mut.ensures.value (same c)
    (early c.args.place c.take_back.new.self.versions (c.take_back.ensures.ends (its c).rises))

pub returns-in-Stands-clause-late : goal.returns-in-Stands-clause-late
returns-in-Stands-clause-late c = rw (sym c.self.view_is) (λ key other.
    late_set c.args.place c.args.key.now key c.self.inside.slots c.in-Stands.at c.item_mut.result.now
    c.take_back.new.self c.item_mut.ensures.value (same c) c.take_back.ensures.key other)

pub returns-in-Lacks-clause-none : goal.returns-in-Lacks-clause-none
returns-in-Lacks-clause-none c = rw (sym c.self.view_is)
    (let q = c.in-Lacks.ensures.place c.self.invariant.in_order in
    never_late c.args.place c.args.key.now c.self.inside.slots c.in-Lacks.field-0 c.self.invariant.in_order q.0 q.1)

pub returns-in-Stands-clause-settled : goal.returns-in-Stands-clause-settled
returns-in-Stands-clause-settled c = rw (sym c.self.view_is) (λ p all.
    all_set (λ (slot : Slot). EndsBy p slot.versions) c.self.inside.slots c.in-Stands.at c.take_back.new.self all
    (c.take_back.ensures.settled p (all_there (λ (slot : Slot). EndsBy p slot.versions) c.self.inside.slots
    c.in-Stands.at c.item_mut.result.now all c.item_mut.ensures.value)))
