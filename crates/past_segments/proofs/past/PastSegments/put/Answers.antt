use Rattle.std.proofs.Common.{◌≡◌, ◌∙◌, [], ap, refl, sym, subst, Some, slice_set, take, true, false}
use Rattle.std.specs.List.{insert, list_any}
use Rattle.fp_model.specs.Texts.{same_text}
use Rattle.past_segments.specs.Times.{AreSlots, FitsSlot, HasKey, Rises, segments_at, value_at}
use Rattle.past_segments.specs.declared.slot.Version.{Version}
use Rattle.past_segments.proofs.PastLemmas.{changed, either, in_put, inserted, is_late_slot, late_insert, late_set, on_err, over_put, same_here, shows_same, shows_same_in}
use Rattle.past_segments.proofs.Showing.{all_there}
use Rattle.past_segments.proofs.Values.{value_from, value_stays}
use Rattle.past_segments.proofs.past.PastSegments.put.Goals as goal
use Rattle.plain_laws.proofs.Results.{on_ok}
use Rattle.model_laws.proofs.Texts.{same_text_is}
use Rattle.plain_laws.proofs.Places.{set_same}

-- ---- the key is there

-- the segment begins with the key that was looked for
has : (c : goal.After-self-1) → take c.self.inside.count c.args.segment ≡ c.key_in.result.now
has c = sym (c.key_in.ensures ∙ ap (take c.self.inside.count) c.as_slice.ensures)

-- the key there is that one
same : (c : goal.After-self-1) → same_text c.item_mut.result.now.key c.key_in.result.now ≡ true
same c =
    let q = c.in-Stands.ensures.place c.self.invariant.in_order in
    same_here c.self.inside.slots c.in-Stands.at q.1 c.item_mut.result.now c.key_in.result.now q.2
    c.item_mut.ensures.value q.3

pub invariant_of-self : goal.invariant_of-self
invariant_of-self c =
    let fits = all_there (FitsSlot c.self.inside.count) c.self.inside.slots c.in-Stands.at c.item_mut.result.now
    c.self.invariant.each c.item_mut.ensures.value in
    let its : take c.self.inside.count c.args.segment ≡ c.item_mut.result.now.key =
    has c ∙ sym (same_text_is c.item_mut.result.now.key c.key_in.result.now (same c)) in
    changed c.self.inside.count c.self.inside.slots c.in-Stands.at c.item_mut.result.now c.set.new.self
    c.self.invariant c.item_mut.ensures.value c.set.ensures.key (record {
      rises = c.set.ensures.rises fits.rises;
      has_key = subst (λ k. HasKey c.self.inside.count k c.set.new.self.versions) (sym c.set.ensures.key)
          (c.set.ensures.has_key c.self.inside.count c.item_mut.result.now.key fits.has_key its);
    })

pub returns-in-Stands-clause-from : goal.returns-in-Stands-clause-from
returns-in-Stands-clause-from c = rw (sym c.self.view_is) (λ def p is le.
    let q = c.in-Stands.ensures.place c.self.invariant.in_order in
    on_ok c.set.result (λ from. ap (λ ss. record { segments = ss })
    (over_put c.self.inside.count c.self.inside.slots c.self.invariant c.key_in.result.now c.in-Stands.at q.0 p
    c.item_mut.result.now c.set.new.self c.args.segment _ is c.item_mut.ensures.value (same c) (has c) (from p le)))
    c.set.ensures.from)

pub returns-in-Stands-clause-before : goal.returns-in-Stands-clause-before
returns-in-Stands-clause-before c = rw (sym c.self.view_is) (λ p less. ap (λ ss. record { segments = ss })
    (shows_same p c.self.inside.slots c.in-Stands.at c.item_mut.result.now c.set.new.self c.item_mut.ensures.value
    (c.set.ensures.before p less)))

pub returns-in-Stands-clause-err : goal.returns-in-Stands-clause-err
returns-in-Stands-clause-err c = rw (sym c.self.view_is) (on_err c.set.result
    (λ e. ap (λ ss. record { count = c.self.inside.count; slots = ss })
    (ap (slice_set c.self.inside.slots c.in-Stands.at) e
    ∙ set_same c.self.inside.slots c.in-Stands.at c.item_mut.result.now c.item_mut.ensures.value))
    c.set.ensures.err)

pub returns-in-Stands-clause-late : goal.returns-in-Stands-clause-late
returns-in-Stands-clause-late c = rw (sym c.self.view_is) (λ key other.
    late_set c.args.place c.key_in.result.now key c.self.inside.slots c.in-Stands.at c.item_mut.result.now
    c.set.new.self c.item_mut.ensures.value (same c) c.set.ensures.key
    (subst (λ k. same_text k key ≡ false) (has c) other))

-- ---- it isn't

begins : (c : goal.After-insert) → take c.self.inside.count c.args.segment ≡ c.key_in.result.now
begins c = sym (c.key_in.ensures ∙ ap (take c.self.inside.count) c.as_slice.ensures)

abbrev only : (c : goal.After-insert) → Version
only c = record { from = c.args.place; segment = Some c.args.segment }

fits : (c : goal.After-insert) → FitsSlot c.self.inside.count c.in_ok-slot-in-Lacks.slot
fits c = record {
  rises = subst Rises (sym c.in_ok-slot-in-Lacks.ensures.versions) (tt, tt);
  has_key =
      subst (HasKey c.self.inside.count c.in_ok-slot-in-Lacks.slot.key) (sym c.in_ok-slot-in-Lacks.ensures.versions)
      (sym c.in_ok-slot-in-Lacks.ensures.key, tt);
}

pub invariant_of-self-in-Lacks : goal.invariant_of-self-in-Lacks
invariant_of-self-in-Lacks c =
    let q = c.in-Lacks.ensures.place c.self.invariant.in_order in
    either (AreSlots c.self.inside.count) c.insert.result c.insert.new.self
    (insert c.self.inside.slots c.in-Lacks.at c.in_ok-slot-in-Lacks.slot) c.self.inside.slots c.insert.ensures.ok
    c.insert.ensures.err
    (inserted c.self.inside.count c.self.inside.slots c.self.invariant c.key_in.result.now c.in-Lacks.at q.0
    c.in_ok-slot-in-Lacks.slot q.1 c.in-Lacks.ensures.within (c.in_ok-slot-in-Lacks.ensures.key ∙ begins c) (fits c))
    c.self.invariant

pub returns-in_ok-slot-in-Lacks-clause-from : goal.returns-in_ok-slot-in-Lacks-clause-from
returns-in_ok-slot-in-Lacks-clause-from c = rw (sym c.self.view_is) (λ def p is le.
    let q = c.in-Lacks.ensures.place c.self.invariant.in_order in
    on_ok c.insert.result (λ ok. ap (λ ss. record { segments = ss })
    (ap (segments_at p) ok
    ∙ in_put c.self.inside.count c.self.inside.slots c.self.invariant c.key_in.result.now c.in-Lacks.at q.0 p
    c.in_ok-slot-in-Lacks.slot c.args.segment _ is q.1 (begins c)
    (ap (value_at p) c.in_ok-slot-in-Lacks.ensures.versions ∙ value_from p [] (only c) le)))
    c.insert.ensures.ok)

pub returns-in_ok-slot-in-Lacks-clause-before : goal.returns-in_ok-slot-in-Lacks-clause-before
returns-in_ok-slot-in-Lacks-clause-before c = rw (sym c.self.view_is) (λ p less. ap (λ ss. record { segments = ss })
    (either (λ ss. segments_at p ss ≡ segments_at p c.self.inside.slots) c.insert.result c.insert.new.self
    (insert c.self.inside.slots c.in-Lacks.at c.in_ok-slot-in-Lacks.slot) c.self.inside.slots c.insert.ensures.ok
    c.insert.ensures.err
    (shows_same_in p c.self.inside.slots c.in-Lacks.at c.in_ok-slot-in-Lacks.slot
    (ap (value_at p) c.in_ok-slot-in-Lacks.ensures.versions ∙ value_stays p [] (only c) less))
    refl))

pub returns-in_ok-slot-in-Lacks-clause-late : goal.returns-in_ok-slot-in-Lacks-clause-late
returns-in_ok-slot-in-Lacks-clause-late c = rw (sym c.self.view_is) (λ key other.
    either (λ ss. list_any (is_late_slot c.args.place key) ss ≡ list_any (is_late_slot c.args.place key)
    c.self.inside.slots) c.insert.result c.insert.new.self
    (insert c.self.inside.slots c.in-Lacks.at c.in_ok-slot-in-Lacks.slot) c.self.inside.slots c.insert.ensures.ok
    c.insert.ensures.err
    (late_insert c.args.place c.key_in.result.now key c.self.inside.slots c.in-Lacks.at c.in_ok-slot-in-Lacks.slot
    (c.in_ok-slot-in-Lacks.ensures.key ∙ begins c) (subst (λ k. same_text k key ≡ false) (begins c) other))
    refl)
