use Rattle.std.proofs.Common.{◌≡◌, ◌∙◌, ap, sym, subst, take, true, false}
use Rattle.std.specs.Option.{option_copied}
use Rattle.fp_model.specs.State.{key_of}
use Rattle.fp_model.specs.Texts.{same_text}
use Rattle.key_order.specs.Places.{if_same}
use Rattle.key_order.proofs.Ascending.{at_within, lacks_there, place_of_same, same_place}
use Rattle.msdb_store.proofs.table.Table.place.Goals as goal

pub returns-then-has_key-clause-place : goal.returns-then-has_key-clause-place
returns-then-has_key-clause-place c up =
    let found = c.has_key.ensures.same c.if-has_key.true in
    let same : same_text (key_of c.args.self.now.fields found.0) c.args.key.now ≡ true =
    subst (λ count. same_text (take count found.0) c.args.key.now ≡ true) c.key_length-count.ensures found.2 in (
      place_of_same (key_of c.args.self.now.fields) c.args.key.now c.args.self.now.segments.items c.guess-guess.result
          found.0 up found.1 same,
      found.0,
      found.1,
      same,
    )

pub returns-then-eq-clause-within : goal.returns-then-eq-clause-within
returns-then-eq-clause-within c = at_within (λ s. s) _ _ _ (sym c.get.ensures ∙ ap option_copied c.in-Some.is)

pub returns-in_default-clause-place : goal.returns-in_default-clause-place
returns-in_default-clause-place c up = (
  same_place _ _ _ _ _ c.key_length-count.ensures c.count_below-at.ensures.place up,
  ap (if_same (key_of c.args.self.now.fields) c.args.key.now) (sym c.get.ensures ∙ ap option_copied c.in_default.is),
)

pub returns-then-eq-clause-place : goal.returns-then-eq-clause-place
returns-then-eq-clause-place c up = (
  same_place _ _ _ _ _ c.key_length-count.ensures c.count_below-at.ensures.place up,
  c.in-Some.segment.now,
  sym c.get.ensures ∙ ap option_copied c.in-Some.is,
  subst (λ count. same_text (take count c.in-Some.segment.now) c.args.key.now ≡ true) c.key_length-count.ensures
      (ap (λ k. same_text k c.args.key.now) (sym c.key_in.ensures) ∙ sym c.eq.ensures ∙ c.if-eq.true),
)

pub returns-else-eq-clause-place : goal.returns-else-eq-clause-place
returns-else-eq-clause-place c up = (
  same_place _ _ _ _ _ c.key_length-count.ensures c.count_below-at.ensures.place up,
  lacks_there (key_of c.args.self.now.fields) c.args.key.now c.args.self.now.segments.items c.count_below-at.result
      c.in-Some.segment.now
      (sym c.get.ensures ∙ ap option_copied c.in-Some.is)
      (subst (λ count. same_text (take count c.in-Some.segment.now) c.args.key.now ≡ false) c.key_length-count.ensures
      (ap (λ k. same_text k c.args.key.now) (sym c.key_in.ensures) ∙ sym c.eq.ensures ∙ c.if-eq.false)),
)
