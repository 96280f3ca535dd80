use Rattle.std.proofs.Common.{◌≡◌, inl, inr, length, [], ◌∷◌, sym, ◌∙◌, ap, arith, length-append}
use Rattle.std.proofs.lemmas.Bool.{cases_lt}
use Rattle.memory_site.specs.Sets.{set_bytes, image_at}
use Rattle.memory_site.proofs.DataSets.{set_bytes-push_below, set_bytes-push_at, set_bytes_past, image_at_read, image_at_past}
use Rattle.memory_site.proofs.sets.copied_in.Goals as goal

pub loop-image-preserved : goal.loop-image-preserved
loop-image-preserved c =
    let i = c.loop-image.image-index in
    let old = c.loop-image.sets.items in
    let v = c.in_ok-from_slice.field-0 in
    let count = c.loop-image.invariant.count in
    record {
      count = ap length c.in_ok-push.ensures.items ∙ length-append old (v ∷ []) ∙ omega (arith, count);
      same = λ k lt. elim (cases_lt k i) [
        | inl below ↦ ap (λ l. set_bytes l k) c.in_ok-push.ensures.items ∙ set_bytes-push_below old v k
            (omega (arith, count)) ∙ c.loop-image.invariant.same k below
        | inr above ↦
            let is : k ≡ i = omega arith in
            ap (λ l. set_bytes l k) c.in_ok-push.ensures.items
            ∙ set_bytes-push_at old v k (omega (arith, count))
            ∙ c.in_ok-from_slice.ensures.items
            ∙ c.as_slice.ensures
            ∙ sym (image_at_read c.args.images.now i c.image-item.result c.loop-image-test.true c.image-item.is)
            ∙ ap (image_at c.args.images.now) (sym is)
      ];
    }

pub returns : goal.returns
returns c k = elim (cases_lt k c.loop-image.image-index) [
  | inl below ↦ c.loop-image.invariant.same k below
  | inr above ↦ set_bytes_past c.loop-image.sets.items k (omega (arith, c.loop-image.invariant.count)) ∙ sym
      (image_at_past c.args.images.now k (let t = c.loop-image-test.false in omega arith))
]
