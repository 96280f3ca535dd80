use Rattle.std.proofs.Common.{◌≡◌, inl, inr, length, [], ◌∷◌, sym, ◌∙◌, ap, arith, length-append}
use Rattle.std.proofs.lemmas.Bool.{cases_lt}
use Rattle.memory_site.specs.Sets.{set_bytes, image_at}
use Rattle.memory_site.proofs.DataSets.{image_at-push_below, image_at-push_at, image_at_past, set_bytes_read, set_bytes_past}
use Rattle.memory_site.proofs.sets.copied_out.Goals as goal

pub loop-bytes-preserved : goal.loop-bytes-preserved
loop-bytes-preserved c =
    let i = c.loop-bytes.bytes-index in
    let old = c.loop-bytes.images in
    let v = c.in_ok-from_slice.field-0 in
    let count = c.loop-bytes.invariant.count in
    record {
      count = ap length c.in_ok-push.ensures.ok ∙ length-append old (v ∷ []) ∙ omega (arith, count);
      same = λ k lt. elim (cases_lt k i) [
        | inl below ↦ ap (λ l. image_at l k) c.in_ok-push.ensures.ok ∙ image_at-push_below old v k
            (omega (arith, count)) ∙ c.loop-bytes.invariant.same k below
        | inr above ↦
            let is : k ≡ i = omega arith in
            ap (λ l. image_at l k) c.in_ok-push.ensures.ok
            ∙ image_at-push_at old v k (omega (arith, count))
            ∙ c.in_ok-from_slice.ensures
            ∙ c.deref.ensures.value
            ∙ sym (set_bytes_read c.args.sets.now i c.bytes-item.result c.loop-bytes-test.true c.bytes-item.is)
            ∙ ap (set_bytes c.args.sets.now) (sym is)
      ];
    }

pub returns : goal.returns
returns c k = elim (cases_lt k c.loop-bytes.bytes-index) [
  | inl below ↦ c.loop-bytes.invariant.same k below
  | inr above ↦ image_at_past c.loop-bytes.images k (omega (arith, c.loop-bytes.invariant.count)) ∙ sym
      (set_bytes_past c.args.sets.now k (let t = c.loop-bytes-test.false in omega arith))
]
