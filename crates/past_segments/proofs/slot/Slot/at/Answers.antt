use Rattle.std.proofs.Common.{◌≡◌, None, ℕ, List, arith, ap, sym, ◌∙◌, subst, length, slice_index_or, ◌-◌, ◌<◌, suc}
use Rattle.past_segments.specs.Times.{Rises, value_at}
use Rattle.past_segments.specs.inside.Times.{value_before}
use Rattle.past_segments.specs.declared.slot.Version.{Version}
use Rattle.past_segments.proofs.Values.{before_is}
use Rattle.past_segments.proofs.slot.Slot.at.Goals as goal

-- the last of the first n
last_of : (vs : List Version) (n : ℕ) (d : Version) → (n ≡ 0 → ⊥) → n - 1 < length vs
    → value_before None vs n ≡ (slice_index_or vs (n - 1) d).segment
last_of vs n d some within =
    let e : n ≡ suc (n - 1) = omega (arith, some) in
    ap (value_before None vs) e ∙ before_is None vs (n - 1) d within

pub returns : goal.returns
returns c up =
    let same : c.as_slice-versions.result.now ≡ c.args.self.now.versions = c.as_slice-versions.ensures in
    let within = c.count_up_to-count.ensures.within in
    let some = c.if-count-eq0.false in
    let at = c.index-versions-count.is in
    c.segment.ensures
    ∙ ap (λ (v : Version). v.segment) at
    ∙ sym (last_of c.as_slice-versions.result.now c.count_up_to-count.result c.index-versions-count.result some
    (omega (arith, within, some)))
    ∙ sym (c.count_up_to-count.ensures.value (subst Rises (sym same) up))
    ∙ ap (value_at c.args.place) same
