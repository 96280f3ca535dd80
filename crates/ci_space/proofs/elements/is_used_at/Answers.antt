use Rattle.std.proofs.Common.{◌≡◌, ◌≤◌, length, false, sym, ◌∙◌, arith}
use Rattle.ci_space.proofs.Walks.{IsWhole}
use Rattle.ci_space.proofs.Tilings.{used-whole, interval-tiled}
use Rattle.ci_space.proofs.Standing.{up-begins, up-on, up-whole, up-within, up-used, up-none, untiled-none, used-tag}
use Rattle.ci_space.proofs.elements.is_used_at.Goals as goal

pub returns-then-not-holds_elements : goal.returns-then-not-holds_elements
returns-then-not-holds_elements c = (
  (λ h. absurd (cc)),
  λ u. absurd (untiled-none _ _ (sym c.holds_elements.ensures ∙ c.if-not-holds_elements.true) u),
)

pub loop-place-init : goal.loop-place-init
loop-place-init c = up-begins _ _ false (interval-tiled _ c.requires
    (sym c.holds_elements.ensures ∙ c.if-not-holds_elements.false))

pub returns-then-place-bytes : goal.returns-then-place-bytes
returns-then-place-bytes c = (
  (λ h. absurd (cc)),
  λ u.
      let w : IsWhole c.args.bytes.now c.args.at (length c.args.bytes.now) = used-whole _ _ u in
      absurd (omega arith),
)

pub length_at-place-requires : goal.length_at-place-requires
length_at-place-requires c =
    let l : c.loop-place.place ≤ length c.args.bytes.now = up-within _ _ _ c.loop-place.invariant in
    let w : IsWhole c.args.bytes.now c.loop-place.place (length c.args.bytes.now) =
    up-whole _ _ _ (omega arith) c.loop-place.invariant in
    omega arith

pub loop-place-smaller : goal.loop-place-smaller
loop-place-smaller c =
    let l : c.loop-place.place ≤ length c.args.bytes.now = up-within _ _ _ c.loop-place.invariant in
    let w : IsWhole c.args.bytes.now c.loop-place.place (length c.args.bytes.now) =
    up-whole _ _ _ (omega arith) c.loop-place.invariant in
    omega arith

pub loop-place-preserved : goal.loop-place-preserved
loop-place-preserved c =
    let l : c.loop-place.place ≤ length c.args.bytes.now = up-within _ _ _ c.loop-place.invariant in
    rw c.length_at-place.ensures.length (up-on _ _ _ c.loop-place-test.true (omega arith) c.loop-place.invariant)

pub returns-then-at-place : goal.returns-then-at-place
returns-then-at-place c = (
  (λ h. absurd (cc)),
  λ u. absurd (up-none _ _ _ (omega arith) c.loop-place.invariant (λ e. absurd (omega arith))
      c.requires (sym c.holds_elements.ensures ∙ c.if-not-holds_elements.false) u),
)

pub returns-then-at-bytes : goal.returns-then-at-bytes
returns-then-at-bytes c = (
  (λ h. absurd (cc)),
  λ u.
      let w : IsWhole c.args.bytes.now c.args.at (length c.args.bytes.now) = used-whole _ _ u in
      absurd (omega arith),
)

pub is_used-requires : goal.is_used-requires
is_used-requires c =
    let e : c.loop-place.place ≡ c.args.at = omega arith in
    let l : c.loop-place.place ≤ length c.args.bytes.now = up-within _ _ _ c.loop-place.invariant in
    let w : IsWhole c.args.bytes.now c.loop-place.place (length c.args.bytes.now) =
    up-whole _ _ _ (omega arith) c.loop-place.invariant in
    omega arith

pub returns : goal.returns
returns c =
    let e : c.loop-place.place ≡ c.args.at = omega arith in
    let l : c.loop-place.place ≤ length c.args.bytes.now = up-within _ _ _ c.loop-place.invariant in
    let t = c.is_used.ensures in (
      (λ h. up-used _ c.loop-place.place _ e (omega arith) (rw e (t.0 h)) c.loop-place.invariant c.requires
          (sym c.holds_elements.ensures ∙ c.if-not-holds_elements.false)),
      λ u. t.1 (used-tag _ _ u),
    )
