use Rattle.std.proofs.Common.{◌≡◌, ◌∙◌, ℕ, sym, ap, rules, Bool, true, false, not, List, [], map, take, get_or, Bor, Some, Err}
use Rattle.def_tables.specs.Keys.{all_once, occurs, repeated}
use Rattle.def_tables.specs.declared.fault.DefsFault.TheVariants.{Twice}
use Rattle.def_tables.proofs.TextLemmas.{seen_more, repeated_here, repeated_later}
use Rattle.def_tables.proofs.texts.all_once.Goals as goal

from_not : (a b : Bool) → a ≡ not b → a ≡ false → b ≡ true
from_not a true e f = search rules
from_not a false e f = search rules

from_not-true : (a b : Bool) → a ≡ not b → a ≡ true → b ≡ false
from_not-true a true e f = search rules
from_not-true a false e f = search rules

pub returns-in-Ok-false : goal.returns-in-Ok-false
unfolding all_once
returns-in-Ok-false c =
    let texts = c.args.texts.now in
    let i = c.loop-text.text-index in
    let t : Bor (List ℕ) = get_or texts i (record { ref_ptr = (0, 0); now = [] }) in
    let occurred : occurs (map (λ t. t.now) (take i texts)) t.now ≡ true =
    sym (c.loop-text.invariant.0 t) ∙ from_not _ _ c.in-Ok-false.ensures.added c.in-Ok-false.field-0-test
    in
    let is : repeated [] (map (λ t. t.now) texts) ≡ Some t.now =
    sym c.loop-text.invariant.1 ∙ repeated_here (λ t. t.now) texts i (record { ref_ptr = (0, 0); now = [] })
    c.loop-text-test.true occurred
    in
    λ real. rw is (ap (λ text. Err (Twice text)) (sym c.without_blanks.ensures.exact) ∙ ap Err (sym (c.twice.ensures.exact real)))

pub loop-text-preserved : goal.loop-text-preserved
loop-text-preserved c =
    let texts = c.args.texts.now in
    let i = c.loop-text.text-index in
    let t : Bor (List ℕ) = get_or texts i (record { ref_ptr = (0, 0); now = [] }) in
    let new : occurs (map (λ t. t.now) (take i texts)) t.now ≡ false =
    sym (c.loop-text.invariant.0 t) ∙ from_not-true _ _ c.in-Ok-true.ensures.added c.in-Ok-true.field-0-test
    in (
      λ q. seen_more (λ t. t.now) texts i (record { ref_ptr = (0, 0); now = [] }) c.loop-text-test.true q.now _ _
          (c.in-Ok-true.ensures.updates.0 q) (c.loop-text.invariant.0 q),
      sym (repeated_later (λ t. t.now) texts i (record { ref_ptr = (0, 0); now = [] }) c.loop-text-test.true new) ∙
          c.loop-text.invariant.1,
    )
