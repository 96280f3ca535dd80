use Rattle.std.proofs.Common.{◌≡◌, ℕ, ◌+◌, ◌==◌, ◌&&◌, not, drop, length, sym, ◌∙◌, ap, arith}
use Rattle.fp_model.specs.Order.{is_child_of}
use Rattle.dli_tree.proofs.Positions.{place_end, place_found, place_from, place_init, place_next, place_other}
use Rattle.dli_tree.proofs.types.row_of.Goals as goal
use Rattle.dli_tree.proofs.types.row_of.Goals.{then-is_direct_child+else-child-from, else-is_direct_child}
use Rattle.plain_laws.proofs.Numbers.{other_number, same_number}

pub loop-child-init : goal.loop-child-init
loop-child-init c = (
  place_init (λ t. t == c.args.segment) (λ def. is_child_of c.args.parent def && not def.sequential)
      c.args.segments.now,
  omega arith,
)

pub loop-child-preserved : goal.loop-child-preserved
loop-child-preserved c =
    elim c.if-is_direct_child.branch [
      | then-is_direct_child+else-child-from w ↦
          let row : c.if-is_direct_child.row ≡ c.loop-child.row + 1 = w.row-is in (
            c.loop-child.invariant.0
                ∙ place_next (λ t. t == c.args.segment) (λ def. is_child_of c.args.parent def && not def.sequential)
                c.loop-child.row c.loop-child.child c.args.segments.now c.index-segments-child.result
                c.loop-child-test.true c.index-segments-child.is
                (sym c.is_direct_child.ensures ∙ w.if-is_direct_child.true)
                (other_number c.loop-child.child c.args.segment (λ e. w.if-child-from.false (e ∙ sym w.from.ensures)))
                ∙ ap (λ (n : ℕ). place_from (λ t. t == c.args.segment)
                (λ def. is_child_of c.args.parent def && not def.sequential) n (c.loop-child.child + 1)
                c.args.segments.now) (sym row),
            omega (arith, row, c.loop-child.invariant.1),
          )
      | else-is_direct_child w ↦ (
        c.loop-child.invariant.0
            ∙ place_other (λ t. t == c.args.segment) (λ def. is_child_of c.args.parent def && not def.sequential)
            c.loop-child.row c.loop-child.child c.args.segments.now c.index-segments-child.result
            c.loop-child-test.true c.index-segments-child.is
            (sym c.is_direct_child.ensures ∙ w.if-is_direct_child.false)
            ∙ ap (λ (n : ℕ). place_from (λ t. t == c.args.segment)
            (λ def. is_child_of c.args.parent def && not def.sequential) n (c.loop-child.child + 1)
            c.args.segments.now) (sym w.row-is),
        omega (arith, w.row-is, c.loop-child.invariant.1),
      )
    ]

pub returns-then-child-from : goal.returns-then-child-from
returns-then-child-from c =
    sym (c.loop-child.invariant.0 ∙ place_found (λ t. t == c.args.segment)
    (λ def. is_child_of c.args.parent def && not def.sequential) c.loop-child.row c.loop-child.child
    c.args.segments.now c.index-segments-child.result c.loop-child-test.true c.index-segments-child.is
    (sym c.is_direct_child.ensures ∙ c.if-is_direct_child.true)
    (same_number c.loop-child.child c.args.segment (c.if-child-from.true ∙ c.from.ensures)))

pub returns : goal.returns
returns c =
    sym (c.loop-child.invariant.0 ∙ place_end (λ t. t == c.args.segment)
    (λ def. is_child_of c.args.parent def && not def.sequential) c.loop-child.row c.loop-child.child
    c.args.segments.now (omega arith))
