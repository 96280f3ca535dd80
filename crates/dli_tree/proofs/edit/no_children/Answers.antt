use Rattle.std.proofs.Common.{◌≡◌, ◌∙◌, ◌++◌, ◌∷◌, ◌+◌, ◌&&◌, ℕ, List, not, [], ap, sym, length, replicate, append_assoc, arith}
use Rattle.std.proofs.lemmas.List.{append-nil}
use Rattle.fp_model.specs.declared.database.Node.{Node}
use Rattle.fp_model.specs.Order.{child_types, is_child_of}
use Rattle.dli_tree.proofs.Rows.{kinds_end, kinds_from, kinds_next, kinds_other}
use Rattle.dli_tree.proofs.edit.no_children.Goals as goal

pub loop-child-preserved-then-not-is_direct_child : goal.loop-child-preserved-then-not-is_direct_child
loop-child-preserved-then-not-is_direct_child c =
    let types = c.args.segments.now in
    let next = kinds_other types (λ def. is_child_of c.args.segment def && not def.sequential) c.loop-child.child
    c.index-segments-child.result (omega arith) c.index-segments-child.is
    (sym c.is_direct_child.ensures ∙ c.if-not-is_direct_child.true) in
    ap (λ (ks : List ℕ). c.loop-child.rows ++ replicate (length ks) []) (sym next) ∙ c.loop-child.invariant

pub loop-child-preserved : goal.loop-child-preserved
loop-child-preserved c =
    let types = c.args.segments.now in
    let rest = kinds_from types (λ def. is_child_of c.args.segment def && not def.sequential) (c.loop-child.child + 1)
    in
    let next = kinds_next types (λ def. is_child_of c.args.segment def && not def.sequential) c.loop-child.child
    c.index-segments-child.result (omega arith) c.index-segments-child.is
    (sym c.is_direct_child.ensures ∙ c.if-not-is_direct_child.false) in
    ap (λ (rows : List (List (Node))). rows ++ replicate (length rest) [])
    (c.in_ok-push.ensures.ok ∙ ap (λ (row : List Node). c.loop-child.rows ++ row ∷ []) c.new.ensures)
    ∙ append_assoc c.loop-child.rows ([] ∷ []) (replicate (length rest) [])
    ∙ ap (λ (ks : List ℕ). c.loop-child.rows ++ replicate (length ks) []) (sym next) ∙ c.loop-child.invariant

pub returns : goal.returns
returns c =
    let types = c.args.segments.now in
    let end = kinds_end types (λ def. is_child_of c.args.segment def && not def.sequential) c.loop-child.child
    (omega arith) in
    sym (append-nil c.loop-child.rows) ∙ ap (λ (ks : List ℕ). c.loop-child.rows ++ replicate (length ks) []) (sym end) ∙
    c.loop-child.invariant
