use Rattle.std.proofs.Common.{arith}
use Rattle.ci_space.proofs.Contents.{IsWithin, used-within, used-content}
use Rattle.ci_space.proofs.elements.content.Goals as goal

pub length_at-requires : goal.length_at-requires
length_at-requires c = let w : IsWithin c.args.bytes.now c.args.at 0 = used-within _ _ c.requires in omega arith

pub overflow_add-result : goal.overflow_add-result
overflow_add-result c = let w : IsWithin c.args.bytes.now c.args.at 0 = used-within _ _ c.requires in omega arith

pub slice_bounds-result-count : goal.slice_bounds-result-count
slice_bounds-result-count c = let w : IsWithin c.args.bytes.now c.args.at 0 = used-within _ _ c.requires in omega arith

pub slice_bounds-result-start : goal.slice_bounds-result-start
slice_bounds-result-start c = let w : IsWithin c.args.bytes.now c.args.at 0 = used-within _ _ c.requires in omega arith

pub slice_bounds-result-end : goal.slice_bounds-result-end
slice_bounds-result-end c = let w : IsWithin c.args.bytes.now c.args.at 0 = used-within _ _ c.requires in omega arith

pub returns : goal.returns
returns c = λ segment content used. used-content _ _ _ segment content c.length_at.ensures.length used
