use Rattle.std.proofs.Common.{arith, rules}
use Rattle.log_groups.proofs.BufferParts.{header_inside, end_inside, entry_on}
use Rattle.log_groups.proofs.buffer.next_end.Goals as goal

pub slice_bounds-number_of-end : goal.slice_bounds-number_of-end
slice_bounds-number_of-end c = let inside = header_inside c.args.buffer.now c.args.at c.requires in
    search (rules, inside)

pub returns-clause-inside : goal.returns-clause-inside
returns-clause-inside c = end_inside c.args.buffer.now c.args.at c.number_of-number.result c.requires (search rules)
    c.number_of-number.type_inv

pub returns-clause-rest : goal.returns-clause-rest
returns-clause-rest c e entries spelled text = entry_on c.args.buffer.now c.args.at c.number_of-number.result e entries
    spelled text (search rules) c.number_of-number.type_inv

-- the end is within the buffer
pub overflow_add-result : goal.overflow_add-result
overflow_add-result c =
    let inside = end_inside c.args.buffer.now c.args.at c.number_of-number.result c.requires (search rules)
    c.number_of-number.type_inv in search (arith, rules, inside)

pub overflow_add-result-2 : goal.overflow_add-result-2
overflow_add-result-2 c =
    let inside = end_inside c.args.buffer.now c.args.at c.number_of-number.result c.requires (search rules)
    c.number_of-number.type_inv in search (arith, rules, inside)
