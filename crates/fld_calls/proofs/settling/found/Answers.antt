use Rattle.std.proofs.Common.{rules, ◌≤◌, ◌+◌, length}
use Rattle.fld_calls.proofs.TryLemmas.{found_within}
use Rattle.fld_calls.proofs.settling.found.Goals as goal

pub slice_bounds-from_slice-end : goal.slice_bounds-from_slice-end
slice_bounds-from_slice-end c =
    let field = c.in-Some.field in
    let within : field.at + field.length ≤ length c.args.segment.now =
    found_within c.args.fields.now (length c.args.segment.now) c.args.fsa.now.field.0 field c.requires
    c.in-Some.ensures in
    search rules
