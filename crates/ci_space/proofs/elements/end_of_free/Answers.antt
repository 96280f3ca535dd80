use Rattle.std.proofs.Common.{◌≤◌, length, arith}
use Rattle.ci_space.proofs.Chains.{Chain-end}
use Rattle.ci_space.proofs.Walks.{IsWhole, first-whole}
use Rattle.ci_space.proofs.elements.end_of_free.Goals as goal

pub is_used-requires : goal.is_used-requires
is_used-requires c =
    let n : c.args.at ≤ length c.args.bytes.now = omega (arith, Chain-end _ _ _ _ c.requires.1) in
    let w : IsWhole c.args.bytes.now c.args.at (length c.args.bytes.now) =
    first-whole c.requires.0 _ _ _ (omega arith) c.requires.1 in
    omega arith

pub length_at-requires : goal.length_at-requires
length_at-requires c =
    let n : c.args.at ≤ length c.args.bytes.now = omega (arith, Chain-end _ _ _ _ c.requires.1) in
    let w : IsWhole c.args.bytes.now c.args.at (length c.args.bytes.now) =
    first-whole c.requires.0 _ _ _ (omega arith) c.requires.1 in
    omega arith
