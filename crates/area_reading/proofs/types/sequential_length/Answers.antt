use Rattle.std.proofs.Common.{◌≡◌, ◌∙◌, ◌∷◌, ◌+◌, drop, sym, ap, arith}
use Rattle.std.specs.Prelude.{if◌then◌else◌}
use Rattle.area_reading.proofs.Lengths.{first_length, sequential_first}
use Rattle.area_reading.proofs.types.sequential_length.Goals as goal
use Rattle.plain_laws.proofs.Lists.{drop_whole}
use Rattle.plain_laws.proofs.Places.{rest_at}

pub returns-then-def : goal.returns-then-def
returns-then-def c = λ has.
    let types = c.args.types.now in
    let n = c.loop-def.def-index in
    let def = c.def-item.result in
    let at = rest_at types n def c.loop-def-test.true c.def-item.is in
    let first : (if def.sequential then def.length else first_length (drop (n + 1) types)) ≡ first_length types =
    ap first_length (sym at) ∙ c.loop-def.invariant in
    let here : def.length ≡ first_length types = rw c.if-def.true at first in
    here ∙ sym (sequential_first types has)

pub loop-def-preserved : goal.loop-def-preserved
loop-def-preserved c =
    let types = c.args.types.now in
    let n = c.loop-def.def-index in
    let def = c.def-item.result in
    let at = rest_at types n def c.loop-def-test.true c.def-item.is in
    let first : (if def.sequential then def.length else first_length (drop (n + 1) types)) ≡ first_length types =
    ap first_length (sym at) ∙ c.loop-def.invariant in
    rw c.if-def.false at first

pub returns : goal.returns
returns c = λ has.
    let types = c.args.types.now in
    let none = drop_whole types c.loop-def.def-index (omega (arith, c.loop-def-test.false)) in
    sym (ap first_length none) ∙ c.loop-def.invariant ∙ sym (sequential_first types has)
