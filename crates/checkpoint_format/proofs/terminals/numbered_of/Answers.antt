use Rattle.std.proofs.Common.{◌∙◌, ap, sym, map}
use Rattle.fp_model.specs.Lasts.{Last}
use Rattle.fp_model.specs.State.{ascend}
use Rattle.checkpoint_format.specs.inside.Terminals.{as_last}
use Rattle.checkpoint_format.proofs.Behind.{none_numbered}
use Rattle.checkpoint_format.proofs.terminals.numbered_of.Goals as goal
use Rattle.plain_laws.proofs.Lists.{map_twice}

pub returns-then-not-ascends : goal.returns-then-not-ascends
returns-then-not-ascends c = λ other.
    none_numbered c.args.bytes.now c.in_ok-count.count c.in_ok-count.rest.now
    (map as_last c.in_ok-terminals.terminals.items) c.in_ok-terminals.rest.now c.in_ok-count.ensures.value
    c.in_ok-terminals.ensures
    (ap ascend (map_twice as_last (λ (l : Last). l.lterm.0) c.in_ok-terminals.terminals.items
    ∙ ap (map (λ t. t.lterm.0)) (sym c.as_slice.ensures.value)) ∙ sym c.ascends.ensures ∙ c.if-not-ascends.true)

pub by_name-requires : goal.by_name-requires
by_name-requires c =
    ap ascend (map_twice as_last (λ (l : Last). l.lterm.0) c.in_ok-terminals.terminals.items
    ∙ ap (map (λ t. t.lterm.0)) (sym c.as_slice.ensures.value)) ∙ sym c.ascends.ensures ∙ c.if-not-ascends.false
