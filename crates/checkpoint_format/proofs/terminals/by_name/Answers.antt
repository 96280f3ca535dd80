use Rattle.std.proofs.Common.{◌≡◌, ◌++◌, ◌∷◌, ◌∙◌, ap, sym, map, subst, true}
use Rattle.fp_model.specs.Lasts.{Last, with_last}
use Rattle.fp_model.specs.State.{ascend}
use Rattle.checkpoint_format.specs.inside.Terminals.{as_last}
use Rattle.checkpoint_format.proofs.Behind.{last_behind, regrouped}
use Rattle.checkpoint_format.proofs.terminals.by_name.Goals as goal

pub loop-terminal-preserved : goal.loop-terminal-preserved
loop-terminal-preserved c =
    let left = c.next.new.self.rest.items in
    let last = as_last c.in-Some.terminal in
    let all : c.loop-terminal.lasts.terminals ++ last ∷ map as_last left ≡ map as_last c.args.terminals.items =
    ap (λ ts. c.loop-terminal.lasts.terminals ++ map as_last ts) (sym c.in-Some.ensures.steps.0)
    ∙ c.loop-terminal.invariant in
    let up = subst (λ ts. ascend (map (λ (l : Last). l.lterm.0) ts) ≡ true) (sym all) c.requires in
    ap (λ ts. ts ++ map as_last left) (c.set.ensures.terminals
    ∙ ap (with_last last) c.in_ok-reserve.ensures.terminals
    ∙ last_behind last c.loop-terminal.lasts.terminals (map as_last left) up)
    ∙ regrouped c.loop-terminal.lasts.terminals last (map as_last left) ∙ all
