use Rattle.std.proofs.Common.{◌≡◌, ◌∙◌, ap, sym, subst, arith, length}
use Rattle.fp_model.specs.Lasts.{with_last}
use Rattle.balancing.specs.Numbered.{lasts_in}
use Rattle.balancing.specs.inside.Numbered.{IsPlaced}
use Rattle.balancing.specs.declared.lasts.Place.TheVariants.{Stands, Lacks}
use Rattle.key_order.proofs.Ascending.{IsAscending, put_over, put_in, with_one_ascends}
use Rattle.balancing.proofs.LastLemmas.{key, lasts_length}
use Rattle.balancing.proofs.lasts.Lasts.set.Goals as goal

-- over that of its name
over : (c : goal.After-put_over) → lasts_in c.put_over.new.terminals.items
    ≡ with_last (record { lterm = c.args.lterm.now; number = c.args.number; line = c.args.line })
    (lasts_in c.self.inside.terminals.items)
over c =
    let all = ap lasts_in c.deref.ensures.value in
    let p = subst (λ ls. IsPlaced key c.args.lterm.now.0 ls (Stands c.in-Stands.at)) all
    (c.in-Stands.ensures.place (subst (IsAscending key) (sym all) c.self.invariant.0)) in
    c.put_over.ensures.items
    ∙ put_over key _ (lasts_in c.self.inside.terminals.items) c.in-Stands.at p.1 c.self.invariant.0 p.0 p.2 p.3

-- or at its place
beside : (c : goal.After-put_in) → lasts_in c.put_in.new.terminals.items
    ≡ with_last (record { lterm = c.args.lterm.now; number = c.args.number; line = c.args.line })
    (lasts_in c.self.inside.terminals.items)
beside c =
    let all = ap lasts_in c.deref.ensures.value in
    let p = subst (λ ls. IsPlaced key c.args.lterm.now.0 ls (Lacks c.in-Lacks.at)) all
    (c.in-Lacks.ensures.place (subst (IsAscending key) (sym all) c.self.invariant.0)) in
    c.put_in.ensures.items
    ∙ put_in key _ (lasts_in c.self.inside.terminals.items) c.in-Lacks.at c.self.invariant.0 p.0 p.1
    (omega (
      arith,
      c.in-Lacks.ensures.within,
      ap length all,
      lasts_length c.self.inside.terminals.items,
      ap length
          c.deref.ensures.value,
    ))

pub invariant_of-self : goal.invariant_of-self
invariant_of-self c = (
  subst (IsAscending key) (sym (over c)) (with_one_ascends key _ (lasts_in c.self.inside.terminals.items)
      c.self.invariant.0),
  omega (arith, c.put_over.ensures.length, c.put_over.ensures.capacity, c.self.invariant.1),
)

pub invariant_of-self-in-Lacks : goal.invariant_of-self-in-Lacks
invariant_of-self-in-Lacks c = (
  subst (IsAscending key) (sym (beside c)) (with_one_ascends key _ (lasts_in c.self.inside.terminals.items)
      c.self.invariant.0),
  c.put_in.ensures.room,
)

pub returns-in-Stands-clause-terminals : goal.returns-in-Stands-clause-terminals
returns-in-Stands-clause-terminals c = over c ∙ ap (λ s. with_last
    (record { lterm = c.args.lterm.now; number = c.args.number; line = c.args.line }) s.terminals) c.self.view_is

pub returns-in-Lacks-clause-terminals : goal.returns-in-Lacks-clause-terminals
returns-in-Lacks-clause-terminals c = beside c ∙ ap (λ s. with_last
    (record { lterm = c.args.lterm.now; number = c.args.number; line = c.args.line }) s.terminals) c.self.view_is
