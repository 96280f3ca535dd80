-- What a step of a run rests on: turns led from rest to the machine that the core stands for.
use Rattle.std.proofs.Common.{◌≡◌, refl, sym, subst, ℕ, List, []}
use Rattle.std.specs.Prelude.{Result, Ok, Err, IfOk, OnOk}
use Rattle.drain_laws.specs.Live.{IsReached}
use Rattle.drain_laws.specs.ProductGauge.{gauge_of}
use Rattle.drain_laws.proofs.InOrder.{rest_ordered}
use Rattle.drain_laws.proofs.Live.{rest_live}
use Rattle.fp_core.specs.Draining.{IsReachedBy}
use Rattle.fp_core.specs.Relation.{StandsFor, rules_in}
use Rattle.fp_core.specs.declared.engine.Engine.{Engine}
use Rattle.fp_model.specs.History.{History, beginning}
use Rattle.fp_model.specs.Machine.{Machine, at_rest}
use Rattle.fp_model.specs.Product.{rules_of}
use Rattle.fp_model.specs.Rules.{Rules}
use Rattle.fp_model.specs.State.{start}
use Rattle.fp_model.specs.declared.definitions.Defs.{Defs}
use Rattle.fp_model.specs.declared.scripts.Script.{Script}

-- what is so of a good answer makes another fact so
pub on_ok_by : {A E : Type 0} (Q : A → Type 0) (P : Type 0) (r : Result A E) → ((a : A) → Q a → P) → IfOk r Q → OnOk r P
on_ok_by Q P (Ok a) f h = f a h
on_ok_by Q P (Err e) f h = h

-- two facts of a good answer make a third
pub if_ok_both : {A E : Type 0} (P Q R : A → Type 0) (r : Result A E) → ((a : A) → P a → Q a → R a) → IfOk r P
    → IfOk r Q → IfOk r R
if_ok_both P Q R (Ok a) f p q = f a p q
if_ok_both P Q R (Err e) f p q = p

-- at rest, before any entry
pub reached_at_rest : (defs : Defs) (scripts : List Script) (format : ℕ) (engine : Engine)
    → rules_in engine ≡ rules_of defs scripts
    → StandsFor engine (at_rest (rules_of defs scripts) [] (beginning format (start defs)))
    → (m : Machine) × IsReachedBy engine m
reached_at_rest defs scripts format engine same stands =
    let rules : Rules = rules_of defs scripts in
    let h : History = beginning format (start defs) in
    let m : Machine = at_rest rules [] h in
    let reached : IsReached rules (gauge_of engine.defs.now) m = record {
      in_order = rest_ordered rules [] h;
      live = rest_live rules (gauge_of engine.defs.now) [] h;
    } in (
      m,
      record {
        stands = stands;
        reached = subst (λ (r : Rules). IsReached r (gauge_of engine.defs.now) m) (sym same) reached;
      },
    )
