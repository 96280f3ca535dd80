-- Which kinds of exit an installation has.
use denote.Param.Members.{Mut}
use Rattle.std.specs.Prelude.{ℕ, ⊤, List, map, Bool, true, false}
use Rattle.std.specs.List.{list_any}
use Rattle.std.specs.Borrow.{Bor}
use Rattle.fp_model.specs.declared.definitions.Kind.{Kind}
use Rattle.fp_model.specs.declared.definitions.Kind.TheVariants.{Fold, Range}
use Rattle.fp_model.specs.declared.name.Name.{Name}
use Rattle.fp_exits.specs.declared.exits.Exits.{Exits}

-- the kinds of its routers and of its spreaders
pub record Kinds : Type 0 where
  pub routers : List Kind
  pub spreaders : List Kind

-- those that it was built with; X and Y are the types of the boxed functions, and m and n what calls of them do
abbrev pub kinds_of :
    {X Y : Type 0} {F : X → Type 0} {G : Y → Type 0}
    {m : Mut ((x : X) × F x) (Bor (List ℕ) × (ℕ × ⊤)) ℕ} {n : Mut ((y : Y) × G y) (Bor Name × (ℕ × ⊤)) ℕ}
    → Exits X Y F G m n → Kinds
kinds_of exits = record {
  routers = map (λ one. one.kind) exits.routers.items;
  spreaders =
      map (λ one. one.kind) exits.spreaders.items;
}

abbrev pub same_kind : Kind → Kind → Bool
same_kind Fold Fold = true
same_kind Fold Range = false
same_kind Range Fold = false
same_kind Range Range = true

-- whether a kind is among several
abbrev pub has_kind : List Kind → Kind → Bool
has_kind kinds kind = list_any (same_kind kind) kinds
