-- Whether there is an exit of a kind: a look-up finds one exactly where the kinds have it.
use Rattle.std.proofs.Common.{◌≡◌, Bool, true, false, List, [], ◌∷◌, map, refl}
use Rattle.std.specs.Prelude.{All, ◌↔◌}
use Rattle.std.proofs.lemmas.List.Elements.{All-nil, All-cons, All-map, All-weaker}
use Rattle.std.proofs.lemmas.List.Folds.{list_any_none}
use Rattle.fp_model.specs.declared.definitions.Kind.{Kind}
use Rattle.fp_model.specs.declared.definitions.Kind.TheVariants.{Fold, Range}
use Rattle.fp_exits.specs.Kinds.{same_kind, has_kind}
use Rattle.std.proofs.lemmas.Bool.{or_parts}

differs : (a b : Kind) → same_kind a b ≡ false → ¬ (b ≡ a)
differs Fold Fold e same = absurd (cc)
differs Fold Range e same = absurd (cc)
differs Range Fold e same = absurd (cc)
differs Range Range e same = absurd (cc)

is_other : (a b : Kind) → ¬ (b ≡ a) → same_kind a b ≡ false
is_other Fold Fold d = absurd (d refl)
is_other Fold Range d = refl
is_other Range Fold d = refl
is_other Range Range d = absurd (d refl)

all_others : {X : Type 0} (f : X → Kind) (kind : Kind) (xs : List X) → has_kind (map f xs) kind ≡ false
    → All (λ x. ¬ (f x ≡ kind)) xs
all_others f kind [] e = All-nil (λ x. ¬ (f x ≡ kind))
all_others f kind (x ∷ xs) e =
    let h = or_parts (same_kind kind (f x)) (has_kind (map f xs) kind) e in
    All-cons (λ y. ¬ (f y ≡ kind)) x xs (differs kind (f x) h.0) (all_others f kind xs h.1)

none_has : {X : Type 0} (f : X → Kind) (kind : Kind) (xs : List X) → All (λ x. ¬ (f x ≡ kind)) xs
    → has_kind (map f xs) kind ≡ false
none_has f kind xs all =
    list_any_none (same_kind kind) (map f xs)
    (All-map (λ k. same_kind kind k ≡ false) f xs (All-weaker (λ x. ¬ (f x ≡ kind)) (λ x. same_kind kind (f x) ≡ false)
    (λ x d. is_other kind (f x) d) xs all))

same_answer : (a b : Bool) → (a ≡ false → b ≡ false) → (b ≡ false → a ≡ false) → a ≡ b
same_answer true true f g = refl
same_answer true false f g = g refl
same_answer false true f g = let e : true ≡ false = f refl in absurd (cc)
same_answer false false f g = refl

-- a look-up that finds none exactly where all are of other kinds
pub found_kind : {X : Type 0} (f : X → Kind) (kind : Kind) (xs : List X) (found : Bool)
    → (found ≡ false ↔ All (λ x. ¬ (f x ≡ kind)) xs) → found ≡ has_kind (map f xs) kind
found_kind f kind xs found none = same_answer found (has_kind (map f xs) kind) (λ e. none_has f kind xs (none.0 e))
    (λ e. none.1 (all_others f kind xs e))
