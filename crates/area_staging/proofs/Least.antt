-- An item is the least.
use Rattle.std.proofs.Common.{◌≡◌, ℕ, ◌+◌, ◌-◌, ◌<◌, Bool, true, false, List, [], ◌∷◌, ◌++◌, length, take, drop, get_or, refl, sym, ◌∙◌, ap, subst, arith}
use Rattle.std.specs.Prelude.{◌&&◌, nat_lt, Option, Some, None}
use Rattle.std.specs.List.{AllByRecursion}
use Rattle.std.proofs.lemmas.Bool.Decides.{nat_tests}
use Rattle.std.proofs.lemmas.List.{append-nil, get_or-drop, get_or-take, length-drop, length-take-le}
use Rattle.fp_model.specs.declared.log.Item.{Item}
use Rattle.area_staging.specs.declared.extent.Extent.{Extent}
use Rattle.area_staging.specs.Changing.{IsLeastOf}
use Rattle.area_staging.specs.inside.Changing.{IsItemFor}
use Rattle.area_staging.specs.Items.{DiffersAtEnds, DiffersIn, IsItemOf, items_in}
use Rattle.plain_laws.proofs.Alls.{all_append}

-- one that stood has no item since the mark where neither is said
flag_here : (flag : Bool) (ci count : ℕ) → (flag && nat_lt ci count) ≡ false → ci < count → flag ≡ false
flag_here true ci count e lt =
    let below : nat_lt ci count ≡ true = grind (arith, nat_tests, lt) in
    let both : true ≡ false = sym below ∙ e in
    absurd cc
flag_here false ci count e lt = refl

-- what differs from one place to another begins and ends so
ends_differ : (old new : List ℕ) (first last : ℕ) → DiffersIn old new first last
    → DiffersAtEnds old first (take (last - first) (drop first new))
ends_differ old new first last d =
    let some = d.some in
    let within = d.within in
    let rest = length-drop first new in
    let part : List ℕ = take (last - first) (drop first new) in
    let long : length part ≡ last - first =
    length-take-le (last - first) (drop first new) (omega (arith, rest, within, some)) in
    let at : (i : ℕ) → i < last - first → get_or part i 0 ≡ get_or new (first + i) 0 =
    λ i lt. get_or-take (last - first) (drop first new) i 0 lt ∙ get_or-drop first new i 0 in
    let begins : first + 0 ≡ first = omega arith in
    let ends : first + (length part - 1) ≡ last - 1 = omega (arith, long, some) in
    let below : length part - 1 < last - first = omega (arith, long, some) in
    record {
      some = omega (arith, long, some);
      first = λ e. d.first_differs (sym e ∙ at 0 (omega (arith, some)) ∙ ap (λ k. get_or new k 0) begins);
      last = λ e. d.last_differs (ap (λ k. get_or old k 0) (sym ends) ∙ sym e ∙ at (length part - 1) below
          ∙ ap (λ k. get_or new k 0) ends);
    }

least_one : (count : ℕ) (imaged : ℕ → Bool) (bytes : ℕ → List ℕ) (set ci : ℕ) (new : List ℕ) (flag : Bool) (item : Item)
    → flag ≡ (imaged ci && nat_lt ci count) → IsItemOf flag set ci (bytes ci) new item
    → IsLeastOf count imaged bytes item
least_one count imaged bytes set ci new false item e is =
    subst (IsLeastOf count imaged bytes) (sym is) (λ lt. flag_here (imaged ci) ci count (sym e) lt)
least_one count imaged bytes set ci new true item e is =
    subst (IsLeastOf count imaged bytes) (sym is.is) (ends_differ (bytes ci) new is.first is.last is.differs)

-- a list of such goes on
pub least_more : (imaged : ℕ → Bool) (area : Extent) (bytes : ℕ → List ℕ) (ci : ℕ) (new : List ℕ)
    (items after : List Item) (o : Option Item) → IsItemFor (imaged ci) area ci (bytes ci) new o
    → after ≡ items ++ items_in o → AllByRecursion (IsLeastOf area.count imaged bytes) items
    → AllByRecursion (IsLeastOf area.count imaged bytes) after
least_more imaged area bytes ci new items after None step e all =
    subst (AllByRecursion (IsLeastOf area.count imaged bytes)) (sym (e ∙ append-nil items)) all
least_more imaged area bytes ci new items after (Some item) step e all =
    subst (AllByRecursion (IsLeastOf area.count imaged bytes)) (sym e)
    (all_append (IsLeastOf area.count imaged bytes) items (item ∷ []) all
    (least_one area.count imaged bytes area.set ci new (imaged ci && nat_lt ci area.count) item refl step.0, tt))
