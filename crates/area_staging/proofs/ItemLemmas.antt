-- What the item of a changed interval makes of it.
use Rattle.std.proofs.Common.{◌≡◌, inl, inr, ℕ, zero, suc, ◌+◌, ◌-◌, ◌<◌, ◌≤◌, Bool, true, false, List, [], ◌∷◌, ◌++◌, length, take, drop, get_or, refl, ◌∙◌, ap, arith}
use Rattle.std.specs.Prelude.{◌==◌, ◌&&◌}
use Rattle.std.proofs.lemmas.Bool.{cases_Bool}
use Rattle.std.proofs.lemmas.List.{length-drop, length-take-le, take-append-drop}
use Rattle.fp_site.specs.Disk.{written}
use Rattle.fp_site.specs.Written.{zeros}
use Rattle.fp_site.specs.inside.Written.{written_some}
use Rattle.fp_model.specs.ItemTargets.{names_interval}
use Rattle.fp_model.specs.declared.log.Item.{Item}
use Rattle.area_redo.specs.Redo.{names, put}
use Rattle.area_staging.specs.Items.{DiffersIn, IsItemOf}

-- ---- a range of what differs

take_same : (n : ℕ) (xs ys : List ℕ) → length xs ≡ length ys → ((i : ℕ) → i < n → get_or xs i 0 ≡ get_or ys i 0)
    → take n xs ≡ take n ys
take_same zero xs ys e f = refl
take_same (suc n) [] [] e f = refl
take_same (suc n) [] (y ∷ ys) e f = absurd (omega (arith, e))
take_same (suc n) (x ∷ xs) [] e f = absurd (omega (arith, e))
take_same (suc n) (x ∷ xs) (y ∷ ys) e f =
    let here : x ≡ y = f 0 (omega arith) in
    let rest : take n xs ≡ take n ys =
    take_same n xs ys (omega (arith, e)) (λ i lt. f (suc i) (omega (arith, lt))) in
    cc

drop_same : (n : ℕ) (xs ys : List ℕ) → length xs ≡ length ys → ((i : ℕ) → n ≤ i → get_or xs i 0 ≡ get_or ys i 0)
    → drop n xs ≡ drop n ys
drop_same zero [] [] e f = refl
drop_same zero [] (y ∷ ys) e f = absurd (omega (arith, e))
drop_same zero (x ∷ xs) [] e f = absurd (omega (arith, e))
drop_same zero (x ∷ xs) (y ∷ ys) e f =
    let here : x ≡ y = f 0 (omega arith) in
    let rest : xs ≡ ys = drop_same zero xs ys (omega (arith, e)) (λ i le. f (suc i) (omega arith)) in
    cc
drop_same (suc n) [] [] e f = refl
drop_same (suc n) [] (y ∷ ys) e f = absurd (omega (arith, e))
drop_same (suc n) (x ∷ xs) [] e f = absurd (omega (arith, e))
drop_same (suc n) (x ∷ xs) (y ∷ ys) e f =
    drop_same n xs ys (omega (arith, e)) (λ i le. f (suc i) (omega (arith, le)))

take_none : (k : ℕ) → ◌≡◌ {A = List ℕ} (take k []) []
take_none zero = refl
take_none (suc k) = refl

joined : (first last : ℕ) (xs : List ℕ) → first ≤ last
    → take first xs ++ (take (last - first) (drop first xs) ++ drop last xs) ≡ xs
joined zero last xs le =
    let e : last - 0 ≡ last = omega arith in
    ap (λ k. take k xs ++ drop last xs) e ∙ take-append-drop last xs
joined (suc first) zero xs le = absurd (omega (arith, le))
joined (suc first) (suc last) [] le = ap (λ (l : List ℕ). l ++ []) (take_none (suc last - suc first))
joined (suc first) (suc last) (x ∷ xs) le =
    let e : suc last - suc first ≡ last - first = omega arith in
    ap (λ k. x ∷ (take first xs ++ (take k (drop first xs) ++ drop last xs))) e
    ∙ ap (λ l. x ∷ l) (joined first last xs (omega (arith, le)))

-- written over the old bytes it makes the new ones
pub written_change : (old new : List ℕ) (first last : ℕ) → length old ≡ length new → DiffersIn old new first last
    → written old first (take (last - first) (drop first new)) ≡ new
written_change old new first last same d =
    let bytes = take (last - first) (drop first new) in
    let some = d.some in
    let within = d.within in
    let rest = length-drop first new in
    let long : length bytes ≡ last - first =
    length-take-le (last - first) (drop first new) (omega (arith, rest, within, some)) in
    let some1 : 1 ≤ length bytes = omega (arith, long, some) in
    let none : first - length old ≡ 0 = omega (arith, same, within, some) in
    let end : first + length bytes ≡ last = omega (arith, long, some) in
    written_some old first bytes some1
    ∙ ap (λ k. take first old ++ (zeros k ++ (bytes ++ drop (first + length bytes) old))) none
    ∙ ap (λ k. take first old ++ (bytes ++ drop k old)) end
    ∙ ap (λ l. l ++ (bytes ++ drop last old)) (take_same first old new same d.below)
    ∙ ap (λ l. take first new ++ (bytes ++ l)) (drop_same last old new same d.behind)
    ∙ joined first last new (omega (arith, some))

-- ---- an item

pub put_item : (flag : Bool) (set ci : ℕ) (old new : List ℕ) (item : Item) → length old ≡ length new
    → IsItemOf flag set ci old new item → put item old ≡ new
put_item false set ci old new item same is = ap (λ i. put i old) is
put_item true set ci old new item same is =
    ap (λ i. put i old) is.is ∙ written_change old new is.first is.last same is.differs

pub names_item : (flag : Bool) (set ci : ℕ) (old new : List ℕ) (item : Item) → IsItemOf flag set ci old new item
    → (s k : ℕ) → names_interval s k item ≡ (s == set && k == ci)
names_item false set ci old new item is s k = ap (names_interval s k) is
names_item true set ci old new item is s k = ap (names_interval s k) is.is

pub names_one : (s k : ℕ) (item : Item) → names s k (item ∷ []) ≡ names_interval s k item
names_one s k item = elim (cases_Bool (names_interval s k item)) [
  | inl e ↦ rw e refl
  | inr e ↦ rw e refl
]
