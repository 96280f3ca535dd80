-- Terminals that come by ascending names come behind those that are there.
use Rattle.std.proofs.Common.{◌≡◌, ℕ, List, [], ◌∷◌, ◌++◌, map, refl, ap, true, false, Some, None, append_assoc}
use Rattle.std.specs.List.{AllByRecursion}
use Rattle.fp_model.specs.Lasts.{Last, with_last}
use Rattle.fp_model.specs.State.{ascend, drop_key, is_below, put_by_key}
use Rattle.std.specs.Int.{w64}
use Rattle.log_format.specs.Reading.{many_at, number_at}
use Rattle.checkpoint_format.specs.Reading.{last_at, numbered_at}
use Rattle.key_order.proofs.Ascending.{IsAscending, all_above, below_differs, not_above, tail_ascends}

middle : {X : Type 0} (P : X → Type 0) (xs : List X) (x : X) (more : List X) → AllByRecursion P (xs ++ x ∷ more) → P x
middle P [] x more all = all.0
middle P (y ∷ ys) x more all = middle P ys x more all.1

module _ {X : Type 0} (key : X → List ℕ) where
  put_behind : (x : X) (xs more : List X) → IsAscending key (xs ++ x ∷ more)
      → put_by_key key x (drop_key key (key x) xs) ≡ xs ++ x ∷ []
  put_behind x [] more up = refl
  put_behind x (y ∷ ys) more up =
      let less : is_below (key y) (key x) ≡ true =
      middle (λ z. is_below (key y) (key z) ≡ true) ys x more (all_above key y (ys ++ x ∷ more) up) in
      rw (below_differs (key y) (key x) less, not_above (key y) (key x) less)
      (ap (λ zs. y ∷ zs) (put_behind x ys more (tail_ascends key y (ys ++ x ∷ more) up)))

pub last_behind : (last : Last) (lasts more : List Last)
    → ascend (map (λ l. l.lterm.0) (lasts ++ last ∷ more)) ≡ true → with_last last lasts ≡ lasts ++ last ∷ []
last_behind last lasts more up = put_behind (λ l. l.lterm.0) last lasts more up

pub regrouped : {X : Type 0} (xs : List X) (x : X) (more : List X) → (xs ++ x ∷ []) ++ more ≡ xs ++ x ∷ more
regrouped xs x more = append_assoc xs (x ∷ []) more

-- what reading the terminals comes to where names don't ascend
pub none_numbered : (bytes : List ℕ) (count : ℕ) (after : List ℕ) (lasts : List Last) (rest : List ℕ)
    → number_at w64 bytes ≡ Some (count, after) → many_at last_at count after ≡ Some (lasts, rest)
    → ascend (map (λ (l : Last). l.lterm.0) lasts) ≡ false → numbered_at bytes ≡ None
unfolding numbered_at
none_numbered bytes count after lasts rest n m down = rw (n, m, down) refl
