-- Terminals in their handles: what an edit of the handles makes of them.
use Rattle.std.proofs.Common.{Box, ◌≡◌, ℕ, zero, suc, ◌<◌, ◌≤◌, List, [], ◌∷◌, ◌++◌, map, length, take, drop, refl, sym, ◌∙◌, ap, true, Some, None, slice_get, slice_index_or, arith}
use Rattle.std.specs.declared.alloc.Global.{Global}
use Rattle.std.proofs.lemmas.List.{get_or-map}
use Rattle.std.proofs.lemmas.Option.{slice_get-map, slice_get_past}
use Rattle.std.specs.Option.{option_map}
use Rattle.fp_model.specs.Lasts.{Last}
use Rattle.fp_model.specs.declared.name.Name.{Name}
use Rattle.fp_model.specs.State.{ascend, is_below}
use Rattle.balancing.specs.Numbered.{as_last, lasts_in}
use Rattle.key_order.specs.Places.{IsPlace}
use Rattle.balancing.specs.declared.lasts.Kept.{Kept}
use Rattle.key_order.proofs.Ascending.{stands_there}
use Rattle.plain_laws.proofs.Lists.{map_twice}

-- the name of a terminal
abbrev pub key : Last → List ℕ
key last = last.lterm.0

map_append : {X Y : Type 0} (f : X → Y) (xs ys : List X) → map f (xs ++ ys) ≡ map f xs ++ map f ys
map_append f [] ys = refl
map_append f (x ∷ xs) ys = ap (λ zs. f x ∷ zs) (map_append f xs ys)

map_take : {X Y : Type 0} (f : X → Y) (n : ℕ) (xs : List X) → map f (take n xs) ≡ take n (map f xs)
map_take f zero xs = refl
map_take f (suc n) [] = refl
map_take f (suc n) (x ∷ xs) = ap (λ zs. f x ∷ zs) (map_take f n xs)

map_drop : {X Y : Type 0} (f : X → Y) (n : ℕ) (xs : List X) → map f (drop n xs) ≡ drop n (map f xs)
map_drop f zero xs = refl
map_drop f (suc n) [] = refl
map_drop f (suc n) (x ∷ xs) = map_drop f n xs

-- there is a terminal in each
pub lasts_length : (handles : List (Box Kept Global)) → length (lasts_in handles) ≡ length handles
lasts_length [] = refl
lasts_length (b ∷ bs) = ap suc (lasts_length bs)

-- names that ascend among terminals ascend among their handles
pub ascends_as : (handles : List (Box Kept Global)) → ascend (map (λ last. last.lterm.0) (lasts_in handles)) ≡ true
    → ascend (map (λ b. b.value.lterm.0) handles) ≡ true
ascends_as handles up = ap ascend (sym (map_twice (λ b. as_last b.value) (λ last. last.lterm.0) handles)) ∙ up

-- and a place among the handles is one among the terminals
pub place_as : (name : List ℕ) (handles : List (Box Kept Global)) (n : ℕ) → n ≤ length handles
    → IsPlace (λ b. b.value.lterm.0) name handles n → IsPlace (λ last. last.lterm.0) name (lasts_in handles) n
place_as name [] n within p = (
  λ i d low high. absurd (omega (arith, high, within)),
  λ i d low high. absurd (omega
      (arith, high)),
)
place_as name (b ∷ bs) n within p = (
  λ i d low high. ap (λ (last : Last). is_below last.lterm.0 name)
      (get_or-map (λ h. as_last h.value) (b ∷ bs) i b d (omega (arith, within, high))) ∙ p.0 i b low high,
  λ i d low high. let inside : i < length (b ∷ bs) = omega (arith, high, lasts_length (b ∷ bs)) in
      ap (λ (last : Last). is_below last.lterm.0 name) (get_or-map (λ h. as_last h.value) (b ∷ bs) i b d inside)
      ∙ p.1 i b low inside,
)

-- the terminal in a handle
pub there : (handles : List (Box Kept Global)) (n : ℕ) (b : Box Kept Global) → n < length handles
    → slice_get (lasts_in handles) n ≡ Some (as_last (slice_index_or handles n b).value)
there handles n b within = slice_get-map (λ h. as_last h.value) handles n ∙ ap (option_map (λ h. as_last h.value))
    (stands_there handles n b within)

-- behind the last there is none
pub past : (handles : List (Box Kept Global)) (n : ℕ) → length handles ≤ n → slice_get (lasts_in handles) n ≡ None
past handles n le = slice_get_past (lasts_in handles) n (omega (arith, le, lasts_length handles))

-- a terminal by its parts
pub by_parts : (kept : Kept) (name : Name) (number : ℕ) (line : List ℕ) → kept.lterm ≡ name → number ≡ kept.number
    → line ≡ kept.line → Some (as_last kept) ≡ Some (record { lterm = name; number = number; line = line })
by_parts kept name number line of_name of_number of_line =
    ap (λ (n : Name). Some (record { lterm = n; number = kept.number; line = kept.line })) of_name
    ∙ ap (λ (n : ℕ). Some (record { lterm = name; number = n; line = kept.line })) (sym of_number)
    ∙ ap (λ (l : List ℕ). Some (record { lterm = name; number = number; line = l })) (sym of_line)
