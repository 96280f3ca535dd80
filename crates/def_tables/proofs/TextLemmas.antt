-- Texts one after another, and a set of those so far.
use Rattle.std.proofs.Common.{◌≡◌, ℕ, ◌+◌, ◌<◌, List, [], ◌∷◌, ◌++◌, length, map, take, drop, get_or, Bool, true, false, cond, ◌||◌, Some, refl, sym, ap, ◌∙◌, rules, nat_cmp}
use Rattle.std.specs.Ordering.{is_eq}
use Rattle.std.specs.Cmp.Lexicographic.{slice_cmp}
use Rattle.std.specs.Str.{bytes_eq}
use Rattle.std.proofs.lemmas.List.{take_more, drop_more, map-append}
use Rattle.std.proofs.lemmas.Bool.Decides.{same_from_decides}
use Rattle.std.proofs.lemmas.Map.Text.{is_eq-slice_cmp}
use Rattle.std.proofs.lemmas.Slice.Eq.{bytes_eq-Decides}
use Rattle.fp_model.specs.Texts.{same_text}
use Rattle.def_tables.specs.Keys.{occurs, repeated}

bytes_eq-sym : (a b : List ℕ) → bytes_eq a b ≡ bytes_eq b a
bytes_eq-sym a b =
    same_from_decides _ _ (bytes_eq-Decides a b)
    ((λ e. sym ((bytes_eq-Decides b a).0 e)), (λ e. (bytes_eq-Decides b a).1 (sym e)))

or-last : (a b : Bool) → (a || false) ≡ cond a true false
or-last true b = refl
or-last false b = refl

or-push : (a b c : Bool) → (c || cond a true b) ≡ cond a true (c || b)
or-push a b true = search rules
or-push a b false = refl

occurs-push : (texts : List (List ℕ)) (t q : List ℕ)
    → occurs (texts ++ t ∷ []) q ≡ cond (bytes_eq t q) true (occurs texts q)
occurs-push [] t q = rw (bytes_eq-sym q t) (or-last (bytes_eq t q) true)
occurs-push (x ∷ xs) t q = ap (λ b. same_text q x || b) (occurs-push xs t q) ∙ or-push (bytes_eq t q) (occurs xs q)
    (same_text q x)

module _ {X : Type 0} (text : X → List ℕ) (xs : List X) (i : ℕ) (d : X) (within : i < length xs) where
  map-take : map text (take (i + 1) xs) ≡ map text (take i xs) ++ text (get_or xs i d) ∷ []
  map-take = ap (map text) (take_more xs i d within) ∙ map-append text (take i xs) (get_or xs i d ∷ [])

  map-drop : map text (drop i xs) ≡ text (get_or xs i d) ∷ map text (drop (i + 1) xs)
  map-drop = ap (map text) (drop_more xs i d within)

  -- a set that has the texts so far and takes one more has the texts so far, that one among them
  pub seen_more : (q : List ℕ) (old new : Bool)
      → new ≡ cond (is_eq (slice_cmp nat_cmp (text (get_or xs i d)) q)) true old
      → old ≡ occurs (map text (take i xs)) q
      → new ≡ occurs (map text (take (i + 1) xs)) q
  seen_more q old new changed before =
      changed
      ∙ ap (λ b. cond b true old) (is_eq-slice_cmp (text (get_or xs i d)) q)
      ∙ ap (λ b. cond (bytes_eq (text (get_or xs i d)) q) true b) before
      ∙ sym (occurs-push (map text (take i xs)) (text (get_or xs i d)) q)
      ∙ ap (λ texts. occurs texts q) (sym map-take)

  -- a text that occurred before is the first such
  pub repeated_here : occurs (map text (take i xs)) (text (get_or xs i d)) ≡ true
      → repeated (map text (take i xs)) (map text (drop i xs)) ≡ Some (text (get_or xs i d))
  repeated_here found = ap (repeated (map text (take i xs))) map-drop ∙ rw found

  -- a text that didn't is one of those before the next
  pub repeated_later : occurs (map text (take i xs)) (text (get_or xs i d)) ≡ false
      → repeated (map text (take i xs)) (map text (drop i xs)) ≡ repeated (map text (take (i + 1) xs))
      (map text (drop (i + 1) xs))
  repeated_later missed = ap (repeated (map text (take i xs))) map-drop ∙ rw missed
      (ap (λ texts. repeated texts (map text (drop (i + 1) xs))) (sym map-take))
