-- One queue of several is changed, seen as a list of lists.
use Rattle.std.proofs.Common.{refl, arith, ◌≡◌, ℕ, zero, suc, ◌<◌, List, [], ◌∷◌, ◌++◌, length, map, drop, Some, slice_get, slice_set, slice_index_or, unwrap_or, ap, sym, ◌∙◌}
use Rattle.std.specs.Option.{option_map_or}
use Rattle.std.proofs.lemmas.List.{map-set}
use Rattle.fp_model.specs.declared.calls.Message.{Message}
use Rattle.fp_model.specs.Machine.{queued_at}

module _ {Q X : Type 0} (items : Q → List X) where
  -- what is put there shows the same as before
  pub set_kept : (qs : List Q) (i : ℕ) (q next : Q) → q ≡ slice_index_or qs i q → items next ≡ items q
      → map items (slice_set qs i next) ≡ map items qs
  set_kept [] i q next is same = refl
  set_kept (x ∷ xs) zero q next is same = ap (λ shown. shown ∷ map items xs) (same ∙ ap items is)
  set_kept (x ∷ xs) (suc i) q next is same = ap (λ shown. items x ∷ shown) (set_kept xs i q next is same)

  -- the items of the queue at a place
  pub shown_at : (qs : List Q) (i : ℕ) (q : Q) → i < length qs → q ≡ slice_index_or qs i q
      → slice_get (map items qs) i ≡ Some (items q)
  shown_at [] i q inside is = absurd (omega (arith, inside))
  shown_at (x ∷ xs) zero q inside is = ap (λ one. Some (items one)) (sym is)
  shown_at (x ∷ xs) (suc i) q inside is = shown_at xs i q (omega (arith, inside)) is

  -- a queue without its first
  pub taken : (qs : List Q) (i : ℕ) (q next : Q) → i < length qs → q ≡ slice_index_or qs i q
      → items next ≡ drop 1 (items q)
      → map items (slice_set qs i next) ≡ slice_set (map items qs) i
      (drop 1 (unwrap_or (slice_get (map items qs) i) []))
  taken qs i q next inside is rest =
      map-set items qs i next ∙ ap (slice_set (map items qs) i)
      (rest ∙ ap (λ found. drop 1 (unwrap_or found [])) (sym (shown_at qs i q inside is)))

-- a queue with one more message
module _ {Q : Type 0} (items : Q → List Message) where
  pub queued : (qs : List Q) (i : ℕ) (q next : Q) (message : Message) → i < length qs → q ≡ slice_index_or qs i q
      → items next ≡ items q ++ message ∷ []
      → map items (slice_set qs i next) ≡ queued_at i message (map items qs)
  queued qs i q next message inside is more =
      map-set items qs i next
      ∙ ap (slice_set (map items qs) i) more
      ∙ ap (λ found. option_map_or (λ messages. slice_set (map items qs) i (messages ++ message ∷ [])) found
      (map items qs)) (sym (shown_at items qs i q inside is))
