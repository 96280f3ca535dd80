-- The keys that a queue names, and those of staged segments.
use Rattle.std.proofs.Common.{◌≡◌, refl, sym, ◌∙◌, ap, subst, arith, ℕ, zero, suc, ◌<◌, List, [], ◌∷◌, map, length, Bool, true, false, ◌||◌, ◌==◌, ◌&&◌, Some, slice_index_or}
use Rattle.std.specs.Prelude.{if◌then◌else◌, is_some, ◌↔◌}
use Rattle.std.specs.List.{list_any}
use Rattle.fp_model.specs.Texts.{same_text}
use Rattle.fp_model.specs.declared.calls.Deferred.{Deferred}
use Rattle.fp_model.specs.declared.definitions.MsdbDef.{MsdbDef}
use Rattle.fp_model.specs.declared.log.Item.{Item}
use Rattle.fp_model.specs.declared.log.Item.TheVariants.{Segment, Image, Range}
use Rattle.msdb_store.specs.Settling.{HasItem, IsNamed, named}
use Rattle.msdb_store.specs.Touches.{Touch}
use Rattle.msdb_store.specs.inside.Touches.{bytes_at, has_key, item_of}
use Rattle.msdb_store.proofs.Queues.{names}
use Rattle.plain_laws.proofs.Truths.{first_of_both, second_of_both}
use Rattle.plain_laws.proofs.Numbers.{is_number, number_is}
use Rattle.model_laws.proofs.Texts.{same_text_is, text_is_same}
use Rattle.std.proofs.lemmas.Bool.{or_left, or_right}

-- ---- an element that passes a test

contains_any : {X : Type 0} (p : X → Bool) (xs : List X) (x : X) (i : ℕ) → i < length xs → slice_index_or xs i x ≡ x
    → p x ≡ true → list_any p xs ≡ true
contains_any p [] x i within is passes = absurd (omega (arith, within))
contains_any p (y ∷ ys) x zero within is passes = or_left (p y) (list_any p ys) (ap p is ∙ passes)
contains_any p (y ∷ ys) x (suc i) within is passes =
    or_right (p y) (list_any p ys) (contains_any p ys x i (omega (arith, within)) is passes)

record Passing {X : Type 0} (p : X → Bool) (xs : List X) : Type 0 where
  it : X
  place : ℕ
  within : place < length xs
  is : slice_index_or xs place it ≡ it
  passes : p it ≡ true

any_contains : {X : Type 0} (p : X → Bool) (xs : List X) → list_any p xs ≡ true → Passing p xs
any_contains p [] e = cc
any_contains p (y ∷ ys) e = by (p y) refl (any_contains p ys)
  where
    by : (b : Bool) → p y ≡ b → (list_any p ys ≡ true → Passing p ys) → Passing p (y ∷ ys)
    by true b later = record { it = y; place = 0; within = omega arith; is = refl; passes = b }
    by false b later =
        let l = later (ap (λ x. x || list_any p ys) (sym b) ∙ e) in
        record { it = l.it; place = suc l.place; within = omega (arith, l.within); is = l.is; passes = l.passes }

any_map : {X Y : Type 0} (f : X → Y) (p : Y → Bool) (xs : List X) → list_any p (map f xs) ≡ list_any (λ x. p (f x)) xs
any_map f p [] = refl
any_map f p (x ∷ xs) = ap (λ b. p (f x) || b) (any_map f p xs)

-- ---- the queue

abbrev is_pair : ℕ → List ℕ → ℕ × List ℕ → Bool
is_pair n k e = e.0 == n && same_text e.1 k

pair_is : (n : ℕ) (k : List ℕ) (e : ℕ × List ℕ) → is_pair n k e ≡ true → e ≡ (n, k)
pair_is n k e same =
    let first : e.0 ≡ n = number_is e.0 n (first_of_both (e.0 == n) (same_text e.1 k) same) in
    let second : e.1 ≡ k = same_text_is e.1 k (second_of_both (e.0 == n) (same_text e.1 k) same) in
    ap (λ m. (m, e.1)) first ∙ ap (λ j. (n, j)) second

its_pair : (n : ℕ) (k : List ℕ) → is_pair n k (n, k) ≡ true
its_pair n k = rw (is_number n) (text_is_same k)

named_any : (defs : List MsdbDef) (calls : List Deferred) (n : ℕ) (k : List ℕ) → IsNamed defs calls n k
    → list_any (names defs n k) calls ≡ true
named_any defs calls n k is = sym (any_map (named defs) (is_pair n k) calls) ∙ contains_any (is_pair n k)
    (map (named defs) calls) (n, k) is.0 is.1 is.2 (its_pair n k)

any_named : (defs : List MsdbDef) (calls : List Deferred) (n : ℕ) (k : List ℕ) → list_any (names defs n k) calls ≡ true
    → IsNamed defs calls n k
any_named defs calls n k e =
    let p = any_contains (is_pair n k) (map (named defs) calls) (any_map (named defs) (is_pair n k) calls ∙ e) in (
      p.place,
      p.within,
      subst (λ x. slice_index_or (map (named defs) calls) p.place x ≡ x) (pair_is n k p.it p.passes)
          p.is,
    )

-- ---- the staged segments

some_any : (ts : List Touch) (n : ℕ) (k : List ℕ) → is_some (bytes_at ts n k) ≡ list_any (λ t. has_key t n k) ts
some_any [] n k = refl
some_any (t ∷ ts) n k = by (has_key t n k) ∙ ap (λ b. has_key t n k || b) (some_any ts n k)
  where
    by : (b : Bool) → is_some (if b then Some t.bytes else bytes_at ts n k) ≡ (b || is_some (bytes_at ts n k))
    by true = refl
    by false = refl

abbrev of_key : ℕ → List ℕ → Item → Bool
of_key n k (Segment m j bytes) = m == n && same_text j k
of_key n k (Image set ci bytes) = false
of_key n k (Range set ci at bytes) = false

item_any : (ts : List Touch) (n : ℕ) (k : List ℕ) → HasItem (map item_of ts) n k
    → list_any (λ t. has_key t n k) ts ≡ true
item_any ts n k has = sym (any_map item_of (of_key n k) ts) ∙ contains_any (of_key n k) (map item_of ts)
    (Segment n k has.0) has.1.0 has.1.1 has.1.2 (its_pair n k)

any_item : (ts : List Touch) (n : ℕ) (k : List ℕ) → list_any (λ t. has_key t n k) ts ≡ true
    → HasItem (map item_of ts) n k
any_item ts n k e = let p = any_contains (of_key n k) (map item_of ts) (any_map item_of (of_key n k) ts ∙ e) in
    by p.it p.place p.within p.is p.passes
  where
    by : (x : Item) (i : ℕ) → i < length (map item_of ts) → slice_index_or (map item_of ts) i x ≡ x
        → of_key n k x ≡ true → HasItem (map item_of ts) n k
    by (Segment m j bytes) i within is passes =
        let first : m ≡ n = number_is m n (first_of_both (m == n) (same_text j k) passes) in
        let second : j ≡ k = same_text_is j k (second_of_both (m == n) (same_text j k) passes) in (
          bytes,
          (
            i,
            within,
            subst (λ x. slice_index_or (map item_of ts) i x ≡ x)
                (ap (λ a. Segment a j bytes) first ∙ ap (λ b. Segment n b bytes) second) is,
          ),
        )
    by (Image set ci bytes) i within is passes = cc
    by (Range set ci at bytes) i within is passes = cc

-- where the tests agree, so do the facts
pub same_keys : (defs : List MsdbDef) (calls : List Deferred) (ts : List Touch) (items : List Item) (n : ℕ) (k : List ℕ)
    → items ≡ map item_of ts → is_some (bytes_at ts n k) ≡ list_any (names defs n k) calls
    → (HasItem items n k) ↔ (IsNamed defs calls n k)
same_keys defs calls ts items n k is same = (
  λ has. any_named defs calls n k (sym same ∙ some_any ts n k ∙ item_any ts n k
      (subst (λ its. HasItem its n k) is has)),
  λ it_is. subst (λ its. HasItem its n k) (sym is) (any_item ts n k
      (sym (some_any ts n k) ∙ same ∙ named_any defs calls n k it_is)),
)
