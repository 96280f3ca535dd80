-- What is taken back of one database, and key by key of a queue.
use Rattle.std.proofs.Common.{refl, ◌≡◌, ℕ, zero, suc, ◌+◌, ◌<◌, ◌≤◌, List, [], ◌∷◌, map, take, length, Bool, true, false, ◌&&◌, ◌||◌, ◌==◌, Some, sym, ◌∙◌, ap, subst, slice_get, slice_set, slice_index_or, arith}
use Rattle.std.specs.List.{AllByRecursion, list_any}
use Rattle.std.specs.Option.{option_map_or}
use Rattle.std.proofs.lemmas.Bool.Decides.{nat_tests}
use Rattle.fp_model.specs.Texts.{same_text}
use Rattle.fp_model.specs.declared.calls.Deferred.{Deferred}
use Rattle.fp_model.specs.declared.definitions.MsdbDef.{MsdbDef}
use Rattle.fp_model.specs.CheckpointText.{IsMsdbOf}
use Rattle.fp_model.specs.declared.database.Msdb.{Msdb}
use Rattle.std.specs.Prelude.{Err, Ok, Result, nat_le, nat_lt}
use Rattle.std.proofs.lemmas.Bool.{lt-leb}
use Rattle.past_segments.specs.Pasts.{ArePastsOf, databases_at}
use Rattle.past_segments.specs.Times.{EndsBy, IsSettledBy, Past, database_at, is_late}
use Rattle.past_segments.specs.declared.slot.Slot.{Slot}
use Rattle.past_segments.specs.declared.slot.Version.{Version}
use Rattle.past_segments.proofs.PastLaws.{settled, shows_on}
use Rattle.key_order.proofs.Ascending.{stands_there}
use Rattle.past_settling.specs.Queues.{OnFound}
use Rattle.past_settling.specs.inside.Queues.{LeavesAll, TakesBack, any_names, is_it, late_at, names}
use Rattle.past_settling.specs.declared.fault.QueueFault.{QueueFault}
use Rattle.past_settling.specs.declared.fault.QueueFault.TheVariants as queue
use Rattle.past_settling.proofs.QueueLemmas.{map_same}
use Rattle.plain_laws.proofs.Places.{get_set, set_elsewhere}
use Rattle.model_laws.proofs.Texts.{same_text_is}

module _ (pasts : List Past) (place n j : ℕ) (d : Past) (same : j ≡ n) (less : j < length pasts) where
  abbrev it : Past
  it = slice_index_or pasts j d

  there : slice_get pasts j ≡ Some it
  there = stands_there pasts j d less

  at_it : (y : Past) (m : ℕ) (k : List ℕ) → n ≡ m → late_at place (slice_set pasts j y) m k ≡ is_late place y k
  at_it y m k e = ap (λ o. option_map_or (λ (past : Past). is_late place past k) o false)
      (subst (λ i. slice_get (slice_set pasts j y) i ≡ Some y) (same ∙ e) (get_set pasts j y less))

  was_it : (m : ℕ) (k : List ℕ) → n ≡ m → late_at place pasts m k ≡ is_late place it k
  was_it m k e = ap (λ o. option_map_or (λ (past : Past). is_late place past k) o false)
      (subst (λ i. slice_get pasts i ≡ Some it) (same ∙ e) there)

  pub takes_back : (y : Past) (key : List ℕ)
      → ((p : ℕ) → p < place → database_at p y ≡ database_at p it)
      → is_late place y key ≡ false
      → ((other : List ℕ) → same_text key other ≡ false → is_late place y other ≡ is_late place it other)
      → y.count ≡ it.count
      → TakesBack place (is_it n key) pasts (slice_set pasts j y)
  takes_back y key before none late count = record {
    before = λ p earlier. map_same (database_at p) pasts j it y there (before p earlier);
    gone = λ m k named. both m k (n == m) (same_text key k) refl refl named;
    others = λ m k other. one m k (n == m) refl other;
    counts = map_same (λ (past : Past). past.count) pasts j it y there count;
  }
    where
      both : (m : ℕ) (k : List ℕ) (a b : Bool) → (n == m) ≡ a → same_text key k ≡ b → (a && b) ≡ true
          → late_at place (slice_set pasts j y) m k ≡ false
      both m k true true e f named =
          at_it y m k (grind (arith, nat_tests)) ∙ ap (is_late place y) (sym (same_text_is key k f)) ∙ none
      both m k true false e f named = cc
      both m k false b e f named = cc

      differ : (m : ℕ) → (n == m) ≡ false → j ≡ m → ⊥
      differ m e is = let same_number : n ≡ m = sym same ∙ is in grind (arith, nat_tests)

      one : (m : ℕ) (k : List ℕ) (a : Bool) → (n == m) ≡ a → (a && same_text key k) ≡ false
          → late_at place (slice_set pasts j y) m k ≡ late_at place pasts m k
      one m k true e other =
          let is : n ≡ m = grind (arith, nat_tests) in
          at_it y m k is ∙ late k other ∙ sym (was_it m k is)
      one m k false e other =
          ap (λ o. option_map_or (λ (past : Past). is_late place past k) o false)
          (set_elsewhere pasts j m y (differ m e))

-- ---- one call more

any_last : {X : Type 0} (t : X → Bool) (xs : List X) (n : ℕ) (d : X) → n < length xs
    → list_any t (take (n + 1) xs) ≡ (list_any t (take n xs) || t (slice_index_or xs n d))
any_last t xs n d less = let next : suc n ≡ n + 1 = omega (arith) in
    ap (λ j. list_any t (take j xs)) (sym next) ∙ by t xs n d less
  where
    or_none : (b : Bool) → (b || false) ≡ b
    or_none true = refl
    or_none false = refl

    or_assoc : (a b c : Bool) → (a || (b || c)) ≡ ((a || b) || c)
    or_assoc true b c = refl
    or_assoc false b c = refl

    by : {X : Type 0} (t : X → Bool) (xs : List X) (n : ℕ) (d : X) → n < length xs
        → list_any t (take (suc n) xs) ≡ (list_any t (take n xs) || t (slice_index_or xs n d))
    by t [] n d less = absurd (omega (arith, less))
    by t (x ∷ xs) zero d less = or_none (t x)
    by t (x ∷ xs) (suc n) d less =
        ap (λ b. t x || b) (by t xs n d (omega (arith, less)))
        ∙ or_assoc (t x) (list_any t (take n xs)) (t (slice_index_or xs n d))

pub back_more : (place : ℕ) (named also all : ℕ → List ℕ → Bool) (old mid new : List Past)
    → TakesBack place named old mid → TakesBack place also mid new
    → ((n : ℕ) (k : List ℕ) → all n k ≡ (named n k || also n k)) → TakesBack place all old new
back_more place named also all old mid new first second is = record {
  before = λ p less. second.before p less ∙ first.before p less;
  gone = λ n k e. gone n k (also n k) (named n k) refl refl (sym (is n k) ∙ e);
  others = λ n k e. others n k (also n k) (named n k) refl refl (sym (is n k) ∙ e);
  counts = second.counts ∙ first.counts;
}
  where
    gone : (n : ℕ) (k : List ℕ) (b a : Bool) → also n k ≡ b → named n k ≡ a → (a || b) ≡ true
        → late_at place new n k ≡ false
    gone n k true a be ae e = second.gone n k be
    gone n k false true be ae e = second.others n k be ∙ first.gone n k ae
    gone n k false false be ae e = cc

    others : (n : ℕ) (k : List ℕ) (b a : Bool) → also n k ≡ b → named n k ≡ a → (a || b) ≡ false
        → late_at place new n k ≡ late_at place old n k
    others n k false false be ae e = second.others n k be ∙ first.others n k ae
    others n k true true be ae e = cc
    others n k true false be ae e = cc
    others n k false true be ae e = cc

pub one_more : (defs : List MsdbDef) (calls : List Deferred) (at : ℕ) (call : Deferred) → at < length calls
    → call ≡ slice_index_or calls at call → (n : ℕ) (k : List ℕ)
    → any_names defs (take (at + 1) calls) n k ≡ (any_names defs (take at calls) n k || names defs call n k)
one_more defs calls at call less is n k =
    any_last (λ (c : Deferred). names defs c n k) calls at call less
    ∙ ap (λ (c : Deferred). any_names defs (take at calls) n k || names defs c n k) (sym is)

pub nothing_back : (place : ℕ) (defs : List MsdbDef) (pasts : List Past)
    → TakesBack place (any_names defs []) pasts pasts
nothing_back place defs pasts = record {
  before = λ p less. refl;
  gone = λ n k e. cc;
  others = λ n k e. refl;
  counts = refl;
}

-- ---- all as before

pub ends_later : (place : ℕ) (pasts : List Past) → AllByRecursion (IsSettledBy place) pasts
    → AllByRecursion (IsSettledBy (place + 1)) pasts
ends_later place [] all = tt
ends_later place (past ∷ pasts) all = (slots_later place past.slots all.0, ends_later place pasts all.1)
  where
    versions_later : (place : ℕ) (vs : List Version) → EndsBy place vs → EndsBy (place + 1) vs
    versions_later place [] all = tt
    versions_later place (v ∷ vs) all = (omega (arith, all.0), versions_later place vs all.1)

    slots_later : (place : ℕ) (slots : List Slot)
        → AllByRecursion (λ (slot : Slot). EndsBy place slot.versions) slots
        → AllByRecursion (λ (slot : Slot). EndsBy (place + 1) slot.versions) slots
    slots_later place [] all = tt
    slots_later place (slot ∷ slots) all = (versions_later place slot.versions all.0, slots_later place slots all.1)

pub as_long : (defs : List MsdbDef) (pasts : List Past) → ArePastsOf defs pasts → length pasts ≡ length defs
as_long [] [] each = refl
as_long [] (p ∷ ps) each = absurd each
as_long (d ∷ ds) [] each = absurd each
as_long (d ∷ ds) (p ∷ ps) each = ap suc (as_long ds ps each.1)

-- where no key has a later value none stands from behind the place
never_late : (place : ℕ) (pasts : List Past) → ((n : ℕ) (k : List ℕ) → late_at (place + 1) pasts n k ≡ false)
    → AllByRecursion (IsSettledBy place) pasts
never_late place [] none = tt
never_late place (past ∷ pasts) none =
    (settled past place (λ k. none 0 k), never_late place pasts (λ n k. none (suc n) k))

late_never : (place : ℕ) (pasts : List Past) → AllByRecursion (IsSettledBy place) pasts → (n : ℕ) (k : List ℕ)
    → late_at (place + 1) pasts n k ≡ false
late_never place [] all n k = refl
late_never place (past ∷ pasts) all zero k = past_late past.slots all.0
  where
    versions_late : (vs : List Version) → EndsBy place vs → list_any (λ (v : Version). nat_le (place + 1) v.from) vs ≡ false
    versions_late [] all = refl
    versions_late (v ∷ vs) all = rw (lt-leb (place + 1) v.from (omega (arith, all.0))) (versions_late vs all.1)

    and_false : (b : Bool) → (b && false) ≡ false
    and_false true = refl
    and_false false = refl

    past_late : (slots : List Slot) → AllByRecursion (λ (slot : Slot). EndsBy place slot.versions) slots
        → list_any (λ (slot : Slot). same_text slot.key k && list_any (λ (v : Version). nat_le (place + 1) v.from)
        slot.versions) slots ≡ false
    past_late [] all = refl
    past_late (slot ∷ slots) all =
        rw (ap (λ b. same_text slot.key k && b) (versions_late slot.versions all.0) ∙ and_false (same_text slot.key k))
        (past_late slots all.1)
late_never place (past ∷ pasts) all (suc n) k = late_never place pasts all.1 n k

-- the databases behind a place where nothing stands behind it
pub shows_on_all : (place p : ℕ) (pasts : List Past) → AllByRecursion (IsSettledBy place) pasts → place ≤ p
    → databases_at p pasts ≡ databases_at place pasts
shows_on_all place p [] all le = refl
shows_on_all place p (past ∷ pasts) all le =
    ap (λ msdb. msdb ∷ databases_at p pasts) (shows_on past place p all.0 le)
    ∙ ap (λ msdbs. database_at place past ∷ msdbs) (shows_on_all place p pasts all.1 le)

first_is : (x y : Msdb) (xs ys : List Msdb) → x ∷ xs ≡ y ∷ ys → x ≡ y
first_is x y xs ys e = cc

rest_is : (x y : Msdb) (xs ys : List Msdb) → x ∷ xs ≡ y ∷ ys → xs ≡ ys
rest_is x y xs ys e = cc

first_count : (x y : ℕ) (xs ys : List ℕ) → x ∷ xs ≡ y ∷ ys → x ≡ y
first_count x y xs ys e = cc

rest_count : (x y : ℕ) (xs ys : List ℕ) → x ∷ xs ≡ y ∷ ys → xs ≡ ys
rest_count x y xs ys e = cc

pub same_pasts : (defs : List MsdbDef) (old new : List Past) → ArePastsOf defs old
    → ((p : ℕ) → databases_at p new ≡ databases_at p old)
    → map (λ (past : Past). past.count) new ≡ map (λ (past : Past). past.count) old → ArePastsOf defs new
same_pasts [] [] [] are shows counts = tt
same_pasts [] [] (q ∷ qs) are shows counts = cc
same_pasts [] (p ∷ ps) new are shows counts = absurd are
same_pasts (d ∷ ds) [] new are shows counts = absurd are
same_pasts (d ∷ ds) (p ∷ ps) [] are shows counts = cc
same_pasts (d ∷ ds) (p ∷ ps) (q ∷ qs) are shows counts = (
  record {
    keys = are.0.keys ∙ sym (first_count q.count p.count (map (λ (past : Past). past.count) qs)
        (map (λ (past : Past). past.count) ps) counts);
    each = λ place. subst (IsMsdbOf d) (sym (first_is (database_at place q) (database_at place p) (databases_at place qs)
        (databases_at place ps) (shows place))) (are.0.each place);
  },
  same_pasts ds ps qs are.1
      (λ place. rest_is (database_at place q) (database_at place p) (databases_at place qs) (databases_at place ps)
      (shows place))
      (rest_count q.count p.count (map (λ (past : Past). past.count) qs) (map (λ (past : Past). past.count) ps) counts),
)

-- what was settled at the next place and taken back is all as before
module _ (defs : List MsdbDef) (place : ℕ) (named : ℕ → List ℕ → Bool) (old mid new : List Past)
    (are : ArePastsOf defs old) (ends : AllByRecursion (IsSettledBy place) old)
    (left : LeavesAll defs (place + 1) named old mid) (back : TakesBack (place + 1) named mid new) where
  none : (n : ℕ) (k : List ℕ) → late_at (place + 1) new n k ≡ false
  none n k = by (named n k) refl
    where
      by : (t : Bool) → named n k ≡ t → late_at (place + 1) new n k ≡ false
      by true e = back.gone n k e
      by false e = back.others n k e ∙ left.late n k e ∙ late_never place old ends n k

  pub ends_so : AllByRecursion (IsSettledBy place) new
  ends_so = never_late place new none

  earlier : (p : ℕ) → p < place + 1 → databases_at p new ≡ databases_at p old
  earlier p less = back.before p less ∙ left.before p less

  pub shows_so : (p : ℕ) → databases_at p new ≡ databases_at p old
  shows_so p = by (nat_lt p (place + 1)) refl
    where
      by : (t : Bool) → nat_lt p (place + 1) ≡ t → databases_at p new ≡ databases_at p old
      by true e = earlier p (grind (arith, nat_tests))
      by false e =
          let le : place ≤ p = grind (arith, nat_tests) in
          shows_on_all place p new ends_so le ∙ earlier place (omega (arith))
          ∙ sym (shows_on_all place p old ends le)

  pub are_so : map (λ (past : Past). past.count) mid ≡ map (λ (past : Past). past.count) old → ArePastsOf defs new
  are_so counts = same_pasts defs old new are shows_so (back.counts ∙ counts)

pub same_counts : (defs : List MsdbDef) (old new : List Past) → ArePastsOf defs old → ArePastsOf defs new
    → map (λ (past : Past). past.count) new ≡ map (λ (past : Past). past.count) old
same_counts [] [] [] one other = refl
same_counts [] [] (q ∷ qs) one other = absurd other
same_counts [] (p ∷ ps) new one other = absurd one
same_counts (d ∷ ds) [] new one other = absurd one
same_counts (d ∷ ds) (p ∷ ps) [] one other = absurd other
same_counts (d ∷ ds) (p ∷ ps) (q ∷ qs) one other =
    ap (λ n. n ∷ map (λ (past : Past). past.count) qs) (sym other.0.keys ∙ one.0.keys)
    ∙ ap (λ ns. p.count ∷ ns) (same_counts ds ps qs one.1 other.1)

-- ---- whatever a queue comes to

pub found_so : {P : Type 0} (r : Result (Unit {0}) QueueFault) → P → OnFound r P
found_so (Ok done) p = p
found_so (Err (queue.Verify call fsa found)) p = p
found_so (Err queue.Memory) p = tt
