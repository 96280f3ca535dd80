-- A change of one database among all of them.
use Rattle.std.proofs.Common.{refl, ◌≡◌, ℕ, zero, suc, ◌<◌, ◌≤◌, List, [], ◌∷◌, map, drop, length, ◌+◌, Bool, true, false, ◌&&◌, ◌||◌, ◌==◌, Option, Some, None, sym, ◌∙◌, ap, subst, slice_get, slice_set, slice_index_or, arith}
use Rattle.std.specs.Prelude.{Result, Ok, Err}
use Rattle.std.specs.List.{AllByRecursion, list_any}
use Rattle.std.specs.Option.{option_map_or}
use Rattle.std.proofs.lemmas.Bool.Decides.{nat_tests}
use Rattle.fld_calls.specs.declared.arguments.SettleFault.{SettleFault}
use Rattle.fld_calls.specs.declared.arguments.SettleFault.TheVariants as fault
use Rattle.fp_model.specs.Fsas.{Failure}
use Rattle.fp_model.specs.Settle.{Applied, Becomes, Fails, Settled, Stands, VerifyFails, applied, fld_failure, fld_on, settle, settle_from, with_field_changes, with_msdb}
use Rattle.fp_model.specs.Texts.{same_text}
use Rattle.fp_model.specs.declared.calls.Deferred.{Deferred}
use Rattle.fp_model.specs.declared.calls.Deferred.TheVariants.{Fld}
use Rattle.fp_model.specs.declared.database.Msdb.{Msdb}
use Rattle.fp_model.specs.declared.definitions.MsdbDef.{MsdbDef}
use Rattle.past_segments.specs.Pasts.{ArePastsOf, IsPastOf, databases_at}
use Rattle.past_segments.specs.Times.{IsSettledBy, Past, database_at, is_late}
use Rattle.key_order.proofs.Ascending.{all_at, stands_there}
use Rattle.past_settling.specs.Queues.{IsQueue}
use Rattle.past_settling.specs.inside.Queues.{IsCall, LeavesAll, fault_at, is_it, late_at}
use Rattle.past_settling.specs.inside.Settling.{IsFieldCall, Leaves}
use Rattle.plain_laws.proofs.Alls.{all_set}
use Rattle.plain_laws.proofs.Truths.{first_false, second_false}
use Rattle.plain_laws.proofs.Places.{get_set, map_set, set_elsewhere}
use Rattle.past_segments.proofs.OfPasts.{past_of}

-- ---- lists

as_many : (defs : List MsdbDef) (pasts : List Past) (n : ℕ) (def : MsdbDef) → ArePastsOf defs pasts
    → slice_get defs n ≡ Some def → n < length pasts
as_many [] pasts n def each at = absurd (cc)
as_many (d ∷ ds) [] n def each at = absurd each
as_many (d ∷ ds) (p ∷ ps) zero def each at = omega arith
as_many (d ∷ ds) (p ∷ ps) (suc n) def each at = omega (arith, as_many ds ps n def each.1 at)

past_set : (defs : List MsdbDef) (pasts : List Past) (n : ℕ) (def : MsdbDef) (past : Past) → ArePastsOf defs pasts
    → slice_get defs n ≡ Some def → IsPastOf def past → ArePastsOf defs (slice_set pasts n past)
past_set [] pasts n def past each at is = absurd (cc)
past_set (d ∷ ds) [] n def past each at is = absurd each
past_set (d ∷ ds) (p ∷ ps) zero def past each at is = let same : def ≡ d = cc in
    (subst (λ x. IsPastOf x past) same is, each.1)
past_set (d ∷ ds) (p ∷ ps) (suc n) def past each at is = (each.0, past_set ds ps n def past each.1 at is)

pub def_good : (P : MsdbDef → Type 0) (defs : List MsdbDef) (n : ℕ) (def : MsdbDef) → AllByRecursion P defs
    → slice_get defs n ≡ Some def → P def
def_good P [] n def each at = absurd (cc)
def_good P (d ∷ ds) zero def each at = let same : d ≡ def = cc in subst P same each.0
def_good P (d ∷ ds) (suc n) def each at = def_good P ds n def each.1 at

pub map_same : {X Y : Type 0} (f : X → Y) (xs : List X) (n : ℕ) (x y : X) → slice_get xs n ≡ Some x → f y ≡ f x
    → map f (slice_set xs n y) ≡ map f xs
map_same f [] n x y at e = refl
map_same f (z ∷ zs) zero x y at e = let same : x ≡ z = cc in ap (λ w. w ∷ map f zs) (e ∙ ap f same)
map_same f (z ∷ zs) (suc n) x y at e = ap (λ ws. f z ∷ ws) (map_same f zs n x y at e)

get_map : {X Y : Type 0} (f : X → Y) (xs : List X) (n : ℕ) (x : X) → slice_get xs n ≡ Some x
    → slice_get (map f xs) n ≡ Some (f x)
get_map f [] n x at = absurd (cc)
get_map f (y ∷ ys) zero x at = let same : y ≡ x = cc in ap (λ z. Some (f z)) same
get_map f (y ∷ ys) (suc n) x at = get_map f ys n x at

-- ---- one database of all

abbrev applied_by : List MsdbDef → ℕ → List ℕ → List ℕ → List Msdb → Option Failure → Applied
applied_by defs n key fsas msdbs None = Becomes (with_msdb defs n (with_field_changes defs key fsas) msdbs)
applied_by defs n key fsas msdbs (Some failure) = Fails failure.place failure.found

changes : (defs : List MsdbDef) (n : ℕ) (change : MsdbDef → Msdb → Msdb) (msdbs : List Msdb) (def : MsdbDef)
    (msdb : Msdb) → slice_get defs n ≡ Some def → slice_get msdbs n ≡ Some msdb
    → with_msdb defs n change msdbs ≡ slice_set msdbs n (change def msdb)
changes defs n change msdbs def msdb at there = rw (with_msdb, at, there) refl

failure_is : (defs : List MsdbDef) (n : ℕ) (key fsas : List ℕ) (msdbs : List Msdb) (def : MsdbDef) (msdb : Msdb)
    → slice_get defs n ≡ Some def → slice_get msdbs n ≡ Some msdb
    → fld_failure defs n key fsas msdbs ≡ fld_on defs def msdb key fsas
failure_is defs n key fsas msdbs def msdb at there = rw (fld_failure, at, there) refl

module _ (defs : List MsdbDef) (pasts : List Past) (place n j : ℕ) (def : MsdbDef) (d : Past) (same : j ≡ n)
    (named : slice_get defs n ≡ Some def) (are : ArePastsOf defs pasts)
    (settled : AllByRecursion (IsSettledBy place) pasts) where
  at_j : slice_get defs j ≡ Some def
  at_j = ap (slice_get defs) same ∙ named

  pub within : j < length pasts
  within = as_many defs pasts j def are at_j

  abbrev it : Past
  it = slice_index_or pasts j d

  there : slice_get pasts j ≡ Some it
  there = stands_there pasts j d within

  pub its_past : IsPastOf def it
  its_past = past_of defs pasts j def it are at_j there

  pub its_end : IsSettledBy place it
  its_end = all_at (IsSettledBy place) pasts j d settled within

  -- the databases with that one changed
  pub now_with : (y : Past) (change : MsdbDef → Msdb → Msdb) → database_at place y ≡ change def (database_at place it)
      → databases_at place (slice_set pasts j y) ≡ with_msdb defs n change (databases_at place pasts)
  now_with y change e =
      map_set (database_at place) pasts j y
      ∙ ap (slice_set (databases_at place pasts) j) e
      ∙ ap (λ m. slice_set (databases_at place pasts) m (change def (database_at place it))) same
      ∙ sym (changes defs n change (databases_at place pasts) def (database_at place it) named
      (subst (λ m. slice_get (databases_at place pasts) m ≡ Some (database_at place it)) same
      (get_map (database_at place) pasts j it there)))

  late_there : (y : Past) (key : List ℕ) → Leaves def place key it y → (m : ℕ) (k : List ℕ) → n ≡ m
      → same_text key k ≡ false → late_at place (slice_set pasts j y) m k ≡ late_at place pasts m k
  late_there y key left m k e differs =
      let here : j ≡ m = same ∙ e in
      let new : slice_get (slice_set pasts j y) m ≡ Some y = subst (λ i. slice_get (slice_set pasts j y) i ≡ Some y) here
      (get_set pasts j y within) in
      let old : slice_get pasts m ≡ Some it = subst (λ i. slice_get pasts i ≡ Some it) here there in
      ap (λ o. option_map_or (λ (past : Past). is_late place past k) o false) new
      ∙ left.late k differs
      ∙ sym (ap (λ o. option_map_or (λ (past : Past). is_late place past k) o false) old)

  late_elsewhere : (y : Past) (m : ℕ) (k : List ℕ) → (n ≡ m → ⊥)
      → late_at place (slice_set pasts j y) m k ≡ late_at place pasts m k
  late_elsewhere y m k differ = ap (λ o. option_map_or (λ (past : Past). is_late place past k) o false)
      (set_elsewhere pasts j m y (λ e. differ (sym same ∙ e)))

  -- what that leaves
  pub leaves : (y : Past) (key : List ℕ) → Leaves def place key it y
      → LeavesAll defs place (is_it n key) pasts (slice_set pasts j y)
  leaves y key left = record {
    are = past_set defs pasts j def y are at_j left.is;
    settled = all_set (IsSettledBy place) pasts j y settled left.settled;
    before = λ p less. map_same (database_at p) pasts j it y there (left.before p less);
    late = λ m k other. by m k (n == m) refl other;
  }
    where
      by : (m : ℕ) (k : List ℕ) (t : Bool) → (n == m) ≡ t → (t && same_text key k) ≡ false
          → late_at place (slice_set pasts j y) m k ≡ late_at place pasts m k
      by m k true e other = late_there y key left m k (grind (arith, nat_tests)) other
      by m k false e other = late_elsewhere y m k (λ is. grind (arith, nat_tests))

  -- what a field call there comes to
  pub call_is : (y : Past) (key fsas : List ℕ) (r : Result (Unit {0}) SettleFault)
      → IsFieldCall defs def key fsas (database_at place it) r (database_at place y)
      → IsCall defs (Fld n key fsas) (databases_at place pasts) r (databases_at place (slice_set pasts j y))
  call_is y key fsas r made = by r made
    where
      stands : slice_get (databases_at place pasts) n ≡ Some (database_at place it)
      stands = subst (λ m. slice_get (databases_at place pasts) m ≡ Some (database_at place it)) same
          (get_map (database_at place) pasts j it there)

      fails : fld_failure defs n key fsas (databases_at place pasts) ≡ fld_on defs def (database_at place it) key fsas
      fails = failure_is defs n key fsas (databases_at place pasts) def (database_at place it) named stands

      by : (r : Result (Unit {0}) SettleFault)
          → IsFieldCall defs def key fsas (database_at place it) r (database_at place y)
          → IsCall defs (Fld n key fsas) (databases_at place pasts) r (databases_at place (slice_set pasts j y))
      by (Ok done) made =
          ap (applied_by defs n key fsas (databases_at place pasts)) (fails ∙ made.0)
          ∙ ap Becomes (sym (now_with y (with_field_changes defs key fsas) made.1))
      by (Err (fault.Bad at found)) made =
          ap (applied_by defs n key fsas (databases_at place pasts)) (fails ∙ made)
      by (Err fault.Memory) made = tt

-- ---- call by call

drop_at : {X : Type 0} (xs : List X) (n : ℕ) (d : X) → n < length xs
    → drop n xs ≡ slice_index_or xs n d ∷ drop (suc n) xs
drop_at [] n d less = absurd (omega (arith, less))
drop_at (x ∷ xs) zero d less = refl
drop_at (x ∷ xs) (suc n) d less = drop_at xs n d (omega (arith, less))

abbrev next_by : List MsdbDef → ℕ → List Deferred → Applied → Settled
next_by defs n rest a = elim a as (λ x. Settled) [
  | Becomes changed ↦ settle_from defs (n + 1) changed rest
  | Fails fsa found ↦ VerifyFails n fsa found
]

pub stepped : (defs : List MsdbDef) (n : ℕ) (msdbs : List Msdb) (call : Deferred) (rest : List Deferred) (a : Applied)
    → applied defs call msdbs ≡ a → settle_from defs n msdbs (call ∷ rest) ≡ next_by defs n rest a
unfolding settle_from
stepped defs n msdbs call rest a e = ap (next_by defs n rest) e

-- the call is the next of the queue
pub next_is : (defs : List MsdbDef) (old msdbs : List Msdb) (calls : List Deferred) (n : ℕ) (call : Deferred)
    → settle defs old calls ≡ settle_from defs n msdbs (drop n calls) → n < length calls
    → call ≡ slice_index_or calls n call
    → settle defs old calls ≡ settle_from defs n msdbs (call ∷ drop (n + 1) calls)
next_is defs old msdbs calls n call so_far less is =
    let next : suc n ≡ n + 1 = omega (arith) in
    so_far
    ∙ ap (settle_from defs n msdbs)
    (drop_at calls n call less ∙ ap (λ j. slice_index_or calls n call ∷ drop j calls) next
    ∙ ap (λ c. c ∷ drop (n + 1) calls) (sym is))

pub failed : (defs : List MsdbDef) (n : ℕ) (calls : List Deferred) (old msdbs new : List Msdb) (call : Deferred)
    (rest : List Deferred) (why : SettleFault)
    → settle defs old calls ≡ settle_from defs n msdbs (call ∷ rest) → IsCall defs call msdbs (Err why) new
    → IsQueue defs calls old (Err (fault_at n why)) new
failed defs n calls old msdbs new call rest (fault.Bad place found) so_far made =
    so_far ∙ stepped defs n msdbs call rest (Fails place found) made
failed defs n calls old msdbs new call rest fault.Memory so_far made = tt

pub any_false : {X : Type 0} (t : X → Bool) (xs : List X) (n : ℕ) (d : X) → list_any t xs ≡ false → n < length xs
    → t (slice_index_or xs n d) ≡ false
any_false t [] n d none less = absurd (omega (arith, less))
any_false t (x ∷ xs) zero d none less = first_false (t x) (list_any t xs) none
any_false t (x ∷ xs) (suc n) d none less =
    any_false t xs n d (second_false (t x) (list_any t xs) none) (omega (arith, less))

pub leaves_on : (defs : List MsdbDef) (place : ℕ) (named also : ℕ → List ℕ → Bool) (old mid new : List Past)
    → LeavesAll defs place named old mid → LeavesAll defs place also mid new
    → ((n : ℕ) (k : List ℕ) → named n k ≡ false → also n k ≡ false) → LeavesAll defs place named old new
leaves_on defs place named also old mid new first second within = record {
  are = second.are;
  settled = second.settled;
  before = λ p less. second.before p less ∙ first.before p less;
  late = λ n k other. second.late n k (within n k other) ∙ first.late n k other;
}
