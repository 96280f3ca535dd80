-- A queue settled call by call.
use Rattle.std.proofs.Common.{◌≡◌, refl, sym, ◌∙◌, ap, subst, arith, ℕ, ◌≤◌, ◌<◌, ◌+◌, slice_index_or, List, [], ◌∷◌, ◌++◌, map, length, Bool, true, false, ◌||◌, ◌==◌, ◌&&◌, Option, Some, None, nat_lt}
use Rattle.std.specs.Prelude.{Ok, Err, if◌then◌else◌, is_some, count_by}
use Rattle.std.specs.declared.cmp.Ordering.TheVariants.{Less, Equal, Greater}
use Rattle.std.specs.declared.cmp.Ordering.{Ordering}
use Rattle.std.specs.Ordering.{is_lt, nat_cmp, ordering_then}
use Rattle.std.specs.Cmp.Lexicographic.{slice_cmp}
use Rattle.std.proofs.lemmas.Bool.Decides.{nat_tests}
use Rattle.std.proofs.lemmas.Map.Lookups.{exact_unsigned}
use Rattle.std.specs.List.{AllZip, AllByRecursion, list_any}
use Rattle.fld_calls.specs.declared.arguments.SettleFault.{SettleFault}
use Rattle.fld_calls.specs.declared.arguments.SettleFault.TheVariants as fault
use Rattle.fp_model.specs.CheckpointText.{IsMsdbOf}
use Rattle.fp_model.specs.Items.{with_item, with_items}
use Rattle.fp_model.specs.ItemTargets.{is_ascending, precedes}
use Rattle.fp_model.specs.Settle.{Applied, Becomes, Fails, Settled, Stands, VerifyFails, applied, settle, settle_from}
use Rattle.fp_model.specs.Texts.{same_text}
use Rattle.fp_model.specs.declared.calls.Deferred.{Deferred}
use Rattle.fp_model.specs.declared.database.Msdb.{Msdb}
use Rattle.fp_model.specs.declared.definitions.MsdbDef.{MsdbDef}
use Rattle.fp_model.specs.declared.log.Item.{Item}
use Rattle.msdb_store.specs.Settling.{CanSettle, IsAnswer, IsSegmentItem, IsStaged, adds, named}
use Rattle.msdb_store.specs.inside.Faults.{fault_at}
use Rattle.msdb_store.specs.inside.Steps.{AtCall, IsGiven, IsStep, Stages}
use Rattle.msdb_store.specs.Store.{IsFitSegment, Stored, segment_in}
use Rattle.msdb_store.specs.Touches.{Touch}
use Rattle.msdb_store.specs.inside.Touches.{AreInOrder, bytes_at, has_key, item_of, made, put_touch, seen, touch_cmp}
use Rattle.msdb_store.proofs.Databases.{item_good, same_databases}
use Rattle.msdb_store.proofs.Stagings.{at_put, behind_item, long_put, none_staged, one_staged, shown, ties}
use Rattle.model_laws.proofs.Segments.{all_done}

-- whether a call names this key
abbrev pub names : List MsdbDef → ℕ → List ℕ → Deferred → Bool
names defs n k call = (named defs call).0 == n && same_text (named defs call).1 k

-- the databases as settled so far, and what is left of the queue
pub record IsSettling (defs : List MsdbDef) (msdbs : List Msdb) (all done : List Deferred) (at : ℕ)
    (rest : List Deferred) (ts : List Touch) : Type 0 where
  pub now : List Msdb
  pub stages : Stages defs msdbs ts now
  pub left : settle_from defs 0 msdbs all ≡ settle_from defs at now rest
  pub keys : (n : ℕ) (k : List ℕ) → is_some (bytes_at ts n k) ≡ list_any (names defs n k) done

pub at_first : (defs : List MsdbDef) (msdbs : List Msdb) (all : List Deferred) → AllZip IsMsdbOf defs msdbs
    → IsSettling defs msdbs all [] 0 all []
at_first defs msdbs all of = record { now = msdbs; stages = none_staged defs msdbs of; left = refl; keys = λ n k. refl }

next_call : (defs : List MsdbDef) (at : ℕ) (now : List Msdb) (call : Deferred) (rest : List Deferred)
    (changed : List Msdb) → applied defs call now ≡ Becomes changed
    → settle_from defs at now (call ∷ rest) ≡ settle_from defs (at + 1) changed rest
unfolding settle_from
next_call defs at now call rest changed e = ap (λ (a : Applied).
    let all : Settled = elim a [
      | Becomes ms ↦ settle_from defs (at + 1) ms rest
      | Fails fsa found ↦
          VerifyFails at fsa found
    ] in all) e

bad_call : (defs : List MsdbDef) (at : ℕ) (now : List Msdb) (call : Deferred) (rest : List Deferred) (fsa : ℕ)
    (found : List ℕ) → applied defs call now ≡ Fails fsa found
    → settle_from defs at now (call ∷ rest) ≡ VerifyFails at fsa found
unfolding settle_from
bad_call defs at now call rest fsa found e = ap (λ (a : Applied).
    let all : Settled = elim a [ Becomes ms ↦ settle_from defs (at + 1) ms rest | Fails f g ↦ VerifyFails at f g ] in
    all) e

any_more : {X : Type 0} (p : X → Bool) (xs : List X) (x : X) → list_any p (xs ++ x ∷ []) ≡ (list_any p xs || p x)
any_more p [] x = by (p x)
  where
    by : (b : Bool) → (b || false) ≡ b
    by true = refl
    by false = refl
any_more p (y ∷ ys) x = ap (λ b. p y || b) (any_more p ys x) ∙ by (p y) (list_any p ys) (p x)
  where
    by : (a b c : Bool) → (a || (b || c)) ≡ ((a || b) || c)
    by true b c = refl
    by false b c = refl

put_some : (t : Touch) (ts : List Touch) (n : ℕ) (k : List ℕ)
    → is_some (bytes_at (put_touch t ts) n k) ≡ (is_some (bytes_at ts n k) || has_key t n k)
put_some t ts n k = ap is_some (at_put t ts n k) ∙ by (has_key t n k) (bytes_at ts n k)
  where
    by : (a : Bool) (o : Option (List ℕ)) → is_some (if a then Some t.bytes else o) ≡ (is_some o || a)
    by true None = refl
    by true (Some x) = refl
    by false None = refl
    by false (Some x) = refl

-- one call more
pub one_more : (defs : List MsdbDef) (msdbs : List Msdb) (all done : List Deferred) (at : ℕ) (call : Deferred)
    (rest : List Deferred) (old new : List Touch) (s : IsSettling defs msdbs all done at (call ∷ rest) old)
    → IsStep defs s.now call old new (Ok tt) → IsSettling defs msdbs all (done ++ call ∷ []) (at + 1) rest new
one_more defs msdbs all done at call rest old new s step =
    let t : Touch = record { number = (named defs call).0; key = (named defs call).1; bytes = step.0 } in
    let is : new ≡ put_touch t old = step.2 in
    subst (IsSettling defs msdbs all (done ++ call ∷ []) (at + 1) rest) (sym is) (record {
      now = with_item defs s.now (item_of t);
      stages = one_staged defs msdbs old s.now t s.stages step.1.0;
      left = s.left ∙ next_call defs at s.now call rest (with_item defs s.now (item_of t)) step.1.1;
      keys = λ n k. put_some t old n k ∙ ap (λ b. b || has_key t n k) (s.keys n k) ∙ sym
          (any_more (names defs n k) done call);
    })

-- the call that fails
pub bad_one : (defs : List MsdbDef) (msdbs : List Msdb) (all done : List Deferred) (at : ℕ) (call : Deferred)
    (rest : List Deferred) (old : List Touch) (s : IsSettling defs msdbs all done at (call ∷ rest) old) (fsa : ℕ)
    (found : List ℕ)
    → applied defs call s.now ≡ Fails fsa found → settle_from defs 0 msdbs all ≡ VerifyFails at fsa found
bad_one defs msdbs all done at call rest old s fsa found e = s.left ∙ bad_call defs at s.now call rest fsa found e

-- ---- the whole queue

-- behind a segment none has its key
none_later : (t : Touch) (n : ℕ) (k : List ℕ) (us : List Touch) → has_key t n k ≡ true
    → AllByRecursion (λ u. touch_cmp t u ≡ Less) us → bytes_at us n k ≡ None
none_later t n k [] here all = refl
none_later t n k (u ∷ us) here all = by (has_key u n k) refl (none_later t n k us here all.1)
  where
    by : (b : Bool) → has_key u n k ≡ b → bytes_at us n k ≡ None → bytes_at (u ∷ us) n k ≡ None
    by true e later = let tie = ties t u n k here e in let both : Less ≡ Equal = sym all.0 ∙ tie in cc
    by false e later = rw e later

-- items in order make of databases what is seen through them
pub seen_through : (defs : List MsdbDef) (ts : List Touch) (base : List Msdb) → AllZip IsMsdbOf defs base
    → AllByRecursion (λ t. IsFitSegment defs (item_of t)) ts → AreInOrder ts
    → AllZip IsMsdbOf defs (with_items defs base (map item_of ts))
    × ((n : ℕ) (k : List ℕ) → segment_in defs (with_items defs base (map item_of ts)) n k ≡ seen ts
    (segment_in defs base n k) n k)
seen_through defs [] base of fit order = (of, λ n k. refl)
seen_through defs (t ∷ ts) base of fit order =
    let next = seen_through defs ts (with_item defs base (item_of t))
    (item_good defs base of t.number t.key t.bytes fit.0) fit.1 order.1 in (
      next.0,
      λ n k. next.1 n k ∙ ap (λ o. seen ts o n k) (behind_item defs base of t fit.0 n k) ∙ by n k (has_key t n k)
          refl,
    )
  where
    middle : (n : ℕ) (k : List ℕ) (b : Bool) → has_key t n k ≡ b
        → seen ts (if b then made t.bytes else segment_in defs base n k) n k ≡ shown (segment_in defs base n k)
        (if b then Some t.bytes else bytes_at ts n k)
    middle n k true e = ap (shown (made t.bytes)) (none_later t n k ts e order.0)
    middle n k false e = refl

    by : (n : ℕ) (k : List ℕ) (b : Bool) → has_key t n k ≡ b
        → seen ts (if has_key t n k then made t.bytes else segment_in defs base n k) n k ≡ seen (t ∷ ts)
        (segment_in defs base n k) n k
    by n k b e =
        ap (λ (x : Bool). seen ts (if x then made t.bytes else segment_in defs base n k) n k) e ∙ middle n k b e
        ∙ sym (ap (λ (x : Bool). shown (segment_in defs base n k) (if x then Some t.bytes else bytes_at ts n k)) e)

pub same_end : (defs : List MsdbDef) (msdbs : List Msdb) (ts : List Touch) (now : List Msdb)
    → AllZip IsMsdbOf defs msdbs → Stages defs msdbs ts now → AreInOrder ts
    → with_items defs msdbs (map item_of ts) ≡ now
same_end defs msdbs ts now of s order =
    let all = seen_through defs ts msdbs of s.fit order in
    same_databases defs (with_items defs msdbs (map item_of ts)) now all.0 s.of (λ n k. all.1 n k ∙ sym (s.agree n k))

-- what the call answers
pub bad_answer : (defs : List MsdbDef) (msdbs : List Msdb) (all done : List Deferred) (at : ℕ) (call : Deferred)
    (rest : List Deferred) (old new : List Touch) (s : IsSettling defs msdbs all done at (call ∷ rest) old)
    (why : SettleFault)
    → IsStep defs s.now call old new (Err why) → IsAnswer defs msdbs (Err (fault_at at why))
    (settle_from defs 0 msdbs all)
bad_answer defs msdbs all done at call rest old new s (fault.Bad place found) step =
    bad_one defs msdbs all done at call rest old s place found step
bad_answer defs msdbs all done at call rest old new s fault.Memory step = tt

pub good_answer : (defs : List MsdbDef) (msdbs : List Msdb) (all done : List Deferred) (at : ℕ) (ts : List Touch)
    (items : List Item) → AllZip IsMsdbOf defs msdbs → IsSettling defs msdbs all done at [] ts → AreInOrder ts
    → items ≡ map item_of ts
    → settle_from defs 0 msdbs all ≡ Stands (with_items defs msdbs items)
good_answer defs msdbs all done at ts items of s order is =
    s.left ∙ all_done defs at s.now ∙ ap Stands (sym (same_end defs msdbs ts s.now of s.stages order)) ∙ ap
    (λ its. Stands (with_items defs msdbs its)) (sym is)

-- ---- the items

segments_of : (ts : List Touch) → AllByRecursion IsSegmentItem (map item_of ts)
segments_of [] = tt
segments_of (t ∷ ts) = (tt, segments_of ts)

fit_of : (defs : List MsdbDef) (ts : List Touch) → AllByRecursion (λ t. IsFitSegment defs (item_of t)) ts
    → AllByRecursion (IsFitSegment defs) (map item_of ts)
fit_of defs [] all = tt
fit_of defs (t ∷ ts) all = (all.0, fit_of defs ts all.1)

less_first : (a b : ℕ) (o c : Ordering) → nat_cmp a b ≡ c → ordering_then c o ≡ Less
    → (nat_lt a b || (a == b && is_lt o)) ≡ true
less_first a b o Less e less = let lower : nat_lt a b ≡ true = grind (arith, nat_tests) in rw lower refl
less_first a b o Equal e less =
    let same : a ≡ b = exact_unsigned a b e in
    let tie : (a == b) ≡ true = grind (arith, nat_tests) in
    rw (tie, less) (by (nat_lt a b))
  where
    by : (x : Bool) → (x || true) ≡ true
    by true = refl
    by false = refl
less_first a b o Greater e less = cc

precedes_of : (t u : Touch) → touch_cmp t u ≡ Less → precedes (item_of t) (item_of u) ≡ true
precedes_of t u less = less_first t.number u.number (slice_cmp nat_cmp t.key u.key) (nat_cmp t.number u.number) refl
    less

ascending_of : (ts : List Touch) → AreInOrder ts → is_ascending (map item_of ts) ≡ true
ascending_of [] order = refl
ascending_of (t ∷ []) order = refl
ascending_of (t ∷ u ∷ us) order = rw (precedes_of t u order.0.0) (ascending_of (u ∷ us) order.1)

pub staged_of : (defs : List MsdbDef) (msdbs now : List Msdb) (ts : List Touch) (items : List Item) (inserts : ℕ)
    → Stages defs msdbs ts now → AreInOrder ts → items ≡ map item_of ts → inserts ≡ count_by (adds defs msdbs) items
    → IsStaged defs msdbs (record { items = items; inserts = inserts })
staged_of defs msdbs now ts items inserts s order is count = record {
  segments = subst (AllByRecursion IsSegmentItem) (sym is) (segments_of ts);
  fit = subst (AllByRecursion (IsFitSegment defs)) (sym is) (fit_of defs ts s.fit);
  in_order = ap is_ascending is ∙ ascending_of ts order;
  inserts = count;
}

-- a call stages one segment more at most
pub step_long : (defs : List MsdbDef) (now : List Msdb) (call : Deferred) (old new : List Touch)
    → IsStep defs now call old new (Ok tt) → length new ≤ length old + 1
step_long defs now call old new step =
    omega (
      arith,
      ap length step.2,
      long_put (record
          { number = (named defs call).0; key = (named defs call).1; bytes = step.0 }) old,
    )

-- ---- a queue of one call

-- a list of one element is that element's
pub only_item : {X : Type 0} (xs : List X) (x : X) → 1 ≤ length xs → length xs < 2 → x ≡ slice_index_or xs 0 x
    → xs ≡ x ∷ []
only_item [] x some few is = absurd (omega (arith, some))
only_item (y ∷ []) x some few is = ap (λ z. z ∷ []) (sym is)
only_item (y ∷ z ∷ ys) x some few is = absurd (omega (arith, few))

module _ (defs : List MsdbDef) (store : Stored) (call : Deferred) (can : CanSettle defs store (call ∷ [])) where
  -- before it nothing is staged
  pub before_one : IsSettling defs store.msdbs (call ∷ []) [] 0 (call ∷ []) []
  before_one = at_first defs store.msdbs (call ∷ []) can.of.each

  pub at_one : AtCall defs store [] store.msdbs call
  unfolding before_one at_first
  at_one = record { of = can.of; defined = can.defined; stages = before_one.stages; fit = can.fit.0 }

  -- it fails,
  pub one_bad : (why : SettleFault) → IsGiven defs store.msdbs call (Err why)
      → IsAnswer defs store.msdbs (Err (fault_at 0 why)) (settle defs store.msdbs (call ∷ []))
  unfolding before_one at_first
  one_bad (fault.Bad place found) given =
      bad_answer defs store.msdbs (call ∷ []) [] 0 call [] [] [] before_one (fault.Bad place found) given
  one_bad fault.Memory given = tt

  -- or its segment alone is staged
  abbrev pub only_touch : List ℕ → Touch
  only_touch bytes = record { number = (named defs call).0; key = (named defs call).1; bytes = bytes }

  pub behind_one : (bytes : List ℕ) → IsGiven defs store.msdbs call (Ok bytes)
      → IsSettling defs store.msdbs (call ∷ []) (call ∷ []) 1 [] (only_touch bytes ∷ [])
  unfolding before_one at_first
  behind_one bytes given =
      one_more defs store.msdbs (call ∷ []) [] 0 call [] [] (only_touch bytes ∷ []) before_one (bytes, given, refl)
