-- Staged segments: what a search finds behind a change, and what they make of the databases.
use Rattle.std.proofs.Common.{◌≡◌, refl, sym, ◌∙◌, ap, subst, arith, ℕ, ◌+◌, ◌≤◌, List, [], ◌∷◌, map, length, Bool, true, false, ◌&&◌, ◌==◌, Option, Some, None}
use Rattle.std.specs.Prelude.{if◌then◌else◌}
use Rattle.std.specs.declared.cmp.Ordering.{Ordering}
use Rattle.std.specs.declared.cmp.Ordering.TheVariants.{Less, Equal, Greater}
use Rattle.std.specs.List.{AllZip, AllByRecursion}
use Rattle.std.specs.Ordering.{match_ordering, nat_cmp, ordering_then, is_eq}
use Rattle.std.specs.Cmp.Lexicographic.{slice_cmp}
use Rattle.std.proofs.lemmas.Cmp.{nat_list_cmp_total, tied_itself}
use Rattle.std.specs.Cmp.{nat_cmp_total}
use Rattle.std.proofs.lemmas.Map.Lookups.{exact_bytes, exact_unsigned}
use Rattle.std.proofs.lemmas.Map.Keys.{sorted_head, sorted_tail}
use Rattle.std.specs.BTreeMap.{insert_entry, is_at}
use Rattle.std.specs.List.Sorted.{IsStrictlySortedBy}
use Rattle.std.specs.Map.{keys_of, lookup}
use Rattle.fp_model.specs.CheckpointText.{IsMsdbOf}
use Rattle.fp_model.specs.Items.{with_item}
use Rattle.fp_model.specs.Texts.{same_text}
use Rattle.fp_model.specs.declared.database.Msdb.{Msdb}
use Rattle.fp_model.specs.declared.definitions.MsdbDef.{MsdbDef}
use Rattle.fp_model.specs.declared.log.Item.TheVariants.{Segment}
use Rattle.msdb_store.specs.Store.{IsFitSegment, segment_in}
use Rattle.msdb_store.specs.Touches.{Touch}
use Rattle.msdb_store.specs.inside.Touches.{AreInOrder, bytes_at, has_key, item_of, made, put_touch, seen, touch_cmp}
use Rattle.msdb_store.specs.inside.Steps.{Stages}
use Rattle.key_order.proofs.Ascending.{not_both}
use Rattle.msdb_store.proofs.Databases.{at_item, beside_item, item_good}
use Rattle.plain_laws.proofs.Truths.{first_of_both, second_of_both}
use Rattle.plain_laws.proofs.Numbers.{is_number, number_is}
use Rattle.model_laws.proofs.Texts.{same_text_is, text_is_same}

-- ---- numbers and keys

pub key_number : (t : Touch) (n : ℕ) (k : List ℕ) → has_key t n k ≡ true → t.number ≡ n
key_number t n k e = number_is t.number n (first_of_both _ _ e)

pub key_text : (t : Touch) (n : ℕ) (k : List ℕ) → has_key t n k ≡ true → t.key ≡ k
key_text t n k e = same_text_is t.key k (second_of_both (t.number == n) _ e)

pub has_its : (t : Touch) → has_key t t.number t.key ≡ true
has_its t = rw (is_number t.number) (text_is_same t.key)

first_tie : (a b : Ordering) → ordering_then a b ≡ Equal → a ≡ Equal
first_tie Less b e = e
first_tie Equal b e = refl
first_tie Greater b e = e

second_tie : (a b : Ordering) → ordering_then a b ≡ Equal → b ≡ Equal
second_tie Less b e = cc
second_tie Equal b e = e
second_tie Greater b e = cc

-- two that tie have the same number and key
tied : (t u : Touch) → touch_cmp t u ≡ Equal → (t.number ≡ u.number) × (t.key ≡ u.key)
tied t u e = (
  exact_unsigned t.number u.number (first_tie _ _ e),
  exact_bytes t.key u.key (second_tie (nat_cmp t.number u.number) _ e),
)

ties_itself : (t : Touch) → touch_cmp t t ≡ Equal
ties_itself t = ap (λ a. ordering_then a (slice_cmp nat_cmp t.key t.key)) (tied_itself nat_cmp_total t.number) ∙
    tied_itself nat_list_cmp_total t.key

-- and two that have the same tie
pub ties : (t u : Touch) (n : ℕ) (k : List ℕ) → has_key t n k ≡ true → has_key u n k ≡ true → touch_cmp t u ≡ Equal
ties t u n k a b =
    ap (λ (m : ℕ). ordering_then (nat_cmp m u.number) (slice_cmp nat_cmp t.key u.key))
    (key_number t n k a ∙ sym (key_number u n k b))
    ∙ ap (λ (j : List ℕ). ordering_then (nat_cmp u.number u.number) (slice_cmp nat_cmp j u.key))
    (key_text t n k a ∙ sym (key_text u n k b))
    ∙ ties_itself u

-- ---- a search behind a change

pub at_put : (t : Touch) (ts : List Touch) (n : ℕ) (k : List ℕ)
    → bytes_at (put_touch t ts) n k ≡ (if has_key t n k then Some t.bytes else bytes_at ts n k)
at_put t [] n k = refl
at_put t (u ∷ us) n k = by (touch_cmp t u) refl (at_put t us n k)
  where
    Goal : List Touch → Type 0
    Goal ts = bytes_at ts n k ≡ (if has_key t n k then Some t.bytes else bytes_at (u ∷ us) n k)

    over : (t.number ≡ u.number) × (t.key ≡ u.key) → (a : Bool) → has_key t n k ≡ a
        → bytes_at (record u { bytes = t.bytes } ∷ us) n k ≡
        (if has_key t n k then Some t.bytes else bytes_at (u ∷ us) n k)
    over same a e =
        let both : has_key u n k ≡ a = ap (λ (m : ℕ). m == n && same_text u.key k) (sym same.0) ∙ ap
        (λ (j : List ℕ). t.number == n && same_text j k) (sym same.1) ∙ e in
        rw (e, both) (last a)
      where
        last : (a : Bool) → (if a then Some t.bytes else bytes_at us n k) ≡
            (if a then Some t.bytes else (if a then Some u.bytes else bytes_at us n k))
        last true = refl
        last false = refl

    later : touch_cmp t u ≡ Greater → (a b : Bool) → has_key t n k ≡ a → has_key u n k ≡ b
        → bytes_at (put_touch t us) n k ≡ (if has_key t n k then Some t.bytes else bytes_at us n k)
        → bytes_at (u ∷ put_touch t us) n k ≡ (if has_key t n k then Some t.bytes else bytes_at (u ∷ us) n k)
    later above true true a b rest = let tie : Greater ≡ Equal = sym above ∙ ties t u n k a b in cc
    later above true false a b rest = rw (a, b) (rw a at rest)
    later above false true a b rest = rw (a, b) refl
    later above false false a b rest = rw (a, b) (rw a at rest)

    by : (o : Ordering) → touch_cmp t u ≡ o → bytes_at (put_touch t us) n k ≡
        (if has_key t n k then Some t.bytes else bytes_at us n k)
        → bytes_at (match_ordering (touch_cmp t u) (t ∷ u ∷ us) (record u { bytes = t.bytes } ∷ us)
        (u ∷ put_touch t us)) n k ≡ (if has_key t n k then Some t.bytes else bytes_at (u ∷ us) n k)
    by Less e rest = rw e refl
    by Equal e rest = rw e (over (tied t u e) (has_key t n k) refl)
    by Greater e rest = rw e (later e (has_key t n k) (has_key u n k) refl refl rest)

-- ---- as entries of an ordered map

-- two tie where the second has the first one's key
tie_test : (t u : Touch) → is_eq (touch_cmp u t) ≡ has_key t u.number u.key
tie_test t u = by (touch_cmp u t) (has_key t u.number u.key) refl refl
  where
    by : (o : Ordering) (a : Bool) → touch_cmp u t ≡ o → has_key t u.number u.key ≡ a
        → is_eq (touch_cmp u t) ≡ has_key t u.number u.key
    by o true e a = ap is_eq (ties u t u.number u.key (has_its u) a) ∙ sym a
    by Less false e a = rw (e, a) refl
    by Greater false e a = rw (e, a) refl
    by Equal false e a =
        let same = tied u t e in
        absurd (not_both (sym (subst (λ n. has_key t n u.key ≡ true) (sym same.0)
        (subst (λ k. has_key t t.number k ≡ true) (sym same.1) (has_its t))) ∙ a))

module _ {K : Type 0} (number : K → ℕ) (key : K → List ℕ) where
  abbrev pub by_both : K → K → Ordering
  by_both a b = ordering_then (nat_cmp (number a) (number b)) (slice_cmp nat_cmp (key a) (key b))

  abbrev pub touch_of : K × List ℕ → Touch
  touch_of e = record { number = number e.0; key = key e.0; bytes = e.1 }

  pub put_entries : (es : List (K × List ℕ)) (k : K) (v : List ℕ)
      → map touch_of (insert_entry by_both es k v) ≡ put_touch (touch_of (k, v)) (map touch_of es)
  put_entries [] k v = refl
  put_entries (e ∷ es) k v = by (by_both k e.0) refl (put_entries es k v)
    where
      by : (o : Ordering) → by_both k e.0 ≡ o → map touch_of (insert_entry by_both es k v) ≡ put_touch (touch_of (k, v))
          (map touch_of es)
          → map touch_of (match_ordering (by_both k e.0) ((k, v) ∷ e ∷ es) ((e.0, v) ∷ es)
          (e ∷ insert_entry by_both es k v))
          ≡ match_ordering (by_both k e.0) (touch_of (k, v) ∷ touch_of e ∷ map touch_of es)
          (touch_of (e.0, v) ∷ map touch_of es) (touch_of e ∷ put_touch (touch_of (k, v)) (map touch_of es))
      by Less is rest = rw is refl
      by Equal is rest = rw is refl
      by Greater is rest = rw is (ap (λ ts. touch_of e ∷ ts) rest)

  -- the items of what was yielded
  pub items_from : (xs es : List (K × List ℕ)) → map (λ x. x) xs ≡ es
      → map (λ e. Segment (number e.0) (key e.0) e.1) xs ≡ map item_of (map touch_of es)
  items_from xs es all = each xs ∙ ap (λ (fs : List (K × List ℕ)). map item_of (map touch_of fs)) all
    where
      each : (ys : List (K × List ℕ)) → map (λ e. Segment (number e.0) (key e.0) e.1) ys ≡ map item_of
          (map touch_of (map (λ y. y) ys))
      each [] = refl
      each (y ∷ ys) = ap (λ its. Segment (number y.0) (key y.0) y.1 ∷ its) (each ys)

  pub look_entries : (es : List (K × List ℕ)) (k : K)
      → lookup (is_at (by_both k)) es ≡ bytes_at (map touch_of es) (number k) (key k)
  look_entries [] k = refl
  look_entries (e ∷ es) k =
      ap (λ (a : Bool). if a then Some e.1 else lookup (is_at (by_both k)) es)
      (tie_test (touch_of e) (touch_of (k, [])))
      ∙ ap (λ (rest : Option (List ℕ)). if has_key (touch_of e) (number k) (key k) then Some e.1 else rest)
      (look_entries es k)

  pub order_entries : (es : List (K × List ℕ)) → IsStrictlySortedBy by_both (keys_of es) → AreInOrder (map touch_of es)
  order_entries [] sorted = tt
  order_entries (e ∷ es) sorted = (
    above es (sorted_head by_both e.0 (keys_of es) sorted),
    order_entries es (sorted_tail by_both e.0 (keys_of es) sorted),
  )
    where
      above : (fs : List (K × List ℕ)) → AllByRecursion (λ k. by_both e.0 k ≡ Less) (keys_of fs)
          → AllByRecursion (λ u. touch_cmp (touch_of e) u ≡ Less) (map touch_of fs)
      above [] all = tt
      above (f ∷ fs) all = (all.0, above fs all.1)

-- ---- what stays behind a change

-- each still fits
pub fit_put : (P : Touch → Type 0) (t : Touch) (ts : List Touch)
    → ((u : Touch) → t.number ≡ u.number → t.key ≡ u.key → t.bytes ≡ u.bytes → P u) → AllByRecursion P ts
    → AllByRecursion P (put_touch t ts)
fit_put P t [] one all = (one t refl refl refl, tt)
fit_put P t (u ∷ us) one all = by (touch_cmp t u) refl (fit_put P t us one all.1)
  where
    by : (o : Ordering) → touch_cmp t u ≡ o → AllByRecursion P (put_touch t us)
        → AllByRecursion P (match_ordering (touch_cmp t u) (t ∷ u ∷ us) (record u { bytes = t.bytes } ∷ us)
        (u ∷ put_touch t us))
    by Less e rest = rw e (one t refl refl refl, all)
    by Equal e rest = let same = tied t u e in rw e (one (record u { bytes = t.bytes }) same.0 same.1 refl, all.1)
    by Greater e rest = rw e (all.0, rest)

pub long_put : (t : Touch) (ts : List Touch) → length (put_touch t ts) ≤ length ts + 1
long_put t [] = omega arith
long_put t (u ∷ us) = by (touch_cmp t u) refl (long_put t us)
  where
    by : (o : Ordering) → touch_cmp t u ≡ o → length (put_touch t us) ≤ length us + 1
        → length (match_ordering (touch_cmp t u) (t ∷ u ∷ us) (record u { bytes = t.bytes } ∷ us) (u ∷ put_touch t us))
        ≤ length (u ∷ us) + 1
    by Less e rest = rw e (omega arith)
    by Equal e rest = rw e (omega arith)
    by Greater e rest = rw e (omega (arith, rest))

-- ---- what they make of the databases

pub none_staged : (defs : List MsdbDef) (msdbs : List Msdb) → AllZip IsMsdbOf defs msdbs → Stages defs msdbs [] msdbs
none_staged defs msdbs of = record { of = of; fit = tt; agree = λ n k. refl }

apart_by : (a b : ℕ) (c : Bool) → (a == b && c) ≡ false → c ≡ true → a ≡ b → ⊥
apart_by a b c e same is = not_both (sym (ap (λ (x : Bool). x && c) (subst (λ m. (a == m) ≡ true) is (is_number a)) ∙
    same) ∙ e)

-- a key behind an item: its bytes, or what was there
pub behind_item : (defs : List MsdbDef) (now : List Msdb) → AllZip IsMsdbOf defs now → (t : Touch)
    → IsFitSegment defs (item_of t) → (n : ℕ) (k : List ℕ)
    → segment_in defs (with_item defs now (item_of t)) n k ≡
    (if has_key t n k then made t.bytes else segment_in defs now n k)
behind_item defs now of t fit n k = by (has_key t n k) (same_text t.key k) (t.number == n) refl refl refl
  where
    at_its : t.number ≡ n → segment_in defs (with_item defs now (item_of t)) n k ≡
        (if same_text t.key k then made t.bytes else segment_in defs now n k)
    at_its is = subst (λ m. segment_in defs (with_item defs now (item_of t)) m k ≡
        (if same_text t.key k then made t.bytes else segment_in defs now m k)) is
        (at_item defs now of t.number t.key t.bytes fit k)

    by : (a b c : Bool) → has_key t n k ≡ a → same_text t.key k ≡ b → (t.number == n) ≡ c
        → segment_in defs (with_item defs now (item_of t)) n k ≡
        (if has_key t n k then made t.bytes else segment_in defs now n k)
    by a b true ea eb ec =
        let same : has_key t n k ≡ same_text t.key k = ap (λ (x : Bool). x && same_text t.key k) ec in
        at_its (number_is t.number n ec) ∙ ap (λ (x : Bool). if x then made t.bytes else segment_in defs now n k)
        (sym same)
    by a b false ea eb ec =
        let other : has_key t n k ≡ false = ap (λ (x : Bool). x && same_text t.key k) ec in
        beside_item defs now of t.number t.key t.bytes fit n k
        (λ is. not_both (sym (subst (λ m. (t.number == m) ≡ true) is (is_number t.number)) ∙ ec))
        ∙ ap (λ (x : Bool). if x then made t.bytes else segment_in defs now n k) (sym other)

abbrev pub shown : Option (List ℕ) → Option (List ℕ) → Option (List ℕ)
shown base o = elim o [ None ↦ base | Some bytes ↦ made bytes ]

one_of : (base : Option (List ℕ)) (bytes : List ℕ) (o : Option (List ℕ)) (a : Bool)
    → (if a then made bytes else shown base o) ≡ shown base (if a then Some bytes else o)
one_of base bytes o true = refl
one_of base bytes o false = refl

seen_put : (t : Touch) (ts : List Touch) (base : Option (List ℕ)) (n : ℕ) (k : List ℕ)
    → (if has_key t n k then made t.bytes else seen ts base n k) ≡ seen (put_touch t ts) base n k
seen_put t ts base n k = one_of base t.bytes (bytes_at ts n k) (has_key t n k) ∙ ap (shown base) (sym (at_put t ts n k))

-- one more
pub one_staged : (defs : List MsdbDef) (msdbs : List Msdb) (ts : List Touch) (now : List Msdb) (t : Touch)
    → Stages defs msdbs ts now → IsFitSegment defs (item_of t)
    → Stages defs msdbs (put_touch t ts) (with_item defs now (item_of t))
one_staged defs msdbs ts now t is fit = record {
  of = item_good defs now is.of t.number t.key t.bytes fit;
  fit = fit_put (λ u. IsFitSegment defs (item_of u)) t ts
      (λ u a b c. subst (IsFitSegment defs) (items_same u a b c) fit) is.fit;
  agree = λ n k. behind_item defs now is.of t fit n k ∙ ap (λ o. if has_key t n k then made t.bytes else o)
      (is.agree n k) ∙ seen_put t ts (segment_in defs msdbs n k) n k;
}
  where
    items_same : (u : Touch) → t.number ≡ u.number → t.key ≡ u.key → t.bytes ≡ u.bytes → item_of t ≡ item_of u
    items_same u a b c = cc
