-- An entry that is put among those of other resources, is changed, or goes.
use Rattle.std.proofs.Common.{refl, arith, ◌≡◌, ◌<◌, ◌≤◌, ℕ, zero, suc, List, [], ◌∷◌, length, ⊎_elim, Bool, true, false, cond, ◌&&◌, ◌==◌, Option, Some, None, ap, sym, ◌∙◌}
use Rattle.std.specs.Prelude.{if◌then◌else◌, slice_get, slice_set, slice_index_or}
use Rattle.std.specs.BTreeMap.{BTreeMap, get, get_by, insert_entry, is_at}
use Rattle.std.specs.Map.{lookup, remove_entry, set_value}
use Rattle.std.specs.Cmp.Lexicographic.{slice_cmp, bytes_decides}
use Rattle.std.proofs.lemmas.Cmp.{same_from_slice_cmp}
use Rattle.std.proofs.lemmas.Bool.{cases_eq}
use Rattle.fp_model.specs.Texts.{same_text}
use Rattle.std.specs.Ordering.{is_eq, match_ordering, nat_cmp, ordering_then}
use Rattle.std.specs.declared.cmp.Ordering.{Ordering}
use Rattle.std.specs.declared.cmp.Ordering.TheVariants.{Less, Equal, Greater}
use Rattle.std.proofs.lemmas.Bool.Decides.{nat_tests}
use Rattle.fp_model.specs.declared.calls.Resource.{Resource}
use Rattle.fp_model.specs.declared.calls.Resource.TheVariants.{Segment, Anchor}
use Rattle.fp_model.specs.Waiting.{same_resource}
use Rattle.ci_locks.specs.Holdings.{anchor_cmp, at_key, key_holders, resource_holders}
use Rattle.model_laws.proofs.Texts.{same_text_is, text-flipped, text_test}
use Rattle.plain_laws.proofs.Orderings.{number_test, then_test}

pub anchor_test : (d a e b : ℕ) → is_at (anchor_cmp (d, a)) (e, b) ≡ (d == e && a == b)
anchor_test d a e b = then_test (nat_cmp d e) (nat_cmp a b) ∙ ap (λ t. t && is_eq (nat_cmp a b)) (number_test d e) ∙ ap
    (λ t. (d == e) && t) (number_test a b)

-- an anchor has that now, or nothing
pub put_anchor : {K V : Type 0} (bytes : K → List ℕ) (old new : BTreeMap (ℕ × ℕ) V) (segments : List (BTreeMap K V))
    (resource : Resource) (d a : ℕ) (now : Option V)
    → resource ≡ Anchor d a
    → ((q : ℕ × ℕ) → get anchor_cmp new q ≡ cond (is_at (anchor_cmp (d, a)) q) now (get anchor_cmp old q))
    → (other : Resource) → resource_holders bytes new segments other ≡
    (if same_resource resource other then now else resource_holders bytes old segments other)
put_anchor bytes old new segments resource d a now is updates (Segment m k) =
    sym (ap (λ r. if same_resource r (Segment m k) then now else resource_holders bytes old segments (Segment m k)) is)
put_anchor bytes old new segments resource d a now is updates (Anchor e b) =
    updates (e, b) ∙ ap (λ t. cond t now (get anchor_cmp old (e, b))) (anchor_test d a e b)
    ∙ sym (ap (λ r. if same_resource r (Anchor e b) then now else resource_holders bytes old segments (Anchor e b)) is)

-- ---- segments

is_same : (a b : List ℕ) → a ≡ b → same_text a b ≡ true
is_same a b e = (bytes_decides a b).1 e

-- a key that a text finds isn't found by another
elsewhere : (key k spelled : List ℕ) → same_text key k ≡ false → is_eq (slice_cmp nat_cmp key spelled) ≡ true
    → is_eq (slice_cmp nat_cmp k spelled) ≡ false
elsewhere key k spelled apart here = by (is_eq (slice_cmp nat_cmp k spelled)) refl
  where
    by : (b : Bool) → is_eq (slice_cmp nat_cmp k spelled) ≡ b → b ≡ false
    by true e =
        let same : key ≡ k = same_text_is key spelled (sym (text_test key spelled) ∙ here) ∙ sym
        (same_text_is k spelled (sym (text_test k spelled) ∙ e)) in
        absurd (let yes : same_text key k ≡ true = is_same key k same in cc)
    by false e = refl

module _ {K V : Type 0} (bytes : K → List ℕ) where
  pub lookup_put : (es : List (K × V)) (key : K) (mode : V) (k : List ℕ)
      → lookup (λ v. is_eq (slice_cmp nat_cmp k (bytes v)))
      (insert_entry (λ a b. slice_cmp nat_cmp (bytes a) (bytes b)) es key mode)
      ≡ cond (same_text (bytes key) k) (Some mode) (lookup (λ v. is_eq (slice_cmp nat_cmp k (bytes v))) es)
  lookup_put [] key mode k = ap (λ b. cond b (Some mode) None) (text_test k (bytes key) ∙ text-flipped k (bytes key))
  lookup_put (e ∷ es) key mode k = by (slice_cmp nat_cmp (bytes key) (bytes e.0)) refl (lookup_put es key mode k)
    where
      three : (t s : Bool) (a m r : Option V) → t ≡ s → cond t m r ≡ cond s m (cond t a r)
      three true true a m r e2 = refl
      three true false a m r e2 = absurd (cc)
      three false true a m r e2 = absurd (cc)
      three false false a m r e2 = refl

      swap : (t s : Bool) (a m r : Option V) → (t ≡ true → s ≡ true → ⊥) → cond t a (cond s m r) ≡ cond s m (cond t a r)
      swap true true a m r ne = absurd (ne refl refl)
      swap true false a m r ne = refl
      swap false s a m r ne = refl

      by : (o : Ordering) → slice_cmp nat_cmp (bytes key) (bytes e.0) ≡ o
          → lookup (λ v. is_eq (slice_cmp nat_cmp k (bytes v)))
          (insert_entry (λ a b. slice_cmp nat_cmp (bytes a) (bytes b)) es key mode) ≡ cond (same_text (bytes key) k)
          (Some mode) (lookup (λ v. is_eq (slice_cmp nat_cmp k (bytes v))) es)
          → lookup (λ v. is_eq (slice_cmp nat_cmp k (bytes v)))
          (match_ordering o ((key, mode) ∷ e ∷ es) ((e.0, mode) ∷ es)
          (e ∷ insert_entry (λ a b. slice_cmp nat_cmp (bytes a) (bytes b)) es key mode))
          ≡ cond (same_text (bytes key) k) (Some mode)
          (cond (is_eq (slice_cmp nat_cmp k (bytes e.0))) (Some e.1)
          (lookup (λ v. is_eq (slice_cmp nat_cmp k (bytes v))) es))
      by Less is rest = ap (λ b. cond b (Some mode)
          (cond (is_eq (slice_cmp nat_cmp k (bytes e.0))) (Some e.1)
          (lookup (λ v. is_eq (slice_cmp nat_cmp k (bytes v))) es))) (text_test k (bytes key) ∙ text-flipped k (bytes key))
      by Equal is rest =
          let same : bytes key ≡ bytes e.0 = same_text_is (bytes key) (bytes e.0)
          (sym (text_test (bytes key) (bytes e.0)) ∙ ap is_eq is) in
          three (is_eq (slice_cmp nat_cmp k (bytes e.0))) (same_text (bytes key) k) (Some e.1) (Some mode)
          (lookup (λ v. is_eq (slice_cmp nat_cmp k (bytes v))) es)
          (text_test k (bytes e.0) ∙ text-flipped k (bytes e.0) ∙ ap (λ t. same_text t k) (sym same))
      by Greater is rest =
          ap (cond (is_eq (slice_cmp nat_cmp k (bytes e.0))) (Some e.1)) rest
          ∙ swap (is_eq (slice_cmp nat_cmp k (bytes e.0))) (same_text (bytes key) k) (Some e.1) (Some mode)
          (lookup (λ v. is_eq (slice_cmp nat_cmp k (bytes v))) es)
          (λ t s. let here : k ≡ bytes e.0 = same_text_is k (bytes e.0) (sym (text_test k (bytes e.0)) ∙ t) in
          let there : bytes key ≡ k = same_text_is (bytes key) k s in
          let yes : is_eq Greater ≡ true = ap is_eq (sym is) ∙ text_test (bytes key) (bytes e.0) ∙ is_same (bytes key)
          (bytes e.0) (there ∙ here) in
          let no : false ≡ true = yes in cc)

  key_here : (tables : List (BTreeMap K V)) (m : ℕ) (new : BTreeMap K V) (k : List ℕ) → m < length tables
      → key_holders bytes k (slice_get (slice_set tables m new) m) ≡ get_by (λ other. slice_cmp nat_cmp k (bytes other))
      new
  key_here [] m new k h = absurd (omega (arith, h))
  key_here (t ∷ ts) zero new k h = refl
  key_here (t ∷ ts) (suc m) new k h = key_here ts m new k (omega (arith, h))

  key_old : (tables : List (BTreeMap K V)) (m : ℕ) (old : BTreeMap K V) (k : List ℕ) → m < length tables
      → old ≡ slice_index_or tables m old → key_holders bytes k (slice_get tables m) ≡ get_by
      (λ other. slice_cmp nat_cmp k (bytes other)) old
  key_old [] m old k h is = absurd (omega (arith, h))
  key_old (t ∷ ts) zero old k h is = ap (λ table. get_by (λ other. slice_cmp nat_cmp k (bytes other)) table) (sym is)
  key_old (t ∷ ts) (suc m) old k h is = key_old ts m old k (omega (arith, h)) is

  get_other : (tables : List (BTreeMap K V)) (m n : ℕ) (new : BTreeMap K V) → (n ≡ m → ⊥)
      → slice_get (slice_set tables m new) n ≡ slice_get tables n
  get_other [] m n new ne = refl
  get_other (t ∷ ts) zero zero new ne = absurd (ne refl)
  get_other (t ∷ ts) zero (suc n) new ne = refl
  get_other (t ∷ ts) (suc m) zero new ne = refl
  get_other (t ∷ ts) (suc m) (suc n) new ne = get_other ts m n new (λ e. ne (ap suc e))

  -- a table in which one key has that now, or nothing
  pub put_table : (anchors : BTreeMap (ℕ × ℕ) V) (tables : List (BTreeMap K V)) (old new : BTreeMap K V)
      (resource : Resource) (m : ℕ) (text : List ℕ) (now : Option V)
      → resource ≡ Segment m text → m < length tables → old ≡ slice_index_or tables m old
      → ((k : List ℕ) → at_key bytes k new ≡ cond (same_text text k) now (at_key bytes k old))
      → (other : Resource) → resource_holders bytes anchors (slice_set tables m new) other ≡
      (if same_resource resource other then now else resource_holders bytes anchors tables other)
  put_table anchors tables old new resource m text now is h was updates (Anchor e b) =
      sym (ap (λ r. if same_resource r (Anchor e b) then now else resource_holders bytes anchors tables (Anchor e b))
      is)
  put_table anchors tables old new resource m text now is h was updates (Segment n k) =
      ⊎_elim
      (λ (e : n ≡ m).
      let yes : (m == n) ≡ true = grind arith in
      ap (λ i. key_holders bytes k (slice_get (slice_set tables m new) i)) e
      ∙ key_here tables m new k h
      ∙ updates k
      ∙ ap (λ v. cond (same_text text k) now v) (sym (key_old tables m old k h was) ∙ sym
      (ap (λ i. key_holders bytes k (slice_get tables i)) e))
      ∙ sym (ap (λ b. cond (b && same_text text k) now (resource_holders bytes anchors tables (Segment n k))) yes))
      (λ (ne : n ≡ m → ⊥).
      let no : (m == n) ≡ false = grind (arith, nat_tests) in
      ap (key_holders bytes k) (get_other tables m n new ne)
      ∙ sym (ap (λ b. cond (b && same_text text k) now (resource_holders bytes anchors tables (Segment n k))) no))
      (cases_eq n m)
      ∙ sym (ap (λ r. if same_resource r (Segment n k) then now else resource_holders bytes anchors tables
      (Segment n k)) is)

  pub put_segment : (anchors : BTreeMap (ℕ × ℕ) V) (tables : List (BTreeMap K V)) (old new : BTreeMap K V)
      (resource : Resource) (m : ℕ) (text : List ℕ) (key : K) (value : V)
      → resource ≡ Segment m text → bytes key ≡ text → m < length tables → old ≡ slice_index_or tables m old
      → new.entries ≡ insert_entry (λ a b. slice_cmp nat_cmp (bytes a) (bytes b)) old.entries key value
      → (other : Resource) → resource_holders bytes anchors (slice_set tables m new) other ≡
      (if same_resource resource other then Some value else resource_holders bytes anchors tables other)
  put_segment anchors tables old new resource m text key value is spelled h was entries =
      put_table anchors tables old new resource m text (Some value) is h was
      (λ k. ap (λ es. lookup (λ v. is_eq (slice_cmp nat_cmp k (bytes v))) es) entries
      ∙ lookup_put old.entries key value k
      ∙ ap (λ t. cond (same_text t k) (Some value) (lookup (λ v. is_eq (slice_cmp nat_cmp k (bytes v))) old.entries))
      spelled)

  -- where a database has no table, nothing is found
  no_table : (tables : List (BTreeMap K V)) (m : ℕ) (k : List ℕ) → length tables ≤ m
      → key_holders bytes k (slice_get tables m) ≡ None
  no_table [] m k h = refl
  no_table (t ∷ ts) zero k h = absurd (omega (arith, h))
  no_table (t ∷ ts) (suc m) k h = no_table ts m k (omega (arith, h))

  pub none_there : (anchors : BTreeMap (ℕ × ℕ) V) (tables : List (BTreeMap K V)) (resource : Resource) (m : ℕ)
      (text : List ℕ) → resource ≡ Segment m text → length tables ≤ m
      → (other : Resource) → resource_holders bytes anchors tables other ≡
      (if same_resource resource other then None else resource_holders bytes anchors tables other)
  none_there anchors tables resource m text is h (Anchor e b) =
      sym (ap (λ r. if same_resource r (Anchor e b) then None else resource_holders bytes anchors tables (Anchor e b))
      is)
  none_there anchors tables resource m text is h (Segment n k) =
      by (m == n) refl ∙ sym (ap (λ r. if same_resource r (Segment n k) then None else resource_holders bytes anchors
      tables (Segment n k)) is)
    where
      either : (t : Bool) (o : Option V) → o ≡ None → o ≡ (if t then None else o)
      either true o e = e
      either false o e = refl

      by : (b : Bool) → (m == n) ≡ b → key_holders bytes k (slice_get tables n) ≡
          (if m == n && same_text text k then None else key_holders bytes k (slice_get tables n))
      by true e = let same : m ≡ n = grind arith in
          either (m == n && same_text text k) (key_holders bytes k (slice_get tables n))
          (ap (λ i. key_holders bytes k (slice_get tables i)) (sym same) ∙ no_table tables m k h)
      by false e = ap (λ b. if b && same_text text k then None else key_holders bytes k (slice_get tables n)) (sym e)

  -- ---- an entry is changed, or goes

  lookup_apart : (es : List (K × V)) (key k : List ℕ) → same_text key k ≡ false → (w : V)
      → lookup (λ v. is_eq (slice_cmp nat_cmp k (bytes v)))
      (set_value (λ v. is_eq (slice_cmp nat_cmp key (bytes v))) es w) ≡ lookup
      (λ v. is_eq (slice_cmp nat_cmp k (bytes v))) es
  lookup_apart [] key k apart w = refl
  lookup_apart (e ∷ es) key k apart w = by (is_eq (slice_cmp nat_cmp key (bytes e.0))) refl
      (lookup_apart es key k apart w)
    where
      by : (b : Bool) → is_eq (slice_cmp nat_cmp key (bytes e.0)) ≡ b
          → lookup (λ v. is_eq (slice_cmp nat_cmp k (bytes v)))
          (set_value (λ v. is_eq (slice_cmp nat_cmp key (bytes v))) es w) ≡ lookup
          (λ v. is_eq (slice_cmp nat_cmp k (bytes v))) es
          → lookup (λ v. is_eq (slice_cmp nat_cmp k (bytes v)))
          (cond b ((e.0, w) ∷ es) (e ∷ set_value (λ v. is_eq (slice_cmp nat_cmp key (bytes v))) es w)) ≡ lookup
          (λ v. is_eq (slice_cmp nat_cmp k (bytes v))) (e ∷ es)
      by true is rest = let no = elsewhere key k (bytes e.0) apart is in
          ap (λ b. cond b (Some w) (lookup (λ v. is_eq (slice_cmp nat_cmp k (bytes v))) es)) no ∙ sym
          (ap (λ b. cond b (Some e.1) (lookup (λ v. is_eq (slice_cmp nat_cmp k (bytes v))) es)) no)
      by false is rest = ap (cond (is_eq (slice_cmp nat_cmp k (bytes e.0))) (Some e.1)) rest

  lookup_less : (es : List (K × V)) (key k : List ℕ) → same_text key k ≡ false
      → lookup (λ v. is_eq (slice_cmp nat_cmp k (bytes v)))
      (remove_entry (λ v. is_eq (slice_cmp nat_cmp key (bytes v))) es) ≡ lookup
      (λ v. is_eq (slice_cmp nat_cmp k (bytes v))) es
  lookup_less [] key k apart = refl
  lookup_less (e ∷ es) key k apart = by (is_eq (slice_cmp nat_cmp key (bytes e.0))) refl (lookup_less es key k apart)
    where
      by : (b : Bool) → is_eq (slice_cmp nat_cmp key (bytes e.0)) ≡ b
          → lookup (λ v. is_eq (slice_cmp nat_cmp k (bytes v)))
          (remove_entry (λ v. is_eq (slice_cmp nat_cmp key (bytes v))) es) ≡ lookup
          (λ v. is_eq (slice_cmp nat_cmp k (bytes v))) es
          → lookup (λ v. is_eq (slice_cmp nat_cmp k (bytes v)))
          (cond b es (e ∷ remove_entry (λ v. is_eq (slice_cmp nat_cmp key (bytes v))) es)) ≡ lookup
          (λ v. is_eq (slice_cmp nat_cmp k (bytes v))) (e ∷ es)
      by true is rest = sym (ap (λ b. cond b (Some e.1) (lookup (λ v. is_eq (slice_cmp nat_cmp k (bytes v))) es))
          (elsewhere key k (bytes e.0) apart is))
      by false is rest = ap (cond (is_eq (slice_cmp nat_cmp k (bytes e.0))) (Some e.1)) rest

  -- each key of a table in which one has that now
  changed : (key : List ℕ) (old new : BTreeMap K V) (now : Option V) → at_key bytes key new ≡ now
      → ((k : List ℕ) → same_text key k ≡ false → at_key bytes k new ≡ at_key bytes k old)
      → (k : List ℕ) → at_key bytes k new ≡ (if same_text key k then now else at_key bytes k old)
  changed key old new now here others k = by (same_text key k) refl
    where
      by : (b : Bool) → same_text key k ≡ b → at_key bytes k new ≡ (if b then now else at_key bytes k old)
      by true e = ap (λ t. at_key bytes t new) (sym (same_text_is key k e)) ∙ here
      by false e = others k e

  pub set_there : (key : List ℕ) (old new : BTreeMap K V) (value : V) → at_key bytes key new ≡ Some value
      → new.entries ≡ set_value (λ v. is_eq (slice_cmp nat_cmp key (bytes v))) old.entries value
      → (k : List ℕ) → at_key bytes k new ≡ (if same_text key k then Some value else at_key bytes k old)
  set_there key old new value here entries = changed key old new (Some value) here
      (λ k apart. ap (λ es. lookup (λ v. is_eq (slice_cmp nat_cmp k (bytes v))) es) entries ∙ lookup_apart old.entries
      key k apart value)

  pub taken_out : (key : List ℕ) (old new : BTreeMap K V) → at_key bytes key new ≡ None
      → new.entries ≡ remove_entry (λ v. is_eq (slice_cmp nat_cmp key (bytes v))) old.entries
      → (k : List ℕ) → at_key bytes k new ≡ (if same_text key k then None else at_key bytes k old)
  taken_out key old new here entries = changed key old new None here
      (λ k apart. ap (λ es. lookup (λ v. is_eq (slice_cmp nat_cmp k (bytes v))) es) entries ∙ lookup_less old.entries
      key k apart)
