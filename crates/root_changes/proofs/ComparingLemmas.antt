-- What is told of two lists, item by item.
use Rattle.std.proofs.Common.{◌≡◌, ◌≢◌, ◌↔◌, ◌⊎◌, inl, inr, ℕ, zero, suc, ◌+◌, ◌<◌, ◌≤◌, List, [], ◌∷◌, length, slice_get, get_or, Some, refl, sym, ap, subst, ◌∙◌, arith}
use Rattle.std.proofs.lemmas.Option.{slice_get_past, slice_get_read, slice_get_within}
use Rattle.std.proofs.lemmas.Bool.{cases_lt}
use Rattle.fp_model.specs.declared.database.Node.{Node, out-Node, roll-Node}
use Rattle.fp_model.specs.declared.database.Node.TheViews.{roll-out-Node}
use Rattle.fp_model.specs.declared.database.Root.{Root}
use Rattle.root_changes.specs.declared.differing.Difference.{Difference}
use Rattle.root_changes.specs.declared.differing.Difference.TheVariants.{Nowhere, Itself, At, More}
use Rattle.root_changes.specs.Differing.{DifferAt, DifferIn, NodesDiffer, own, lower, RowDiffers, RootDiffers, own_root, lower_root, HaveSameOwn}
use Rattle.root_changes.specs.Comparing.{TellsPlace, TellsBelow}
use Rattle.root_changes.specs.inside.Comparing.{Tells, DifferSoFar, TellsSoFar, joined}
use Rattle.plain_laws.proofs.Numbers.{same_or_other}

-- ---- two lists that differ at one place

pub same_lists : {A : Type 0} (xs ys : List A) → ((j : ℕ) → slice_get xs j ≡ slice_get ys j) → xs ≡ ys
same_lists [] [] f = refl
same_lists [] (y ∷ ys) f = absurd (let h = f 0 in cc)
same_lists (x ∷ xs) [] f = absurd (let h = f 0 in cc)
same_lists (x ∷ xs) (y ∷ ys) f =
    let first : x ≡ y = (let h = f 0 in cc) in
    let rest : xs ≡ ys = same_lists xs ys (λ j. f (suc j)) in
    cc

pub shifted : {A : Type 0} {a b x y : A} {xs ys : List A} {k : ℕ} → DifferAt (a ∷ xs) (b ∷ ys) (suc k) x y
    → DifferAt xs ys k x y
shifted d = record {
  first = d.first;
  second = d.second;
  elsewhere = λ j n. d.elsewhere (suc j) (λ e. n (omega (arith, e)));
}

pub front_same : {A : Type 0} {a b x y : A} {xs ys : List A} {k : ℕ} → DifferAt (a ∷ xs) (b ∷ ys) (suc k) x y → a ≡ b
front_same {k = k} d =
    let n : 0 ≢ suc k = λ e. absurd (omega (arith, e)) in
    let h = d.elsewhere 0 n in
    cc

pub rest_same : {A : Type 0} {a b x y : A} {xs ys : List A} → DifferAt (a ∷ xs) (b ∷ ys) 0 x y → xs ≡ ys
rest_same {xs = xs} {ys = ys} d = same_lists xs ys (λ j. d.elsewhere (suc j) (λ e. absurd (omega (arith, e))))

pub front_first : {A : Type 0} {a b x y : A} {xs ys : List A} → DifferAt (a ∷ xs) (b ∷ ys) 0 x y → a ≡ x
front_first d = let h = d.first in cc

pub front_second : {A : Type 0} {a b x y : A} {xs ys : List A} → DifferAt (a ∷ xs) (b ∷ ys) 0 x y → b ≡ y
front_second d = let h = d.second in cc

pub same_lengths : {A : Type 0} (xs ys : List A) (k : ℕ) (x y : A) → DifferAt xs ys k x y → length xs ≡ length ys
same_lengths [] ys k x y d = absurd (let h = d.first in cc)
same_lengths (a ∷ xs) [] k x y d = absurd (let h = d.second in cc)
same_lengths (a ∷ xs) (b ∷ ys) zero x y d = ap (λ n. suc n) (ap length (rest_same d))
same_lengths (a ∷ xs) (b ∷ ys) (suc k) x y d = ap (λ n. suc n) (same_lengths xs ys k x y (shifted d))

-- where they are the same list, they have the same there
pub same_there : {A : Type 0} {xs ys : List A} {k : ℕ} {x y : A} → DifferAt xs ys k x y → xs ≡ ys → x ≡ y
same_there {xs = xs} {ys = ys} {k = k} {x = x} {y = y} d e =
    let h : slice_get xs k ≡ slice_get ys k = ap (λ (l : List _). slice_get l k) e in
    let p = d.first in
    let q = d.second in
    cc

-- a place at which they have two things that aren't the same is the one
pub one_place : {A : Type 0} {xs ys : List A} {k j : ℕ} {x y a b : A} → DifferAt xs ys k x y → slice_get xs j ≡ Some a
    → slice_get ys j ≡ Some b → a ≢ b → j ≡ k
one_place {k = k} {j = j} d p q n = elim (same_or_other j k) as (λ _. j ≡ k) [
  | inl e ↦ e
  | inr m ↦ absurd (n (let h = d.elsewhere j m in cc))
]

-- ---- so far

pub none_so_far : {A : Type 0} (Differ : A → A → Type 0) (xs ys : List A) → TellsSoFar Differ xs ys 0 Nowhere
none_so_far Differ xs ys = record {
  nowhere = λ e j b. absurd (omega (arith, b));
  itself = λ e. (let h = e in cc);
  place = λ k e. absurd (let h = e in cc);
  more = λ e. absurd (let h = e in cc);
}

pub below_or : (j n : ℕ) → j < suc n → (j < n) ⊎ (j ≡ n)
below_or j n b = elim (same_or_other j n) as (λ _. (j < n) ⊎ (j ≡ n)) [ inl e ↦ inr e | inr m ↦ inl (omega (arith, b, m)) ]

module _ {A : Type 0} (Differ : A → A → Type 0) (apart : (x y : A) → Differ x y → x ≢ y) (xs ys : List A) (n : ℕ)
    (a b : A) (first : slice_get xs n ≡ Some a) (second : slice_get ys n ≡ Some b) where
  -- the same at the next place
  still : (d : Difference) → a ≡ b → TellsSoFar Differ xs ys n d → TellsSoFar Differ xs ys (suc n) d
  still d e t =
      let here : slice_get xs n ≡ slice_get ys n = cc in
      record {
        nowhere = λ f j c. elim (below_or j n c) as (λ _. slice_get xs j ≡ slice_get ys j) [
          | inl l ↦ t.nowhere f j l
          | inr m ↦ subst (λ i. slice_get xs i ≡ slice_get ys i) (sym m) here
        ];
        itself = t.itself;
        place = λ k f. (let p = t.place k f in record {
          within = omega (arith, p.within);
          x = p.x;
          y = p.y;
          first = p.first;
          second = p.second;
          differ = p.differ;
          elsewhere = λ j c m. elim (below_or j n c) as (λ _. slice_get xs j ≡ slice_get ys j) [
            | inl l ↦ p.elsewhere j l m
            | inr o ↦ subst (λ i. slice_get xs i ≡ slice_get ys i) (sym o) here
          ];
        });
        more = t.more;
      }

  -- no list where they differ there
  other_lists : a ≢ b → xs ≢ ys
  other_lists m e = m (let h : slice_get xs n ≡ slice_get ys n = ap (λ (l : List A). slice_get l n) e in cc)

  told_more : (d : Difference) → d ≡ More → (xs ≢ ys) × ((k : ℕ) → ¬ DifferIn Differ xs ys k)
      → TellsSoFar Differ xs ys (suc n) d
  told_more d is m = record {
    nowhere = λ e j c. absurd (let h = e in cc);
    itself = λ e. (let h = e in cc);
    place = λ k e. absurd (let h = e in cc);
    more = λ e. m;
  }

  -- the first that differ
  begun : Differ a b → TellsSoFar Differ xs ys n Nowhere → TellsSoFar Differ xs ys (suc n) (At n)
  begun differ t = record {
    nowhere = λ e j c. absurd (let h = e in cc);
    itself = λ e. (let h = e in cc);
    place = λ k e. (let same : n ≡ k = cc in subst (λ i. DifferSoFar Differ xs ys (suc n) i) same (record {
      within = omega arith;
      x = a;
      y = b;
      first = first;
      second = second;
      differ = differ;
      elsewhere = λ j c m. elim (below_or j n c) as (λ _. slice_get xs j ≡ slice_get ys j) [
        | inl l ↦ t.nowhere refl j l
        | inr o ↦ absurd (m o)
      ];
    }));
    more = λ e. absurd (let h = e in cc);
  }

  -- others differed before
  again : (j : ℕ) → Differ a b → DifferSoFar Differ xs ys n j → (k : ℕ) → ¬ DifferIn Differ xs ys k
  again j differ p k d =
      let here : n ≡ k = one_place d.at first second (apart a b differ) in
      let there : j ≡ k = one_place d.at p.first p.second (apart p.x p.y p.differ) in
      absurd (omega (arith, here, there, p.within))

  -- they differ otherwise
  otherwise : a ≢ b → ¬ Differ a b → (k : ℕ) → ¬ DifferIn Differ xs ys k
  otherwise m o k d =
      let here : n ≡ k = one_place d.at first second m in
      let p : slice_get xs n ≡ Some d.x = subst (λ i. slice_get xs i ≡ Some d.x) (sym here) d.at.first in
      let q : slice_get ys n ≡ Some d.y = subst (λ i. slice_get ys i ≡ Some d.y) (sym here) d.at.second in
      let x : d.x ≡ a = cc in
      let y : d.y ≡ b = cc in
      o (subst (λ u. Differ a u) y (subst (λ u. Differ u d.y) x d.differ))

  one_differs : (d : Difference) → Differ a b → TellsSoFar Differ xs ys n d
      → TellsSoFar Differ xs ys (suc n) (joined d n Itself)
  one_differs Nowhere differ t = begun differ t
  one_differs Itself differ t = absurd (t.itself refl)
  one_differs (At j) differ t = told_more More refl
      (other_lists (apart a b differ), again j differ (t.place j refl))
  one_differs More differ t = told_more More refl (t.more refl)

  -- the things at the next place told
  pub told_on : (d item : Difference) → TellsSoFar Differ xs ys n d → Tells Differ a b item
      → TellsSoFar Differ xs ys (suc n) (joined d n item)
  told_on d Nowhere t i = still d (i.nowhere refl) t
  told_on d Itself t i = one_differs d (i.itself refl) t
  told_on d (At j) t i = one_differs d (i.below j refl) t
  told_on d More t i = told_more More refl (other_lists (i.more refl).0, otherwise (i.more refl).0 (i.more refl).1)

pub told_next : {A : Type 0} (Differ : A → A → Type 0) (apart : (x y : A) → Differ x y → x ≢ y) (xs ys : List A)
    (n : ℕ) (a b : A) (d item next : Difference) → length xs ≡ length ys → n < length xs → a ≡ get_or xs n a
    → b ≡ get_or ys n b → next ≡ joined d n item → TellsSoFar Differ xs ys n d → Tells Differ a b item
    → TellsSoFar Differ xs ys (n + 1) next
told_next Differ apart xs ys n a b d item next l w p q e t i =
    let first : slice_get xs n ≡ Some a = slice_get_read xs (length xs) n a refl w p in
    let within : n < length ys = omega (arith, l, w) in
    let second : slice_get ys n ≡ Some b = slice_get_read ys (length ys) n b refl within q in
    let more : suc n ≡ n + 1 = omega arith in
    subst (λ m. TellsSoFar Differ xs ys m next) more
    (subst (λ f. TellsSoFar Differ xs ys (suc n) f) (sym e)
    (told_on Differ apart xs ys n a b first second d item t i))

-- ---- of whole lists

past_same : {A : Type 0} (xs ys : List A) (n : ℕ) → length xs ≤ n → length ys ≤ n → (j : ℕ)
    → (j < n → slice_get xs j ≡ slice_get ys j) → slice_get xs j ≡ slice_get ys j
past_same xs ys n l m j f = elim (cases_lt j n) as (λ _. slice_get xs j ≡ slice_get ys j) [
  | inl b ↦ f b
  | inr b ↦ slice_get_past xs j (omega (arith, l, b)) ∙ sym (slice_get_past ys j (omega (arith, m, b)))
]

pub all_same : {A : Type 0} (xs ys : List A) (n : ℕ) → length xs ≤ n → length ys ≤ n
    → ((j : ℕ) → j < n → slice_get xs j ≡ slice_get ys j) → xs ≡ ys
all_same xs ys n l m f = same_lists xs ys (λ j. past_same xs ys n l m j (f j))

pub all_told : {A : Type 0} (Differ : A → A → Type 0) (xs ys : List A) (n : ℕ) (d : Difference) → length xs ≤ n
    → length ys ≤ n → TellsSoFar Differ xs ys n d → TellsPlace Differ xs ys d
all_told Differ xs ys n d l m t =
    let each : (j : ℕ) → (j < n → slice_get xs j ≡ slice_get ys j) → slice_get xs j ≡ slice_get ys j =
    past_same xs ys n l m in
    record {
      nowhere = λ e. same_lists xs ys (λ j. each j (t.nowhere e j));
      itself = t.itself;
      place = λ k e. (let p = t.place k e in record {
        x = p.x;
        y = p.y;
        at = record {
          first = p.first;
          second = p.second;
          elsewhere = λ j m. each j (λ b. p.elsewhere j b m);
        };
        differ = p.differ;
      });
      more = t.more;
    }

pub other_lengths : {A : Type 0} (Differ : A → A → Type 0) (xs ys : List A) → length xs ≢ length ys
    → TellsPlace Differ xs ys More
other_lengths Differ xs ys n = record {
  nowhere = λ e. absurd (let h = e in cc);
  itself = λ e. (let h = e in cc);
  place = λ k e. absurd (let h = e in cc);
  more = λ e. ((λ f. n (ap length f)), λ k d. n (same_lengths xs ys k d.x d.y d.at));
}

pub place_apart : {A : Type 0} (Differ : A → A → Type 0) (apart : (x y : A) → Differ x y → x ≢ y) (xs ys : List A)
    (d : Difference) → TellsPlace Differ xs ys d → d ≢ Nowhere → xs ≢ ys
place_apart Differ apart xs ys Nowhere t n = absurd (n refl)
place_apart Differ apart xs ys Itself t n = absurd (t.itself refl)
place_apart Differ apart xs ys (At k) t n =
    let d = t.place k refl in
    λ e. apart d.x d.y d.differ (same_there d.at e)
place_apart Differ apart xs ys More t n = (t.more refl).0

-- ---- what differs isn't the same

pub nodes_apart : (x y : Node) → NodesDiffer x y → x ≢ y
nodes_apart x y (own n same) e = n (ap (λ z. (out-Node z).bytes) e)
nodes_apart x y (lower {row = row} {other = other} {n = n} {m = m} same above here differ) e =
    let rows : row ≡ other = same_there above (ap (λ z. (out-Node z).children) e) in
    nodes_apart n m differ (same_there here rows)

pub rows_apart : (row other : List Node) → RowDiffers row other → row ≢ other
rows_apart row other r e = nodes_apart r.differ.x r.differ.y r.differ.differ (same_there r.differ.at e)

pub roots_apart : (x y : Root) → RootDiffers x y → x ≢ y
roots_apart x y (own_root n same) e = n (ap (λ z. z.bytes) e, ap (λ z. z.seqs) e)
roots_apart x y (lower_root {row = row} {other = other} {n = n} {m = m} same above here differ) e =
    let rows : row ≡ other = same_there above (ap (λ (z : Root). z.children) e) in
    nodes_apart n m differ (same_there here rows)

-- ---- what is told of segments

pub same_node : (x y : Node) → (out-Node x).bytes ≡ (out-Node y).bytes
    → (out-Node x).children ≡ (out-Node y).children → x ≡ y
same_node x y b c =
    sym (roll-out-Node x)
    ∙ ap (λ (u : List ℕ). roll-Node (record { bytes = u; children = (out-Node x).children })) b
    ∙ ap (λ (u : List (List Node)). roll-Node (record { bytes = (out-Node y).bytes; children = u })) c
    ∙ roll-out-Node y

same_root : (x y : Root) → HaveSameOwn x y → x.children ≡ y.children → x ≡ y
same_root x y o c =
    let f : x ≡ record x { children = y.children } = ap (λ (u : List (List Node)). record x { children = u }) c in
    let P : List ℕ → Root = λ u. record x { bytes = u; children = y.children } in
    let g : P x.bytes ≡ P y.bytes = ap P o.0 in
    f ∙ g ∙ ap (λ u. record y { seqs = u }) o.1

pub node_told : (x y : Node) (d : Difference)
    → TellsBelow ((out-Node x).bytes ≡ (out-Node y).bytes) (out-Node x).children (out-Node y).children d
    → Tells NodesDiffer x y d
node_told x y d t = record {
  nowhere = λ e. same_node x y (t.nowhere e).0 (t.nowhere e).1;
  itself = λ e. own (t.itself e).0 (t.itself e).1;
  below = λ j e. (let b = t.below j e in
      lower b.0 b.1.at b.1.differ.differ.at b.1.differ.differ.differ);
  more = λ e. (
    (λ s. (t.same_own e (ap (λ z. (out-Node z).bytes) s)).0 (ap (λ z. (out-Node z).children) s)),
    λ n. node_otherwise x y d e t n,
  );
}
  where
    node_otherwise : (x y : Node) (d : Difference) → d ≡ More
        → TellsBelow ((out-Node x).bytes ≡ (out-Node y).bytes) (out-Node x).children (out-Node y).children d
        → NodesDiffer x y → ⊥
    node_otherwise x y d e t (own n same) = t.other_own e n same
    node_otherwise x y d e t (lower {j = j} {k = k} {row = row} {other = other} {n = n} {m = m} same above here differ)
        = (t.same_own e same).1 j (record {
          x = row;
          y = other;
          at = above;
          differ = record { number = k; differ = record { x = n; y = m; at = here; differ = differ } };
        })

pub row_told : (row other : List Node) (d : Difference) → TellsPlace NodesDiffer row other d
    → Tells RowDiffers row other d
row_told row other d t = record {
  nowhere = t.nowhere;
  itself = λ e. absurd (t.itself e);
  below = λ k e. record { number = k; differ = t.place k e };
  more = λ e. ((t.more e).0, λ r. (t.more e).1 r.number r.differ);
}

pub root_told : (x y : Root) (d : Difference) → TellsBelow (HaveSameOwn x y) x.children y.children d
    → Tells RootDiffers x y d
root_told x y d t = record {
  nowhere = λ e. same_root x y (t.nowhere e).0 (t.nowhere e).1;
  itself = λ e. own_root (t.itself e).0 (t.itself e).1;
  below = λ j e. (let b = t.below j e in
      lower_root b.0 b.1.at b.1.differ.differ.at b.1.differ.differ.differ);
  more = λ e. (
    (λ s. (t.same_own e (ap (λ z. z.bytes) s, ap (λ z. z.seqs) s)).0 (ap (λ (z : Root). z.children) s)),
    λ n. root_otherwise x y d e t n,
  );
}
  where
    root_otherwise : (x y : Root) (d : Difference) → d ≡ More → TellsBelow (HaveSameOwn x y) x.children y.children d
        → RootDiffers x y → ⊥
    root_otherwise x y d e t (own_root n same) = t.other_own e n same
    root_otherwise x y d e t (lower_root {j = j} {k = k} {row = row} {other = other} {n = n} {m = m} same above here
        differ) = (t.same_own e same).1 j (record {
          x = row;
          y = other;
          at = above;
          differ = record { number = k; differ = record { x = n; y = m; at = here; differ = differ } };
        })

-- ---- with the segments' own

pub same_below : (Own : Type 0) (rows others : List (List Node)) (d : Difference) → Own
    → TellsPlace RowDiffers rows others d → TellsBelow Own rows others d
same_below Own rows others d o t = record {
  nowhere = λ e. (o, t.nowhere e);
  itself = λ e. absurd (t.itself e);
  below = λ j e. (o, t.place j e);
  same_own = λ e p. t.more e;
  other_own = λ e n. absurd (n o);
}

pub itself_below : (Own : Type 0) (rows others : List (List Node)) → ¬ Own → rows ≡ others
    → TellsBelow Own rows others Itself
itself_below Own rows others n s = record {
  nowhere = λ e. absurd (let h = e in cc);
  itself = λ e. (n, s);
  below = λ j e. absurd (let h = e in cc);
  same_own = λ e o. absurd (n o);
  other_own = λ e m. absurd (let h = e in cc);
}

pub more_below : (Own : Type 0) (rows others : List (List Node)) → ¬ Own → rows ≢ others
    → TellsBelow Own rows others More
more_below Own rows others n s = record {
  nowhere = λ e. absurd (let h = e in cc);
  itself = λ e. absurd (let h = e in cc);
  below = λ j e. absurd (let h = e in cc);
  same_own = λ e o. absurd (n o);
  other_own = λ e m. s;
}

pub own_is : {P Q : Type 0} {rows others : List (List Node)} {d : Difference} → P ↔ Q → TellsBelow P rows others d
    → TellsBelow Q rows others d
own_is f t = record {
  nowhere = λ e. (f.0 (t.nowhere e).0, (t.nowhere e).1);
  itself = λ e. ((λ q. (t.itself e).0 (f.1 q)), (t.itself e).1);
  below = λ j e. (f.0 (t.below j e).0, (t.below j e).1);
  same_own = λ e q. t.same_own e (f.1 q);
  other_own = λ e n. t.other_own e (λ p. n (f.0 p));
}

pub own_below : (Own : Type 0) (rows others as_rows as_others : List (List Node)) {d : Difference} → as_rows ≡ rows
    → as_others ≡ others → TellsBelow Own as_rows as_others d → TellsBelow Own rows others d
own_below Own rows others as_rows as_others {d = d} e f t =
    subst (λ r. TellsBelow Own r others d) e (subst (λ o. TellsBelow Own as_rows o d) f t)

-- ---- what a place of a difference is

pub inside : {A : Type 0} (Differ : A → A → Type 0) (xs ys : List A) (k : ℕ) → DifferIn Differ xs ys k
    → (k < length xs) × (k < length ys)
inside Differ xs ys k d = (slice_get_within xs k d.x d.at.first, slice_get_within ys k d.y d.at.second)

-- lists that differ in one thing are told to, and where
pub differ_told : {A : Type 0} (Differ : A → A → Type 0) (apart : (x y : A) → Differ x y → x ≢ y) (xs ys : List A)
    (k : ℕ) (d : Difference) → TellsPlace Differ xs ys d → DifferIn Differ xs ys k → ((j : ℕ) → d ≢ At j) → ⊥
differ_told Differ apart xs ys k Nowhere t d n = apart d.x d.y d.differ (same_there d.at (t.nowhere refl))
differ_told Differ apart xs ys k Itself t d n = t.itself refl
differ_told Differ apart xs ys k (At j) t d n = n j refl
differ_told Differ apart xs ys k More t d n = (t.more refl).1 k d

-- so are two things that differ
pub thing_told : {A : Type 0} (Differ : A → A → Type 0) (apart : (x y : A) → Differ x y → x ≢ y) (x y : A)
    (d : Difference) → Tells Differ x y d → Differ x y → d ≢ Itself → ((j : ℕ) → d ≢ At j) → ⊥
thing_told Differ apart x y Nowhere t d m n = apart x y d (t.nowhere refl)
thing_told Differ apart x y Itself t d m n = m refl
thing_told Differ apart x y (At j) t d m n = n j refl
thing_told Differ apart x y More t d m n = (t.more refl).1 d

-- the things at the place, as they are read
pub read_there : {A : Type 0} (Differ : A → A → Type 0) (xs ys : List A) (k : ℕ) (x y : A) → DifferIn Differ xs ys k
    → x ≡ get_or xs k x → y ≡ get_or ys k y → DifferAt xs ys k x y × Differ x y
read_there Differ xs ys k x y d p q =
    let b = inside Differ xs ys k d in
    let first : slice_get xs k ≡ Some x = slice_get_read xs (length xs) k x refl b.0 p in
    let second : slice_get ys k ≡ Some y = slice_get_read ys (length ys) k y refl b.1 q in
    let f = d.at.first in
    let s = d.at.second in
    let e : d.x ≡ x = cc in
    let g : d.y ≡ y = cc in (
      record { first = first; second = second; elsewhere = d.at.elsewhere },
      subst (λ u. Differ x u) g (subst (λ u. Differ u d.y) e d.differ),
    )
