-- Lists of which one has one segment more.
use Rattle.std.proofs.Common.{◌≡◌, ◌≢◌, ◌⊎◌, inl, inr, ℕ, zero, suc, ◌+◌, ◌-◌, ◌<◌, ◌≤◌, List, [], ◌∷◌, ◌++◌, length, take, drop, slice_get, get_or, Some, refl, sym, ap, subst, ◌∙◌, arith}
use Rattle.std.proofs.lemmas.List.{take-append-drop, length-drop, take_all}
use Rattle.std.proofs.lemmas.Option.{slice_get_past, slice_get_read, slice_get_within}
use Rattle.fp_model.specs.declared.database.Node.{Node, out-Node}
use Rattle.fp_model.specs.declared.database.Root.{Root}
use Rattle.root_changes.specs.declared.gaining.Gain.{Gain}
use Rattle.root_changes.specs.declared.gaining.Gain.TheVariants.{New, Within, Not}
use Rattle.root_changes.specs.Differing.{DifferAt, HaveSameOwn}
use Rattle.root_changes.specs.Gaining.{OneMore, AreBare, RowGains, new_segment, lower_segment, RootsGain, new_root, below_root}
use Rattle.root_changes.specs.declared.differing.Difference.{Difference}
use Rattle.root_changes.specs.declared.differing.Difference.TheVariants.{Nowhere, Itself, At, More}
use Rattle.root_changes.specs.inside.Comparing.{Tells}
use Rattle.root_changes.specs.Telling.{HasNew, GainIn, GainWithin, TellsGain, IsOwnNode, node_rows, root_rows, TellsRowGain, TellsRootGain}
use Rattle.root_changes.specs.inside.Telling.{TellsNew, BeginAlike, TellsWithin}
use Rattle.root_changes.proofs.ComparingLemmas.{below_or, all_same, shifted, rest_same, same_lengths, same_there, nodes_apart, roots_apart, rows_apart}
use Rattle.plain_laws.proofs.Places.{get_seam}
use Rattle.plain_laws.proofs.Numbers.{same_or_other}

-- ---- what two lists begin with in common

pub alike_whole : {A : Type 0} (xs ys : List A) (n : ℕ) → BeginAlike xs ys n → n ≡ length xs → n ≡ length ys → xs ≡ ys
alike_whole xs ys n b e f = all_same xs ys n (omega (arith, e)) (omega (arith, f)) b.alike

-- the same lists have all in common
pub alike_same : {A : Type 0} (xs ys : List A) (n : ℕ) → BeginAlike xs ys n → xs ≡ ys → n ≡ length xs
alike_same xs ys n b e = elim (same_or_other n (length xs)) as (λ _. n ≡ length xs) [
  | inl f ↦ f
  | inr m ↦ (let l : n < length xs = omega (arith, b.within, m) in
      absurd (b.no_more l (subst (λ (zs : List _). n < length zs) e l) (ap (λ (zs : List _). slice_get zs n) e)))
]

-- ---- one item more

same_front : {A : Type 0} (k : ℕ) (xs ys : List A) → k ≤ length xs → k ≤ length ys
    → ((j : ℕ) → j < k → slice_get xs j ≡ slice_get ys j) → take k xs ≡ take k ys
same_front zero xs ys l m f = refl
same_front (suc k) [] ys l m f = absurd (omega (arith, l))
same_front (suc k) (x ∷ xs) [] l m f = absurd (omega (arith, m))
same_front (suc k) (x ∷ xs) (y ∷ ys) l m f =
    let first : x ≡ y = (let h = f 0 (omega arith) in cc) in
    let rest : take k xs ≡ take k ys = same_front k xs ys (omega (arith, l)) (omega (arith, m))
    (λ j b. f (suc j) (omega (arith, b))) in
    cc

at_place : {A : Type 0} (k : ℕ) (ys : List A) (y : A) → slice_get ys k ≡ Some y → ys ≡ take k ys ++ y ∷ drop (suc k) ys
at_place k [] y e = absurd (let h = e in cc)
at_place zero (z ∷ ys) y e = (let h : z ≡ y = cc in ap (λ u. u ∷ ys) h)
at_place (suc k) (z ∷ ys) y e = ap (λ us. z ∷ us) (at_place k ys y e)

length_front : {A : Type 0} (k : ℕ) (xs : List A) → k ≤ length xs → length (take k xs) ≡ k
length_front zero xs l = refl
length_front (suc k) [] l = absurd (omega (arith, l))
length_front (suc k) (x ∷ xs) l = ap (λ n. suc n) (length_front k xs (omega (arith, l)))

pub one_more : {A : Type 0} (xs ys : List A) (k : ℕ) (y : A) → BeginAlike xs ys k → slice_get ys k ≡ Some y
    → drop k xs ≡ drop (suc k) ys → OneMore xs ys k y
one_more xs ys k y b e d =
    let t : take k xs ≡ take k ys = same_front k xs ys b.within b.within_other b.alike in
    record {
      front = take k xs;
      back = drop k xs;
      fewer = sym (take-append-drop k xs);
      more = at_place k ys y e ∙ ap (λ us. us ++ y ∷ drop (suc k) ys) (sym t) ∙ ap (λ us. take k xs ++ y ∷ us) (sym d);
      place = length_front k xs b.within;
    }

pub record Placed {A : Type 0} (xs ys : List A) (k : ℕ) (y : A) : Type 0 where
  pub rest : drop k xs ≡ drop (suc k) ys
  pub item : slice_get ys k ≡ Some y

placed : {A : Type 0} (k : ℕ) (front back : List A) (y : A) → k ≤ length (front ++ back)
    → ((j : ℕ) → j < k → slice_get (front ++ back) j ≡ slice_get (front ++ y ∷ back) j)
    → (k < length (front ++ back) → slice_get (front ++ back) k ≢ slice_get (front ++ y ∷ back) k)
    → Placed (front ++ back) (front ++ y ∷ back) k y
placed zero [] back y l f n = record { rest = refl; item = refl }
placed zero (a ∷ front) back y l f n = absurd (n (omega arith) refl)
placed (suc k) [] [] y l f n = absurd (omega (arith, l))
placed (suc k) [] (b ∷ back) y l f n =
    let e : b ≡ y = (let h = f 0 (omega arith) in cc) in
    let p : Placed back (b ∷ back) k b = placed k [] back b (omega (arith, l)) (λ j c. f (suc j) (omega (arith, c)))
    (λ c. n (omega (arith, c))) in
    record { rest = p.rest; item = p.item ∙ ap (λ u. Some u) e }
placed (suc k) (a ∷ front) back y l f n =
    let p : Placed (front ++ back) (front ++ y ∷ back) k y = placed k front back y (omega (arith, l))
    (λ j c. f (suc j) (omega (arith, c))) (λ c. n (omega (arith, c))) in
    record { rest = p.rest; item = p.item }

length_more : {A : Type 0} (front back : List A) (y : A) → length (front ++ y ∷ back) ≡ suc (length (front ++ back))
length_more [] back y = refl
length_more (a ∷ front) back y = ap (λ n. suc n) (length_more front back y)

pub more_lengths : {A : Type 0} (xs ys : List A) (k : ℕ) (y : A) → OneMore xs ys k y → length ys ≡ suc (length xs)
more_lengths xs ys k y m =
    ap length m.more ∙ length_more m.front m.back y ∙ ap (λ (us : List _). suc (length us)) (sym m.fewer)

-- where one item more is found, whatever item it was said to be
pub more_placed : {A : Type 0} (xs ys : List A) (k j : ℕ) (y : A) → OneMore xs ys j y → BeginAlike xs ys k
    → Placed xs ys k y
more_placed {A} xs ys k j y m b =
    let P : List A → List A → Type 0 = λ us vs. BeginAlike us vs k in
    let c : BeginAlike (m.front ++ m.back) (m.front ++ y ∷ m.back) k =
    subst (λ us. P us (m.front ++ y ∷ m.back)) m.fewer (subst (λ vs. P xs vs) m.more b) in
    let p = placed k m.front m.back y c.within c.alike
    (λ l. c.no_more l (omega (arith, l, length_more m.front m.back y))) in
    subst (λ us. Placed us ys k y) (sym m.fewer) (subst (λ vs. Placed (m.front ++ m.back) vs k y) (sym m.more) p)

-- ---- lists that differ at one place

elsewhere : {A : Type 0} (k : ℕ) (xs ys : List A) (x y : A) → ((j : ℕ) → j < k → slice_get xs j ≡ slice_get ys j)
    → slice_get xs k ≡ Some x → slice_get ys k ≡ Some y → drop (suc k) xs ≡ drop (suc k) ys
    → (j : ℕ) → j ≢ k → slice_get xs j ≡ slice_get ys j
elsewhere k [] ys x y f e g d j n = absurd (let h = e in cc)
elsewhere k (a ∷ xs) [] x y f e g d j n = absurd (let h = g in cc)
elsewhere zero (a ∷ xs) (b ∷ ys) x y f e g d zero n = absurd (n refl)
elsewhere zero (a ∷ xs) (b ∷ ys) x y f e g d (suc j) n = ap (λ (us : List _). slice_get us j) d
elsewhere (suc k) (a ∷ xs) (b ∷ ys) x y f e g d zero n = f 0 (omega arith)
elsewhere (suc k) (a ∷ xs) (b ∷ ys) x y f e g d (suc j) n =
    elsewhere k xs ys x y (λ i b. f (suc i) (omega (arith, b))) e g d j (λ h. n (ap (λ i. suc i) h))

pub differ_at : {A : Type 0} (xs ys : List A) (k : ℕ) (x y : A) → BeginAlike xs ys k → slice_get xs k ≡ Some x
    → slice_get ys k ≡ Some y → drop (suc k) xs ≡ drop (suc k) ys → DifferAt xs ys k x y
differ_at xs ys k x y b e g d = record { first = e; second = g; elsewhere = elsewhere k xs ys x y b.alike e g d }

differ_rest : {A : Type 0} (k : ℕ) (xs ys : List A) (x y : A) → DifferAt xs ys k x y → drop (suc k) xs ≡ drop (suc k) ys
differ_rest k [] ys x y d = absurd (let h = d.first in cc)
differ_rest k (a ∷ xs) [] x y d = absurd (let h = d.second in cc)
differ_rest zero (a ∷ xs) (b ∷ ys) x y d = rest_same d
differ_rest (suc k) (a ∷ xs) (b ∷ ys) x y d = differ_rest k xs ys x y (shifted d)

-- where they differ they begin to
pub alike_up_to : {A : Type 0} (xs ys : List A) (k j : ℕ) (x y : A) → DifferAt xs ys j x y → x ≢ y
    → BeginAlike xs ys k → k ≡ j
alike_up_to xs ys k j x y d n b =
    let l : j < length xs = slice_get_within xs j x d.first in
    let m : j < length ys = slice_get_within ys j y d.second in
    elim (same_or_other k j) as (λ _. k ≡ j) [
      | inl e ↦ e
      | inr o ↦ elim (below_or_not j k) as (λ _. k ≡ j) [
        | inl c ↦ absurd (n (let h = b.alike j c in let p = d.first in let q = d.second in cc))
        | inr c ↦ absurd (b.no_more (omega (arith, l, c, o)) (omega (arith, m, c, o)) (d.elsewhere k o))
      ]
    ]
  where
    below_or_not : (j n : ℕ) → (j < n) ⊎ (n ≤ j)
    below_or_not j zero = inr (omega arith)
    below_or_not zero (suc n) = inl (omega arith)
    below_or_not (suc j) (suc n) = elim (below_or_not j n) as (λ _. (suc j < suc n) ⊎ (suc n ≤ suc j)) [
      | inl b ↦ inl (omega (arith, b))
      | inr b ↦ inr (omega (arith, b))
    ]

-- ---- a list that has one segment more isn't the same

pub rows_gained : (row other : List Node) → RowGains row other → row ≢ other
rows_gained row other (new_segment {k = k} {n = n} m bare) e =
    absurd (omega (arith, more_lengths row other k n m, ap length e))
rows_gained row other (lower_segment {lower = lower} {more = more} at own below gains) e =
    rows_gained lower more gains (same_there below (ap (λ z. (out-Node z).children) (same_there at e)))

pub within_apart : (rows others : List (List Node)) (j : ℕ) → GainIn rows others j → rows ≢ others
within_apart rows others j g e = rows_gained g.lower g.more g.gains (same_there g.at e)

-- ---- bare rows

pub bare_next : (rows : List (List Node)) (k : ℕ) (row : List Node) → AreBare (take k rows) → slice_get rows k ≡ Some row
    → row ≡ [] → AreBare (take (suc k) rows)
bare_next [] k row b e n = absurd (let h = e in cc)
bare_next (r ∷ rows) zero row b e n = (let h : r ≡ row = cc in (h ∙ n, tt))
bare_next (r ∷ rows) (suc k) row b e n = (b.0, bare_next rows k row b.1 e n)

pub bare_on : (rows : List (List Node)) (k : ℕ) (row : List Node) → AreBare (take k rows) → k < length rows
    → row ≡ get_or rows k row → row ≡ [] → AreBare (take (k + 1) rows)
bare_on rows k row b l e n =
    let s : suc k ≡ k + 1 = omega arith in
    subst (λ i. AreBare (take i rows)) s (bare_next rows k row b (slice_get_read rows (length rows) k row refl l e) n)

pub bare_at : (rows : List (List Node)) (k : ℕ) (row : List Node) → AreBare rows → slice_get rows k ≡ Some row → row ≡ []
bare_at [] k row b e = absurd (let h = e in cc)
bare_at (r ∷ rows) zero row b e = (let h : r ≡ row = cc in sym h ∙ b.0)
bare_at (r ∷ rows) (suc k) row b e = bare_at rows k row b.1 e

-- ---- what the items at the place tell

-- no gain where the first place is no such one
pub more_not : {A : Type 0} (xs ys : List A) (k m j : ℕ) (y : A) → BeginAlike xs ys k
    → BeginAlike (drop k xs) (drop (k + 1) ys) m → OneMore xs ys j y → k + m ≡ length xs
more_not {A} xs ys k m j y b c o =
    let p = more_placed xs ys k j y o b in
    let s : suc k ≡ k + 1 = omega arith in
    let d : drop k xs ≡ drop (k + 1) ys = p.rest ∙ ap (λ i. drop i ys) s in
    let e = alike_same (drop k xs) (drop (k + 1) ys) m c d in
    omega (arith, e, length-drop k xs, b.within)

pub differ_not : {A : Type 0} (xs ys : List A) (k m j : ℕ) (x y : A) → BeginAlike xs ys k
    → BeginAlike (drop (k + 1) xs) (drop (k + 1) ys) m → DifferAt xs ys j x y → x ≢ y → (k ≡ j) × (k + 1 + m ≡ length xs)
differ_not {A} xs ys k m j x y b c d n =
    let e : k ≡ j = alike_up_to xs ys k j x y d n b in
    let l : j < length xs = slice_get_within xs j x d.first in
    let s : suc k ≡ k + 1 = omega arith in
    let r : drop (suc k) xs ≡ drop (suc k) ys =
    subst (λ i. drop (suc i) xs ≡ drop (suc i) ys) (sym e) (differ_rest j xs ys x y d) in
    let f = alike_same (drop (k + 1) xs) (drop (k + 1) ys) m c (subst (λ i. drop i xs ≡ drop i ys) s r) in
    (e, omega (arith, f, length-drop (k + 1) xs, l, e))

-- ---- two lists gone through side by side

-- things that are told to differ aren't the same
pub tells_apart : {A : Type 0} (Differ : A → A → Type 0) (apart : (x y : A) → Differ x y → x ≢ y) (x y : A)
    (d : Difference) → Tells Differ x y d → d ≢ Nowhere → x ≢ y
tells_apart Differ apart x y Nowhere t n = absurd (n refl)
tells_apart Differ apart x y Itself t n = apart x y (t.itself refl)
tells_apart Differ apart x y (At k) t n = apart x y (t.below k refl)
tells_apart Differ apart x y More t n = (t.more refl).0

pub alike_on : {A : Type 0} (xs ys : List A) (k : ℕ) (a b : A) → k < length xs → k < length ys → a ≡ get_or xs k a
    → b ≡ get_or ys k b → a ≡ b → ((j : ℕ) → j < k → slice_get xs j ≡ slice_get ys j)
    → (j : ℕ) → j < k + 1 → slice_get xs j ≡ slice_get ys j
alike_on xs ys k a b l m e g h f j c = elim (below_or j k (omega (arith, c))) as (λ _. slice_get xs j ≡ slice_get ys j) [
  | inl d ↦ f j d
  | inr d ↦ (let p : slice_get xs k ≡ Some a = slice_get_read xs (length xs) k a refl l e in
      let q : slice_get ys k ≡ Some b = slice_get_read ys (length ys) k b refl m g in
      subst (λ i. slice_get xs i ≡ slice_get ys i) (sym d) (p ∙ ap (λ u. Some u) h ∙ sym q))
]

pub alike_ends : {A : Type 0} (xs ys : List A) (k : ℕ) (a b : A) → k < length xs → k < length ys → a ≡ get_or xs k a
    → b ≡ get_or ys k b → a ≢ b → ((j : ℕ) → j < k → slice_get xs j ≡ slice_get ys j) → BeginAlike xs ys k
alike_ends xs ys k a b l m e g n f = record {
  within = omega (arith, l);
  within_other = omega (arith, m);
  alike = f;
  no_more = λ c d h. (let p : slice_get xs k ≡ Some a = slice_get_read xs (length xs) k a refl l e in
      let q : slice_get ys k ≡ Some b = slice_get_read ys (length ys) k b refl m g in
      n (cc));
}

-- ---- what is told in the end

module _ {A : Type 0} (Own : A → A → Type 0) (rows_of : A → List (List Node)) (Gains : List A → List A → Type 0)
    (xs ys : List A)
    (so : Gains xs ys → ((k : ℕ) × HasNew rows_of xs ys k) ⊎ ((k : ℕ) × (j : ℕ) × GainWithin Own rows_of xs ys k j)) where
  tell_not : ¬ Gains xs ys → TellsGain Own rows_of Gains xs ys Not
  tell_not n = record {
    new = λ k e. absurd (let h = e in cc);
    within = λ k j e. absurd (let h = e in cc);
    none = λ e. n;
  }

  within_lengths : (k j : ℕ) → GainWithin Own rows_of xs ys k j → length xs ≡ length ys
  within_lengths k j g = same_lengths xs ys k g.x g.y g.at

  within_not_same : (k j : ℕ) (g : GainWithin Own rows_of xs ys k j) → g.x ≢ g.y
  within_not_same k j g e = within_apart (rows_of g.x) (rows_of g.y) j g.below (ap rows_of e)

  -- where the second has one item more
  pub new_told : (k m : ℕ) (y : A) (slice : List (List Node)) (same : Type 0) (gain : Gain) → BeginAlike xs ys k
      → BeginAlike (drop k xs) (drop (k + 1) ys) m → length xs + 1 ≡ length ys → y ≡ get_or ys k y
      → slice ≡ rows_of y → (same → k + m ≡ length xs) → (k + m ≡ length xs → same) → TellsNew same k slice gain
      → TellsGain Own rows_of Gains xs ys gain
  new_told k m y slice same gain b c l e s f g t =
      let within : k < length ys = omega (arith, b.within, l) in
      let item : slice_get ys k ≡ Some y = slice_get_read ys (length ys) k y refl within e in
      record {
        new = λ j h. (let w = t.new j h in
            let full : k + m ≡ length xs = f w.0 in
            let one : suc k ≡ k + 1 = omega arith in
            let rest : drop k xs ≡ drop (k + 1) ys = alike_whole (drop k xs) (drop (k + 1) ys) m c
            (omega (arith, full, length-drop k xs)) (omega (arith, full, l, length-drop (k + 1) ys)) in
            let it : HasNew rows_of xs ys k = record {
              item = y;
              more = one_more xs ys k y b item (rest ∙ ap (λ i. drop i ys) (sym one));
              bare = subst AreBare s w.2;
            } in
            subst (λ i. HasNew rows_of xs ys i) (sym w.1) it);
        within = λ i j h. absurd (t.no_other i j h);
        none = λ h gains. elim (so gains) as (λ _. ⊥) [
          | inl n ↦ (let it = n.1 in
              let full = more_not xs ys k m n.0 it.item b c it.more in
              let p = more_placed xs ys k n.0 it.item it.more b in
              let is : it.item ≡ y = (let q = p.item in cc) in
              t.none h (g full) (subst AreBare (sym s) (subst (λ u. AreBare (rows_of u)) is it.bare)))
          | inr n ↦ absurd (omega (arith, within_lengths n.0 n.1 n.2, l))
        ];
      }

  -- where the lengths differ otherwise, or the lists are the same
  pub lengths_told : (k : ℕ) → BeginAlike xs ys k → length xs + 1 ≢ length ys
      → (length xs ≢ length ys) ⊎ ((length xs ≡ length ys) × (k ≡ length xs)) → TellsGain Own rows_of Gains xs ys Not
  lengths_told k b l o = tell_not (λ gains. elim (so gains) as (λ _. ⊥) [
    | inl n ↦ l (omega (arith, more_lengths xs ys n.0 n.1.item n.1.more))
    | inr n ↦ elim o as (λ _. ⊥) [
      | inl d ↦ d (within_lengths n.0 n.1 n.2)
      | inr d ↦ within_not_same n.0 n.1 n.2
          (same_there n.2.at (alike_whole xs ys k b d.1 (d.1 ∙ d.0)))
    ]
  ])

  pub rest_told : (k m : ℕ) → BeginAlike xs ys k → BeginAlike (drop (k + 1) xs) (drop (k + 1) ys) m
      → length xs + 1 ≢ length ys → k + 1 + m ≢ length xs → TellsGain Own rows_of Gains xs ys Not
  rest_told k m b c l o = tell_not (λ gains. elim (so gains) as (λ _. ⊥) [
    | inl n ↦ l (omega (arith, more_lengths xs ys n.0 n.1.item n.1.more))
    | inr n ↦ o (differ_not xs ys k m n.0 n.2.x n.2.y b c n.2.at (within_not_same n.0 n.1 n.2)).1
  ])

  -- where they differ in one item
  pub within_told : (k m : ℕ) (x y : A) (slice other : List (List Node)) (same : Type 0) (gain : Gain)
      → BeginAlike xs ys k → BeginAlike (drop (k + 1) xs) (drop (k + 1) ys) m → length xs ≡ length ys → k ≢ length xs
      → k + 1 + m ≡ length xs → x ≡ get_or xs k x → y ≡ get_or ys k y → slice ≡ rows_of x → other ≡ rows_of y
      → (same → Own x y) → (Own x y → same) → TellsWithin same k slice other gain
      → TellsGain Own rows_of Gains xs ys gain
  within_told k m x y slice other same gain b c l o full e f s r p q t =
      let here : k < length xs = omega (arith, b.within, o) in
      let first : slice_get xs k ≡ Some x = slice_get_read xs (length xs) k x refl here e in
      let second : slice_get ys k ≡ Some y = slice_get_read ys (length ys) k y refl (omega (arith, here, l)) f in
      let one : suc k ≡ k + 1 = omega arith in
      let rest : drop (k + 1) xs ≡ drop (k + 1) ys = alike_whole (drop (k + 1) xs) (drop (k + 1) ys) m c
      (omega (arith, full, length-drop (k + 1) xs)) (omega (arith, full, l, length-drop (k + 1) ys)) in
      let at : DifferAt xs ys k x y = differ_at xs ys k x y b first second
      (subst (λ i. drop i xs ≡ drop i ys) (sym one) rest) in
      record {
        new = λ i h. absurd (t.no_new i h);
        within = λ i j h. (let w = t.within i j h in
            let it : GainWithin Own rows_of xs ys k j = record {
              x = x;
              y = y;
              at = at;
              own = p w.0;
              below = subst (λ u. GainIn u (rows_of y) j) s (subst (λ u. GainIn slice u j) r w.2);
            } in
            subst (λ u. GainWithin Own rows_of xs ys u j) (sym w.1) it);
        none = λ h gains. elim (so gains) as (λ _. ⊥) [
          | inl n ↦ absurd (omega (arith, more_lengths xs ys n.0 n.1.item n.1.more, l))
          | inr n ↦ (let g = n.2 in
              let is : k ≡ n.0 = (differ_not xs ys k m n.0 g.x g.y b c g.at (within_not_same n.0 n.1 g)).0 in
              let p1 : slice_get xs k ≡ Some g.x = subst (λ i. slice_get xs i ≡ Some g.x) (sym is) g.at.first in
              let p2 : slice_get ys k ≡ Some g.y = subst (λ i. slice_get ys i ≡ Some g.y) (sym is) g.at.second in
              let a : g.x ≡ x = cc in
              let z : g.y ≡ y = cc in
              let own : Own x y = subst (λ u. Own u y) a (subst (λ u. Own g.x u) z g.own) in
              let below : GainIn (rows_of x) (rows_of y) n.1 =
              subst (λ u. GainIn (rows_of u) (rows_of y) n.1) a (subst (λ u. GainIn (rows_of g.x) (rows_of u) n.1) z
              g.below) in
              t.none h (q own) n.1 (subst (λ u. GainIn u other n.1) (sym s)
              (subst (λ u. GainIn (rows_of x) u n.1) (sym r) below)))
        ];
      }

pub row_gains_so : (row other : List Node) → RowGains row other → ((k : ℕ) × HasNew node_rows row other k)
    ⊎ ((k : ℕ) × (j : ℕ) × GainWithin IsOwnNode node_rows row other k j)
row_gains_so row other (new_segment {k = k} {n = n} m bare) = inl (k, record { item = n; more = m; bare = bare })
row_gains_so row other (lower_segment {lower = lower} {more = more} {k = k} {j = j} {x = x} {y = y} at own below gains) =
    inr (
      k,
      j,
      record {
        x = x;
        y = y;
        at = at;
        own = own;
        below = record { lower = lower; more = more; at = below; gains = gains };
      },
    )

pub roots_gain_so : (roots others : List Root) → RootsGain roots others → ((k : ℕ) × HasNew root_rows roots others k)
    ⊎ ((k : ℕ) × (j : ℕ) × GainWithin HaveSameOwn root_rows roots others k j)
roots_gain_so roots others (new_root {k = k} {root = root} m bare) =
    inl (k, record { item = root; more = m; bare = bare })
roots_gain_so roots others (below_root {lower = lower} {more = more} {k = k} {j = j} {x = x} {y = y} at own below gains) =
    inr (
      k,
      j,
      record {
        x = x;
        y = y;
        at = at;
        own = own;
        below = record { lower = lower; more = more; at = below; gains = gains };
      },
    )

-- ---- of two rows of rows

pub in_not : (Own : Type 0) (place : ℕ) (rows others : List (List Node)) → (Own → (j : ℕ) → ¬ GainIn rows others j)
    → TellsWithin Own place rows others Not
in_not Own place rows others n = record {
  no_new = λ k e. absurd (let h = e in cc);
  within = λ k j e. absurd (let h = e in cc);
  none = λ e. n;
}

-- nothing is gained where the lengths differ, or the lists are the same
pub in_lengths : (rows others : List (List Node)) (k j : ℕ) → BeginAlike rows others k
    → (length rows ≢ length others) ⊎ ((length rows ≡ length others) × (k ≡ length rows)) → ¬ GainIn rows others j
in_lengths rows others k j b o g =
    let l = same_lengths rows others j g.lower g.more g.at in
    elim o as (λ _. ⊥) [
      | inl d ↦ d l
      | inr d ↦ within_apart rows others j g (alike_whole rows others k b d.1 (d.1 ∙ d.0))
    ]

pub in_rest : (rows others : List (List Node)) (k m j : ℕ) → BeginAlike rows others k
    → BeginAlike (drop (k + 1) rows) (drop (k + 1) others) m → k + 1 + m ≢ length rows → ¬ GainIn rows others j
in_rest rows others k m j b c o g =
    o (differ_not rows others k m j g.lower g.more b c g.at (rows_gained g.lower g.more g.gains)).1

-- the row at the place is the one
pub in_row : (rows others : List (List Node)) (k m j : ℕ) (x y : List Node) → BeginAlike rows others k
    → BeginAlike (drop (k + 1) rows) (drop (k + 1) others) m → length rows ≡ length others → k ≢ length rows
    → x ≡ get_or rows k x → y ≡ get_or others k y → GainIn rows others j → RowGains x y
in_row rows others k m j x y b c l o e f g =
    let here : k < length rows = omega (arith, b.within, o) in
    let first : slice_get rows k ≡ Some x = slice_get_read rows (length rows) k x refl here e in
    let second : slice_get others k ≡ Some y = slice_get_read others (length others) k y refl (omega (arith, here, l)) f in
    let is : k ≡ j = (differ_not rows others k m j g.lower g.more b c g.at (rows_gained g.lower g.more g.gains)).0 in
    let p1 : slice_get rows k ≡ Some g.lower = subst (λ i. slice_get rows i ≡ Some g.lower) (sym is) g.at.first in
    let p2 : slice_get others k ≡ Some g.more = subst (λ i. slice_get others i ≡ Some g.more) (sym is) g.at.second in
    let a : g.lower ≡ x = cc in
    let z : g.more ≡ y = cc in
    subst (λ u. RowGains u y) a (subst (λ u. RowGains g.lower u) z g.gains)

pub gains_told : (row other : List Node) (gain : Gain) → TellsRowGain row other gain → gain ≢ Not → RowGains row other
gains_told row other (New k) t n = (let w = t.new k refl in new_segment w.more w.bare)
gains_told row other (Within k j) t n =
    (let w = t.within k j refl in lower_segment w.at w.own w.below.at w.below.gains)
gains_told row other Not t n = absurd (n refl)

pub in_told : (Own : Type 0) (place : ℕ) (rows others : List (List Node)) (k m : ℕ) (x y : List Node) (gain : Gain)
    → Own → BeginAlike rows others k → BeginAlike (drop (k + 1) rows) (drop (k + 1) others) m
    → length rows ≡ length others → k ≢ length rows → k + 1 + m ≡ length rows → x ≡ get_or rows k x
    → y ≡ get_or others k y → TellsRowGain x y gain → gain ≢ Not → TellsWithin Own place rows others (Within place k)
in_told Own place rows others k m x y gain own b c l o full e f t n =
    let here : k < length rows = omega (arith, b.within, o) in
    let first : slice_get rows k ≡ Some x = slice_get_read rows (length rows) k x refl here e in
    let second : slice_get others k ≡ Some y = slice_get_read others (length others) k y refl (omega (arith, here, l)) f in
    let one : suc k ≡ k + 1 = omega arith in
    let rest : drop (k + 1) rows ≡ drop (k + 1) others = alike_whole (drop (k + 1) rows) (drop (k + 1) others) m c
    (omega (arith, full, length-drop (k + 1) rows)) (omega (arith, full, l, length-drop (k + 1) others)) in
    let at : DifferAt rows others k x y = differ_at rows others k x y b first second
    (subst (λ i. drop i rows ≡ drop i others) (sym one) rest) in
    let it : GainIn rows others k = record { lower = x; more = y; at = at; gains = gains_told x y gain t n } in
    record {
      no_new = λ i h. absurd (let g = h in cc);
      within = λ i j h. (let p : i ≡ place = cc in let q : k ≡ j = cc in
          (own, p, subst (λ u. GainIn rows others u) q it));
      none = λ h. absurd (let g = h in cc);
    }

pub bare_read : (rows : List (List Node)) (k : ℕ) (row : List Node) → AreBare rows → k < length rows
    → row ≡ get_or rows k row → row ≡ []
bare_read rows k row b l e = bare_at rows k row b (slice_get_read rows (length rows) k row refl l e)

pub told_as : (row other slice others : List Node) (gain : Gain) → slice ≡ row → others ≡ other
    → TellsRowGain slice others gain → TellsRowGain row other gain
told_as row other slice others gain e f t =
    subst (λ u. TellsRowGain u other gain) e (subst (λ u. TellsRowGain slice u gain) f t)

pub empty_list : {A : Type 0} (xs : List A) → ¬ (¬ (xs ≡ [])) → xs ≡ []
empty_list [] n = refl
empty_list (x ∷ xs) n = absurd (n (λ e. (let h = e in cc)))

-- what is behind a place, as a slice
pub as_rest : {A : Type 0} (xs ys : List A) (i j m : ℕ)
    → BeginAlike (take (length xs - i) (drop i xs)) (take (length ys - j) (drop j ys)) m
    → BeginAlike (drop i xs) (drop j ys) m
as_rest {A} xs ys i j m b =
    let e : take (length xs - i) (drop i xs) ≡ drop i xs =
    take_all (length xs - i) (drop i xs) (omega (arith, length-drop i xs)) in
    let f : take (length ys - j) (drop j ys) ≡ drop j ys =
    take_all (length ys - j) (drop j ys) (omega (arith, length-drop j ys)) in
    subst (λ (u : List A). BeginAlike u (drop j ys) m) e
    (subst (λ (u : List A). BeginAlike (take (length xs - i) (drop i xs)) u m) f b)

-- ---- the item that comes, and those in front of it

pub more_item : {A : Type 0} (xs ys : List A) (k : ℕ) (y : A) → OneMore xs ys k y → slice_get ys k ≡ Some y
more_item xs ys k y m =
    ap (λ (u : List _). slice_get u k) m.more
    ∙ ap (λ i. slice_get (m.front ++ y ∷ m.back) i) (sym m.place) ∙ get_seam m.front m.back y

pub more_read : {A : Type 0} (xs ys : List A) (k : ℕ) (y z : A) → OneMore xs ys k y → z ≡ get_or ys k z
    → (k < length ys) × (z ≡ y)
more_read xs ys k y z m e =
    let item = more_item xs ys k y m in
    let b : k < length ys = slice_get_within ys k y item in
    let read : slice_get ys k ≡ Some z = slice_get_read ys (length ys) k z refl b e in
    (b, (let h = item in let g = read in cc))

there : {A : Type 0} (j : ℕ) (xs : List A) → j < length xs → (x : A) × (slice_get xs j ≡ Some x)
there j [] l = absurd (omega (arith, l))
there zero (x ∷ xs) l = (x, refl)
there (suc j) (x ∷ xs) l = there j xs (omega (arith, l))

length_both : {A : Type 0} (front back : List A) → length front ≤ length (front ++ back)
length_both [] back = omega arith
length_both (a ∷ front) back = omega (arith, length_both front back)

pub before_more : {A : Type 0} (xs ys : List A) (k j : ℕ) (y : A) → OneMore xs ys k y → k ≡ suc j
    → (x : A) × (slice_get xs j ≡ Some x)
before_more xs ys k j y m e =
    there j xs (omega (arith, e, m.place, length_both m.front m.back, ap length m.fewer))

pub first_more : {A : Type 0} (xs ys : List A) (k : ℕ) (y : A) → OneMore xs ys k y → k ≡ 0 → ys ≡ y ∷ xs
first_more xs ys k y m e =
    let none : m.front ≡ [] = no_front m.front (m.place ∙ e) in
    m.more ∙ ap (λ (u : List _). u ++ y ∷ m.back) none ∙ ap (λ u. y ∷ u)
    (sym (m.fewer ∙ ap (λ (u : List _). u ++ m.back) none))
  where
    no_front : {A : Type 0} (front : List A) → length front ≡ 0 → front ≡ []
    no_front [] e = refl
    no_front (a ∷ front) e = absurd (omega (arith, e))
