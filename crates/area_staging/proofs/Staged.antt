-- The intervals of an area under staged changes: read, put and added.
use Rattle.std.proofs.Common.{inl, inr, ◌+◌, [], ◌∷◌, set, ◌++◌, ◌≡◌, ℕ, suc, ◌<◌, List, length, refl, sym, ◌∙◌, ap, subst, arith}
use Rattle.std.specs.Prelude.{Option, Some, None, IsSome}
use Rattle.std.proofs.lemmas.Bool.{cases_eq, cases_lt}
use Rattle.fp_site.specs.Disk.{Disk, IsLawful}
use Rattle.fp_site.specs.Site.{ReadsNothing}
use Rattle.ci_pool.specs.Cells.{cell_at}
use Rattle.ci_pool.specs.Held.{Held, SameAtHand, held_at, waiting_of, bytes_of, bytes_or, interval_in, newest_in}
use Rattle.held_intervals.specs.Holding.{Changes, held_or, listed, Fit}
use Rattle.held_intervals.proofs.Holds.{listed_same, fit_put, fit_more, listed_more, listed_set}
use Rattle.area_staging.specs.Looking.{LooksAt}
use Rattle.area_staging.specs.Staging.{staged_or_newest, staged_area, IsToldPool, Grows, AllAtHand}
use Rattle.area_staging.proofs.Looks.{looks_then, looks_as}
use Rattle.plain_laws.proofs.Options.{is_some_of, some_value}

-- ---- one interval

pub in_staged : (staged : Changes) (pool : Held) (contents : ℕ → List ℕ) (set_ size ci : ℕ) (bytes : List ℕ)
    → staged ci ≡ Some bytes → staged_or_newest staged pool contents set_ size ci ≡ bytes
in_staged staged pool contents set_ size ci bytes is =
    ap (λ o. held_or o (newest_in pool contents set_ ci size)) is

pub in_pool : (staged : Changes) (pool : Held) (contents : ℕ → List ℕ) (set_ size ci : ℕ) → staged ci ≡ None
    → staged_or_newest staged pool contents set_ size ci ≡ newest_in pool contents set_ ci size
in_pool staged pool contents set_ size ci is = ap (λ o. held_or o (newest_in pool contents set_ ci size)) is

-- ---- a call that looks

-- pools with the same cells and the same data sets give the same bytes
pub newest_same : (pool after : Held) (contents contents2 : ℕ → List ℕ) (set_ ci size : ℕ)
    → after.cells ≡ pool.cells → contents2 ≡ contents
    → newest_in after contents2 set_ ci size ≡ newest_in pool contents set_ ci size
newest_same pool after contents contents2 set_ ci size same e =
    ap (λ cs. bytes_or (bytes_of (waiting_of (cell_at set_ ci cs))) (interval_in contents2 set_ ci size)) same
    ∙ ap (λ c. bytes_or (bytes_of (waiting_of (cell_at set_ ci pool.cells))) (interval_in c set_ ci size)) e

pub area_same : (count : ℕ) (staged : Changes) (pool after : Held) (contents contents2 : ℕ → List ℕ) (set_ size : ℕ)
    → after.cells ≡ pool.cells → contents2 ≡ contents
    → staged_area count staged after contents2 set_ size ≡ staged_area count staged pool contents set_ size
area_same count staged pool after contents contents2 set_ size same e =
    listed_same count (staged_or_newest staged after contents2 set_ size)
    (staged_or_newest staged pool contents set_ size)
    (λ k lt. ap (held_or (staged k)) (newest_same pool after contents contents2 set_ k size same e))

module _ {S : Type 0} (told : S → Type 0) (disk : S → Disk) (faults holds : S → ℕ) (keeps : S → S → Type 0) where
  -- what is told of the pool stays told
  pub told_looked : (set_ size : ℕ) (old new : S) (pool after : Held)
      → LooksAt told disk faults holds keeps set_ size old new pool after → told old
      → IsToldPool set_ size (disk old).contents pool → IsToldPool set_ size (disk new).contents after
  told_looked set_ size old new pool after looks t was = record {
    clean = looks.clean t was.clean;
    sizes = looks.sizes set_ size (λ e. refl) was.sizes;
  }

  pub area_looked : (count : ℕ) (staged : Changes) (set_ size : ℕ) (old new : S) (pool after : Held)
      → LooksAt told disk faults holds keeps set_ size old new pool after → told old
      → staged_area count staged after (disk new).contents set_ size
      ≡ staged_area count staged pool (disk old).contents set_ size
  area_looked count staged set_ size old new pool after looks t =
      area_same count staged pool after (disk old).contents (disk new).contents set_ size looks.cells
      (looks.stays t).contents

  -- one look more since the first, at the same area
  pub looks_more : ((s : S) → told s → IsLawful (disk s)) → (first_set set_ first_size size : ℕ) (first old new : S)
      (first_pool pool after : Held) → set_ ≡ first_set → size ≡ first_size
      → LooksAt told disk faults holds keeps first_set first_size first old first_pool pool
      → LooksAt told disk faults holds keeps set_ size old new pool after
      → LooksAt told disk faults holds keeps first_set first_size first new first_pool after
  looks_more lawful first_set set_ first_size size first old new first_pool pool after e f before look =
      looks_then told disk faults holds keeps first_set first_size lawful first old new first_pool pool after before
      (looks_as told disk faults holds keeps set_ first_set size first_size old new pool after e f look)

-- ---- one that is put

pub area_put : (count : ℕ) (before after : Changes) (pool : Held) (contents : ℕ → List ℕ) (set_ size ci : ℕ)
    (bytes : List ℕ) → after ci ≡ Some bytes → ((k : ℕ) → (k ≡ ci → ⊥) → after k ≡ before k)
    → staged_area count after pool contents set_ size ≡ set (staged_area count before pool contents set_ size) ci bytes
area_put count before after pool contents set_ size ci bytes is others =
    listed_set count (staged_or_newest before pool contents set_ size)
    (staged_or_newest after pool contents set_ size) ci bytes
    (in_staged after pool contents set_ size ci bytes is)
    (λ k ne. ap (λ o. held_or o (newest_in pool contents set_ k size)) (others k ne))

-- ---- one more

pub area_more : (count : ℕ) (before after : Changes) (pool : Held) (contents : ℕ → List ℕ) (set_ size : ℕ)
    (bytes : List ℕ) → after count ≡ Some bytes → ((k : ℕ) → (k ≡ count → ⊥) → after k ≡ before k)
    → staged_area (count + 1) after pool contents set_ size
    ≡ staged_area count before pool contents set_ size ++ bytes ∷ []
area_more count before after pool contents set_ size bytes is others =
    let one : count + 1 ≡ suc count = omega arith in
    let f = staged_or_newest before pool contents set_ size in
    let g = staged_or_newest after pool contents set_ size in
    ap (λ n. listed n g) one ∙ listed_more count g
    ∙ ap (λ l. l ++ g count ∷ []) (listed_same count g f
    (λ k lt. ap (λ o. held_or o (newest_in pool contents set_ k size)) (others k (λ e. omega (arith, lt, e)))))
    ∙ ap (λ b. listed count f ++ b ∷ []) (in_staged after pool contents set_ size count bytes is)

pub fit_one_more : (count size : ℕ) (before after : Changes) (bytes : List ℕ) → Fit count size before
    → length bytes ≡ size → after count ≡ Some bytes → ((k : ℕ) → (k ≡ count → ⊥) → after k ≡ before k)
    → Fit (count + 1) size after
fit_one_more count size before after bytes fit long is others =
    fit_put (count + 1) size before after count bytes (fit_more count (count + 1) size before (omega arith) fit)
    (omega arith) long is others

-- ---- what is staged grows

still_some : (before after : Changes) (i : ℕ) (bytes : List ℕ) → after i ≡ Some bytes
    → ((k : ℕ) → (k ≡ i → ⊥) → after k ≡ before k) → (k : ℕ) → IsSome (before k) → IsSome (after k)
still_some before after i bytes is others k was = elim (cases_eq k i) [
  | inl e ↦ is_some_of (after k) bytes (ap after e ∙ is)
  | inr ne ↦ subst IsSome (sym (others k ne)) was
]

pub grows_put : (old_count count : ℕ) (old before after : Changes) (ci : ℕ) (bytes : List ℕ)
    → Grows old_count count old before → after ci ≡ Some bytes → ((k : ℕ) → (k ≡ ci → ⊥) → after k ≡ before k)
    → Grows old_count count old after
grows_put old_count count old before after ci bytes grows is others = record {
  no_fewer = grows.no_fewer;
  fresh = λ k from below. still_some before after ci bytes is others k (grows.fresh k from below);
  stay = λ k was. still_some before after ci bytes is others k (grows.stay k was);
}

pub grows_more : (old_count count : ℕ) (old before after : Changes) (bytes : List ℕ)
    → Grows old_count count old before → after count ≡ Some bytes
    → ((k : ℕ) → (k ≡ count → ⊥) → after k ≡ before k) → Grows old_count (count + 1) old after
grows_more old_count count old before after bytes grows is others = record {
  no_fewer = let n = grows.no_fewer in omega (arith, n);
  fresh = λ k from below. elim (cases_eq k count) [
    | inl e ↦ is_some_of (after k) bytes (ap after e ∙ is)
    | inr ne ↦ still_some before after count bytes is others k (grows.fresh k from (omega (arith, below, ne)))
  ];
  stay = λ k was. still_some before after count bytes is others k (grows.stay k was);
}

pub grows_same : (old_count count : ℕ) (old before after : Changes) → ((k : ℕ) → after k ≡ before k)
    → Grows old_count count old before → Grows old_count count old after
grows_same old_count count old before after same grows = record {
  no_fewer = grows.no_fewer;
  fresh = λ k from below. subst IsSome (sym (same k)) (grows.fresh k from below);
  stay = λ k was. subst IsSome (sym (same k)) (grows.stay k was);
}

-- ---- nothing is read

pub reads_nothing : {S : Type 0} (tells_reads : S → ℕ → Type 0) (bytes_read : S → ℕ → ℕ) (a b : S) → b ≡ a
    → ReadsNothing (tells_reads a) (tells_reads b) (bytes_read a) (bytes_read b)
reads_nothing tells_reads bytes_read a b same k tells =
    (subst (λ s. tells_reads s k) same tells, ap (λ s. bytes_read s k) same)

pub reads_then : {S : Type 0} (tells_reads : S → ℕ → Type 0) (bytes_read : S → ℕ → ℕ) (a b c : S)
    → ReadsNothing (tells_reads a) (tells_reads b) (bytes_read a) (bytes_read b)
    → ReadsNothing (tells_reads b) (tells_reads c) (bytes_read b) (bytes_read c)
    → ReadsNothing (tells_reads a) (tells_reads c) (bytes_read a) (bytes_read c)
reads_then tells_reads bytes_read a b c first second k tells =
    let late = second k tells in
    let early = first k late.0 in
    (early.0, late.1 ∙ early.1)

-- an interval that isn't staged was there from the first on, and is at hand still
pub still_there : (before pool : Held) (set_ ci first_count count : ℕ) (first_staged staged : Changes)
    → AllAtHand before set_ first_count → Grows first_count count first_staged staged → SameAtHand before pool
    → ci < count → staged ci ≡ None → (bytes : List ℕ) × (held_at pool set_ ci ≡ Some bytes)
still_there before pool set_ ci first_count count first_staged staged all grows same below none =
    let w = some_value (held_at before set_ ci) (all ci old) in
    (w.0, same set_ ci ∙ w.1)
  where
    none_there : (o : Option (List ℕ)) → o ≡ None → IsSome o → ⊥
    none_there None e is = cc
    none_there (Some x) e is = cc

    old : ci < first_count
    old = elim (cases_lt ci first_count) [
      | inl lt ↦ lt
      | inr ge ↦ absurd (none_there (staged ci) none (grows.fresh ci ge below))
    ]
