-- What holds of a pool, through its calls.
use Rattle.std.proofs.Common.{Bor, ◌≡◌, ◌⊎◌, inl, inr, ℕ, ◌*◌, true, false, ◌&&◌, List, length, not, Contains, refl, sym, ◌∙◌, ap, subst}
use Rattle.std.specs.Prelude.{option_copied, Option, Some, None, ◌==◌, is_some, option_map, if◌then◌else◌, Result, Ok, Err, IfOk, OnOk, OnErr}
use Rattle.std.specs.Map.{lookup}
use Rattle.std.proofs.lemmas.Bool.{cases_Bool, cases_eq}
use Rattle.fp_site.specs.Disk.{Broken, read_range, written as written_in}
use Rattle.lru.proofs.CallerLemmas.{Contains-lookup_entry}
use Rattle.ci_pool.specs.declared.cell.Cell.{Cell}
use Rattle.ci_pool.specs.declared.cell.Waiting.{Waiting}
use Rattle.ci_pool.specs.Cells.{Listed, is_key, cell_at, renewed, renewed_by}
use Rattle.ci_pool.specs.Changes.{is_staged}
use Rattle.ci_pool.specs.inside.Changes.{is_only_staged, published, unstaged_by, after_write_by, staged_cell}
use Rattle.ci_pool.specs.Held.{Held, waiting_of, staged_of, bytes_of, pending_at, interval_in, IsClean, HasSize, brought_first, IsPool, clean_at, held_at, first_of}
use Rattle.ci_pool.proofs.CleanLists.{entry_is, on_list}
use Rattle.ci_pool.proofs.Ranges.{other_written, other_broken}
use Rattle.plain_laws.proofs.Numbers.{both_numbers}

-- what is found on the list stands there
pub listed : (set ci : ℕ) (es : Listed) (v : List ℕ) → lookup (is_key set ci) es ≡ Some v → Contains es ((set, ci), v)
listed set ci es v is = (Contains-lookup_entry (is_key set ci) es ((set, ci), v) (entry_is set ci es v is)).0

-- no bytes wait where nothing does
pub nothing_waits : (o : Option Waiting) → bytes_of o ≡ None → o ≡ None
nothing_waits None is = refl
nothing_waits (Some w) is = absurd (cc)

pub nothing_pending : (r : Option (Bor (List ℕ))) (o : Option Waiting) → option_copied r ≡ bytes_of o → r ≡ None
    → o ≡ None
nothing_pending r o is none = nothing_waits o (sym is ∙ ap option_copied none)

-- bytes are held only of what is pending or on the list
pub not_held : (pool : Held) (set ci : ℕ) → pending_at pool set ci ≡ None → clean_at pool set ci ≡ None
    → (bytes : List ℕ) → held_at pool set ci ≡ Some bytes → ⊥
not_held pool set ci pending clean bytes held =
    let none : held_at pool set ci ≡ None = ap (λ o. first_of (bytes_of o) (clean_at pool set ci)) pending ∙ clean in
    cc

-- bytes that wait are those of what waits
pub bytes_wait : (o : Option Waiting) (bytes : List ℕ) → bytes_of o ≡ Some bytes → (w : Waiting) × (o ≡ Some w)
    × (w.bytes ≡ bytes)
bytes_wait None bytes is = absurd (cc)
bytes_wait (Some w) bytes is = (w, refl, cc)

-- ---- an interval brought to the head of the list

pub pool_used : (cap set ci : ℕ) (v : List ℕ) (es : Listed) (cells : List Cell) → IsPool cap es cells
    → waiting_of (cell_at set ci cells) ≡ None → IsPool cap (brought_first cap set ci v es) cells
pool_used cap set ci v es cells is none = record {
  some = is.some;
  pending_ends = is.pending_ends;
  staged_ends = is.staged_ends;
  apart = λ s k b c. elim (on_list cap set ci s k es v b c) [
    | inl same ↦ ap (λ n. waiting_of (cell_at n k cells)) same.0 ∙ ap (λ n. waiting_of (cell_at set n cells)) same.1
        ∙ none
    | inr rest ↦ is.apart s k b rest
  ];
}

pub clean_used : (cap set ci : ℕ) (v : List ℕ) (es : Listed) (contents : ℕ → List ℕ)
    → ((s k : ℕ) (b : List ℕ) → Contains es ((s, k), b) → b ≡ interval_in contents s k (length b))
    → v ≡ interval_in contents set ci (length v)
    → (s k : ℕ) (b : List ℕ) → Contains (brought_first cap set ci v es) ((s, k), b)
    → b ≡ interval_in contents s k (length b)
clean_used cap set ci v es contents was is s k b c = elim (on_list cap set ci s k es v b c) [
  | inl same ↦
      let a = same.0 in
      let d = same.1 in
      let e = same.2 in
      rw (a, d, e) is
  | inr rest ↦ was s k b rest
]

pub size_used : (cap set ci : ℕ) (v : List ℕ) (es : Listed) (cells : List Cell) (s n : ℕ) → (s ≡ set → length v ≡ n)
    → HasSize s n (record { bound = cap; clean = es; cells = cells })
    → HasSize s n (record { bound = cap; clean = brought_first cap set ci v es; cells = cells })
size_used cap set ci v es cells s n long was = record {
  pending = was.pending;
  staged = was.staged;
  clean = λ k b c. elim (on_list cap set ci s k es v b c) [
    | inl same ↦ ap length same.2 ∙ long same.0
    | inr rest ↦ was.clean k b rest
  ];
}

-- ---- what waits and what is staged, cell by cell

pub waits_published : (place : ℕ) (o : Option Cell) → waiting_of (option_map (published place) o) ≡ renewed_by place
    (staged_of o) (waiting_of o)
waits_published place None = refl
waits_published place (Some c) = refl

pub staged_published : (place : ℕ) (o : Option Cell) → staged_of (option_map (published place) o) ≡ None
staged_published place None = refl
staged_published place (Some c) = refl

not_waiting : (c : Cell) → is_only_staged c ≡ true → c.waiting ≡ None
not_waiting c only = go c.staged c.waiting only
  where
    go : (s : Option (List ℕ)) (w : Option Waiting) → (is_some s && not (is_some w)) ≡ true → w ≡ None
    go s None is = refl
    go None (Some w) is = absurd (cc)
    go (Some b) (Some w) is = absurd (cc)

pub waits_unstaged : (o : Option Cell) → waiting_of (unstaged_by o) ≡ waiting_of o
waits_unstaged None = refl
waits_unstaged (Some c) = elim (cases_Bool (is_only_staged c)) [
  | inl only ↦ rw only (sym (not_waiting c only))
  | inr both ↦ rw both refl
]

pub staged_unstaged : (o : Option Cell) → staged_of (unstaged_by o) ≡ None
staged_unstaged None = refl
staged_unstaged (Some c) = elim (cases_Bool (is_only_staged c)) [
  | inl only ↦ rw only refl
  | inr both ↦ rw both refl
]

-- an interval waits again with what was staged, or as it did
pub renewed_is : (place : ℕ) (st : Option (List ℕ)) (wt : Option Waiting) (w : Waiting)
    → renewed_by place st wt ≡ Some w → ((st ≡ None) × (wt ≡ Some w)) ⊎ (st ≡ Some w.bytes)
renewed_is place None wt w is = inl (refl, is)
renewed_is place (Some b) None w is = let e : renewed place b None ≡ w =
    cc in inr (ap (λ (v : Waiting). Some v.bytes) e)
renewed_is place (Some b) (Some v) w is = let e : renewed place b (Some v) ≡ w =
    cc in inr (ap (λ (u : Waiting). Some u.bytes) e)

-- ---- a write

module _ (contents later : ℕ → List ℕ) (pool : Held) (set ci size : ℕ) (w : Waiting)
    (pending : pending_at pool set ci ≡ Some w) (sized : HasSize set size pool)
    (apart : (s k : ℕ) (b : List ℕ) → Contains pool.clean ((s, k), b) → pending_at pool s k ≡ None)
    (others : (k : ℕ) → (k ≡ set → ⊥) → later k ≡ contents k) (was : IsClean contents pool) where
  long : length w.bytes ≡ size
  long = sized.pending ci w pending

  another : (k : ℕ) (b : List ℕ) → Contains pool.clean ((set, k), b) → k ≡ ci → ⊥
  another k b c same = let none : pending_at pool set ci ≡ None = ap (pending_at pool set) (sym same)
      ∙ apart set k b c in cc

  by_others
      : ((k : ℕ) → (k ≡ ci → ⊥) → read_range (later set) (k * size) size ≡ read_range (contents set) (k * size) size)
      → IsClean later pool
  by_others same s k b c = elim (cases_eq s set) [
    | inr ne ↦ was s k b c ∙ ap (λ xs. read_range xs (k * length b) (length b)) (sym (others s ne))
    | inl e ↦
        let here : Contains pool.clean ((set, k), b) = subst (λ n. Contains pool.clean ((n, k), b)) e c in
        let n : length b ≡ size = sized.clean k b here in
        was s k b c
        ∙ ap (λ v. read_range (contents v) (k * length b) (length b)) e
        ∙ ap (λ v. read_range (contents set) (k * v) v) n
        ∙ sym (same k (another k b here))
        ∙ ap (λ v. read_range (later set) (k * v) v) (sym n)
        ∙ ap (λ v. read_range (later v) (k * length b) (length b)) (sym e)
  ]

  -- leaves the clean intervals as they are,
  pub clean_written : later set ≡ written_in (contents set) (ci * length w.bytes) w.bytes → IsClean later pool
  clean_written is =
      by_others
      (λ k ne. ap (λ xs. read_range xs (k * size) size) (is ∙ ap (λ n. written_in (contents set) (ci * n) w.bytes) long)
      ∙ other_written size ci k (contents set) w.bytes ne long)

  -- also where it failed
  pub clean_broken : Broken (ci * length w.bytes) (length w.bytes) (contents set) (later set) → IsClean later pool
  clean_broken broken =
      by_others
      (λ k ne. other_broken size ci k (contents set) (later set) ne
      (subst (λ n. Broken (ci * n) n (contents set) (later set)) long broken))

-- ---- an answer's two cases

pub by_on : {T E : Type 0} (r : Result T E) (A B P : Type 0) → OnOk r A → OnErr r B → (A → P) → (B → P) → P
by_on (Ok x) A B P a b f g = f a
by_on (Err e) A B P a b f g = g b

pub by_if : {T E : Type 0} (r : Result T E) (Q R : T → Type 0) (B P : Type 0) → IfOk r Q → IfOk r R → OnErr r B
    → ((x : T) → Q x → R x → P) → (B → P) → P
by_if (Ok x) Q R B P q s b f g = f x q s
by_if (Err e) Q R B P q s b f g = g b

-- ---- bytes staged, and an interval written

pub nothing_staged : (o : Option (List ℕ)) → not (is_some o) ≡ true → o ≡ None
nothing_staged None is = refl
nothing_staged (Some b) is = absurd (cc)

same_waiting : (set ci : ℕ) (bytes : List ℕ) (o : Option Cell) → (staged_cell set ci bytes o).waiting ≡ waiting_of o
same_waiting set ci bytes None = refl
same_waiting set ci bytes (Some c) = refl

new_staged : (set ci : ℕ) (bytes : List ℕ) (o : Option Cell) → (staged_cell set ci bytes o).staged ≡ Some bytes
new_staged set ci bytes None = refl
new_staged set ci bytes (Some c) = refl

module _ (set ci s k : ℕ) (bytes : List ℕ) (cells new : List Cell) where
  -- bytes are staged: what waits stays,
  pub staged_waits : cell_at s k
      new ≡ (if s == set && k == ci then Some (staged_cell set ci bytes (cell_at set ci cells)) else cell_at s k cells)
      → waiting_of (cell_at s k new) ≡ waiting_of (cell_at s k cells)
  staged_waits at = ap waiting_of at ∙ elim (cases_Bool (s == set && k == ci)) [
    | inl here ↦
        let keys = both_numbers s k set ci here in
        rw here (same_waiting set ci bytes (cell_at set ci cells)
        ∙ sym (ap (λ n. waiting_of (cell_at n k cells)) keys.0 ∙ ap (λ n. waiting_of (cell_at set n cells)) keys.1))
    | inr other ↦ rw other refl
  ]

  -- and what is staged is these bytes, or was there
  pub staged_bytes : (b : List ℕ)
      → cell_at s k
      new ≡ (if s == set && k == ci then Some (staged_cell set ci bytes (cell_at set ci cells)) else cell_at s k cells)
      → staged_of (cell_at s k new) ≡ Some b
      → ((s ≡ set) × (k ≡ ci) × (b ≡ bytes)) ⊎ (staged_of (cell_at s k cells) ≡ Some b)
  staged_bytes b at is = elim (cases_Bool (s == set && k == ci)) [
    | inl here ↦
        let keys = both_numbers s k set ci here in
        let now : cell_at s k new ≡ Some (staged_cell set ci bytes (cell_at set ci cells)) = rw here at at in
        let same : Some bytes ≡ Some b = sym (new_staged set ci bytes (cell_at set ci cells)) ∙ sym (ap staged_of now)
        ∙ is in
        let e : b ≡ bytes = cc in
        inl (keys.0, keys.1, e)
    | inr other ↦
        let now : cell_at s k new ≡ cell_at s k cells = rw other at at in
        inr (sym (ap staged_of now) ∙ is)
  ]

waits_after : (o : Option Cell) → waiting_of (after_write_by o) ≡ None
waits_after None = refl
waits_after (Some c) = elim (cases_Bool (is_staged c)) [ inl t ↦ rw t refl | inr f ↦ rw f refl ]

pub unstaged_none : (o : Option (List ℕ)) → is_some o ≡ false → o ≡ None
unstaged_none None is = refl
unstaged_none (Some b) is = absurd (cc)

staged_after : (o : Option Cell) → staged_of (after_write_by o) ≡ staged_of o
staged_after None = refl
staged_after (Some c) =
    elim (cases_Bool (is_staged c)) [ inl t ↦ rw t refl | inr f ↦ rw f (sym (unstaged_none c.staged f)) ]

module _ (set ci s k : ℕ) (cells new : List Cell)
    (at : cell_at s k new ≡ (if s == set && k == ci then after_write_by (cell_at s k cells) else cell_at s k cells))
  where
    -- an interval is written: what waits still, waited before,
    pub written_waits : (w : Waiting) → waiting_of (cell_at s k new) ≡ Some w → waiting_of (cell_at s k cells) ≡ Some w
    written_waits w is = elim (cases_Bool (s == set && k == ci)) [
      | inl here ↦
          let now : cell_at s k new ≡ after_write_by (cell_at s k cells) = rw here at at in
          let bad = sym (ap waiting_of now ∙ waits_after (cell_at s k cells)) ∙ is in
          absurd (cc)
      | inr other ↦ let now : cell_at s k new ≡ cell_at s k cells = rw other at at in sym (ap waiting_of now) ∙ is
    ]

    -- what doesn't wait, waits no more,
    pub written_none : waiting_of (cell_at s k cells) ≡ None → waiting_of (cell_at s k new) ≡ None
    written_none none = elim (cases_Bool (s == set && k == ci)) [
      | inl here ↦ let now : cell_at s k new ≡ after_write_by (cell_at s k cells) = rw here at at in ap waiting_of now
          ∙ waits_after (cell_at s k cells)
      | inr other ↦ let now : cell_at s k new ≡ cell_at s k cells = rw other at at in ap waiting_of now ∙ none
    ]

    -- and what is staged stays
    pub written_staged : staged_of (cell_at s k new) ≡ staged_of (cell_at s k cells)
    written_staged = elim (cases_Bool (s == set && k == ci)) [
      | inl here ↦ let now : cell_at s k new ≡ after_write_by (cell_at s k cells) = rw here at at in ap staged_of now
          ∙ staged_after (cell_at s k cells)
      | inr other ↦ let now : cell_at s k new ≡ cell_at s k cells = rw other at at in ap staged_of now
    ]
