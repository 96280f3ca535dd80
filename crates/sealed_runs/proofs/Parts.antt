-- Parts of lists and of histories.
use Rattle.std.proofs.Common.{◌≡◌, refl, sym, ◌∙◌, ap, arith, ℕ, zero, suc, ◌+◌, inl, inr, ◌⊎◌, List, [], ◌∷◌, ◌++◌, length, take, drop, append_assoc}
use Rattle.std.specs.Prelude.{Some, slice_get}
use Rattle.std.proofs.Math.Seq.{take-add}
use Rattle.std.proofs.lemmas.List.{append-nil}
use Rattle.std.proofs.lemmas.List.Concat.{flat_map-cons}
use Rattle.std.proofs.lemmas.List.Sums.{fold-append}
use Rattle.fp_model.specs.declared.database.Db.{Db}
use Rattle.fp_model.specs.declared.log.Entry.{Entry}
use Rattle.fp_model.specs.declared.log.Outcome.{Outcome}
use Rattle.fp_model.specs.declared.log.Outcome.TheVariants as outcome
use Rattle.fp_model.specs.History.{History, states_of, with_entry}
use Rattle.fp_model.specs.Items.{items_of}
use Rattle.fp_model.specs.Lasts.{format_at, format_behind}
use Rattle.fp_model.specs.Rules.{Rules}
use Rattle.fp_model.specs.SerialHistory.{LeadsOn}

-- ---- lists

-- the element behind a first part
pub get_behind : {X : Type 0} (xs : List X) (x : X) (ys : List X) (n : ℕ) → n ≡ length xs
    → slice_get (xs ++ x ∷ ys) n ≡ Some x
get_behind [] x ys n e = ap (slice_get (x ∷ ys)) e
get_behind (a ∷ xs) x ys zero e = absurd (omega (arith, e))
get_behind (a ∷ xs) x ys (suc n) e = get_behind xs x ys n (omega (arith, e))

take_nil : {X : Type 0} (k : ℕ) → take {A = X} k [] ≡ []
take_nil zero = refl
take_nil (suc k) = refl

-- a first part by its own length
take_own : {X : Type 0} (k : ℕ) (xs : List X) → take (length (take k xs)) xs ≡ take k xs
take_own zero xs = refl
take_own (suc k) [] = refl
take_own (suc k) (x ∷ xs) = ap (λ ys. x ∷ ys) (take_own k xs)

-- a first part, and so many more
pub take_more : {X : Type 0} (n k : ℕ) (xs : List X)
    → take n xs ++ take k (drop n xs) ≡ take (n + length (take k (drop n xs))) xs
take_more n k xs =
    ap (λ ys. take n xs ++ ys) (sym (take_own k (drop n xs)))
    ∙ sym (take-add n (length (take k (drop n xs))) xs)

-- ---- entries and items

pub items_first : (e : Entry) (es : List Entry) → items_of (e ∷ es) ≡ e.items ++ items_of es
items_first e es = flat_map-cons (λ (x : Entry). x.items) e es

-- ---- formats

-- an entry leaves a format, or makes it 2,
either_behind : (format : ℕ) (o : Outcome) → (format_behind format o ≡ format) ⊎ (format_behind format o ≡ 2)
either_behind format outcome.Done = inl refl
either_behind format (outcome.Verify call fsa found) = inl refl
either_behind format (outcome.Roll code) = inl refl
either_behind format (outcome.SeqFull set begin end n) = inl refl
either_behind format (outcome.Deadlock cycle) = inl refl
either_behind format outcome.Device = inl refl
either_behind format outcome.Memory = inl refl
either_behind format outcome.Unknown = inl refl
either_behind format (outcome.Old last) = inl refl
either_behind format (outcome.Repeat line) = inl refl
either_behind format (outcome.Purge set n) = inl refl
either_behind format outcome.Format = inr refl

-- and so do entries
either_at : (format : ℕ) (es : List Entry) → (format_at format es ≡ format) ⊎ (format_at format es ≡ 2)
either_at format [] = inl refl
either_at format (e ∷ es) = elim (either_behind format e.outcome) [
  | inl same ↦ elim (either_at format es) [
    | inl stays ↦ inl (ap (λ (f : ℕ). format_at f es) same ∙ stays)
    | inr two ↦ inr (ap (λ (f : ℕ). format_at f es) same ∙ two)
  ]
  | inr two ↦ elim (either_at 2 es) [
    | inl stays ↦ inr (ap (λ (f : ℕ). format_at f es) two ∙ stays)
    | inr still ↦ inr (ap (λ (f : ℕ). format_at f es) two ∙ still)
  ]
]

two_at : (es : List Entry) → format_at 2 es ≡ 2
two_at es = elim (either_at 2 es) [ inl stays ↦ stays | inr two ↦ two ]

-- where it stays behind all of them, it does behind a first part
pub format_within : (format : ℕ) (es fs : List Entry) → format_at format (es ++ fs) ≡ format
    → format_at format es ≡ format
format_within format es fs is = elim (either_at format es) [
  | inl stays ↦ stays
  | inr two ↦
      two ∙ sym (two_at fs) ∙ sym (ap (λ (f : ℕ). format_at f fs) two)
      ∙ sym (fold-append (λ (before : ℕ) (e : Entry). format_behind before e.outcome) format es fs) ∙ is
]

-- ---- histories

-- a history that goes on has the states from before, and more
pub states_more : (rules : Rules) (h : History) (es : List Entry) (h2 : History) → LeadsOn rules h es h2
    → (more : List Db) × (states_of h2 ≡ states_of h ++ more)
states_more rules h [] h2 l = ([], ap states_of l ∙ sym (append-nil (states_of h)))
states_more rules h (e ∷ es) h2 l =
    let rest = states_more rules (with_entry e l.0 h) es h2 l.2 in
    (l.0 ∷ rest.0, rest.1 ∙ append_assoc (states_of h) (l.0 ∷ []) rest.0)
