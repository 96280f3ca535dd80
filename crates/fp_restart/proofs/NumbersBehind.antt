-- The format and the last numbers behind entries, one after another.
use Rattle.std.proofs.Common.{◌≡◌, ℕ, ◌+◌, ◌<◌, List, [], ◌∷◌, ◌++◌, length, take, get_or, refl, sym, ap, ◌∙◌, arith}
use Rattle.std.proofs.lemmas.List.{length-append, take_more}
use Rattle.std.proofs.lemmas.List.Sums.{fold-append}
use Rattle.std.specs.Option.{option_map_or}
use Rattle.fp_model.specs.declared.log.Entry.{Entry}
use Rattle.fp_model.specs.Lasts.{Last, format_at, format_behind, last_by, lasts_behind, lasts_of, with_last}
use Rattle.fp_restart.specs.Replayed.{AreOfSome}
use Rattle.fp_restart.specs.inside.Replayed.{HasNumbersOf, HasNumbersOfSome}
use Rattle.log_groups.specs.Log.{LogState}
use Rattle.fp_restart.specs.declared.numbers.Numbers.{Numbers}

-- behind entries and then others
pub format_both : (format : ℕ) (es fs : List Entry) → format_at format (es ++ fs) ≡ format_at (format_at format es) fs
format_both format es fs = fold-append (λ (before : ℕ) (e : Entry). format_behind before e.outcome) format es fs

pub lasts_both : (format : ℕ) (es fs : List Entry) (lasts : List Last)
    → lasts_behind format (es ++ fs) lasts ≡ lasts_behind (format_at format es) fs (lasts_behind format es lasts)
lasts_both format [] fs lasts = refl
lasts_both format (e ∷ es) fs lasts = lasts_both (format_behind format e.outcome) es fs
    (option_map_or (λ last. with_last last lasts) (last_by format e) lasts)

-- behind no entries they are those from before
pub numbers_none : (numbers : Numbers) → HasNumbersOf [] numbers numbers
numbers_none numbers = record { format = refl; lasts = refl }

-- an entry more
pub numbers_next : (es : List Entry) (i : ℕ) (e : Entry) → i < length es → e ≡ get_or es i e → (old mid new : Numbers)
    → HasNumbersOf (take i es) old mid → new.format ≡ format_behind mid.format e.outcome
    → new.lasts.terminals
    ≡ option_map_or (λ last. with_last last mid.lasts.terminals) (last_by mid.format e) mid.lasts.terminals
    → HasNumbersOf (take (i + 1) es) old new
numbers_next es i e lt is old mid new so_far format lasts =
    let more : take (i + 1) es ≡ take i es ++ e ∷ [] =
    take_more es i e lt ∙ ap (λ x. take i es ++ x ∷ []) (sym is) in
    record {
      format =
          format ∙ ap (λ f. format_behind f e.outcome) so_far.format ∙ sym (format_both old.format (take i es) (e ∷ []))
          ∙ ap (format_at old.format) (sym more);
      lasts =
          lasts
          ∙ ap (λ ls. option_map_or (λ last. with_last last ls) (last_by mid.format e) ls) so_far.lasts
          ∙ ap (λ f. lasts_behind f (e ∷ []) (lasts_behind old.format (take i es) old.lasts.terminals)) so_far.format
          ∙ sym (lasts_both old.format (take i es) (e ∷ []) old.lasts.terminals)
          ∙ ap (λ l. lasts_behind old.format l old.lasts.terminals) (sym more);
    }

-- ---- behind some entries, whatever is told

-- none so far
pub some_none : (numbers : Numbers) → HasNumbersOfSome 0 numbers numbers
some_none numbers = record { entries = []; count_is = refl; numbers = numbers_none numbers }

-- and more
pub some_more : (count more : ℕ) (old mid new : Numbers) → HasNumbersOfSome count old mid
    → HasNumbersOfSome more mid new → HasNumbersOfSome (count + more) old new
some_more count more old mid new a b = record {
  entries = a.entries ++ b.entries;
  count_is = omega (arith, a.count_is, b.count_is, length-append a.entries b.entries);
  numbers = record {
    format =
        b.numbers.format ∙ ap (λ f. format_at f b.entries) a.numbers.format
        ∙ sym (format_both old.format a.entries b.entries);
    lasts =
        b.numbers.lasts ∙ ap (λ ls. lasts_behind mid.format b.entries ls) a.numbers.lasts
        ∙ ap (λ f. lasts_behind f b.entries (lasts_behind old.format a.entries old.lasts.terminals)) a.numbers.format
        ∙ sym (lasts_both old.format a.entries b.entries old.lasts.terminals);
  };
}

-- of an open log that is told so
pub some_of : (count : ℕ) (old new : Numbers) (log : LogState) → HasNumbersOfSome count old new
    → old.lasts.terminals ≡ [] → log.front_format ≡ old.format → log.sealed ≡ count → log.format ≡ new.format
    → AreOfSome log new.lasts
some_of count old new log is none front_format sealed format = record {
  entries = is.entries;
  count = sealed ∙ is.count_is;
  format = format ∙ is.numbers.format ∙ ap (λ f. format_at f is.entries) (sym front_format);
  lasts =
      is.numbers.lasts ∙ ap (λ ls. lasts_behind old.format is.entries ls) none
      ∙ ap (λ f. lasts_of f is.entries) (sym front_format);
}
