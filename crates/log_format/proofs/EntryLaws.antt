-- The laws of outcomes, items and entries.
use Rattle.std.proofs.Common.{◌≡◌, ℕ, zero, suc, ◌^◌, ◌<◌, ◌≤◌, true, false, ◌&&◌, eqb, List, [], ◌∷◌, ◌++◌, length}
use Rattle.std.proofs.Common.{Some, refl, sym, ap, subst, ◌∙◌, append_assoc, arith}
use Rattle.std.specs.Int.{w64}
use Rattle.std.specs.List.{AllByRecursion}
use Rattle.std.proofs.lemmas.Bool.{eqb-true, eqb-false, ne_eqb, and_parts}
use Rattle.std.proofs.lemmas.List.{append-nil, nil_from_length}
use Rattle.fp_model.specs.declared.log.Item.{Item}
use Rattle.fp_model.specs.declared.log.Item.TheVariants.{Segment, Image, Range}
use Rattle.fp_model.specs.declared.log.Outcome.{Outcome}
use Rattle.fp_model.specs.declared.log.Outcome.TheVariants as outcome
use Rattle.fp_model.specs.declared.log.Entry.{Entry}
use Rattle.fp_model.specs.Spellings.{be16, be32, be64, short_text, long_text}
use Rattle.fp_model.specs.LogText.{IsBytes, outcome_text, item_text, notes_text, items_text, rest_text, entry_text, IsOutcome, FitsOutcome, IsItem, FitsItem, HasSpelling}
use Rattle.log_format.specs.Reading.{number_at, part_at, counted_at}
use Rattle.log_format.specs.EntryReading.{some_long_at, seq_full_at, detail_at, outcome_at}
use Rattle.log_format.specs.EntryReading.{kind_at, item_at, rest_at, keeps_rules, whole_at, entry_at}
use Rattle.log_format.specs.Laws.{Takes, Lawful, IsShorter}
use Rattle.log_format.proofs.Fields.{then, guard, next, part_takes, part_again, law8, law16, law32, law64, short_law, long_law}
use Rattle.log_format.proofs.Lists.{counted_law}
use Rattle.log_format.proofs.Rules.{KeepsRules-from, KeepsRules-to}
use Rattle.model_laws.proofs.Texts.{some_step}
use Rattle.std.proofs.lemmas.Option.{cond_some, same_Some}

join3 : (a b c d : List ℕ) → a ++ b ++ c ++ d ≡ a ++ (b ++ (c ++ d))
join3 a b c d = simp append_assoc

join4 : (a b c d e : List ℕ) → a ++ b ++ c ++ d ++ e ≡ a ++ (b ++ (c ++ (d ++ e)))
join4 a b c d e = simp append_assoc

join6 : (a b c d e f g : List ℕ) → a ++ b ++ c ++ d ++ e ++ f ++ g ≡ a ++ (b ++ (c ++ (d ++ (e ++ (f ++ g)))))
join6 a b c d e f g = simp append_assoc

-- ---- outcomes

-- an outcome whose numbers are of their types and whose lengths fit
abbrev pub IsGoodOutcome : Outcome → Type 0
IsGoodOutcome o = IsOutcome o × FitsOutcome o

-- what a detail told: the text behind the code
abbrev Told : ℕ → List ℕ → Outcome × List ℕ → Type 0
Told code bytes y = (text : List ℕ) × (outcome_text y.0 ≡ code ∷ text) × Takes bytes text y.1 × IsGoodOutcome y.0

plain : (code : ℕ) (o : Outcome) (bytes : List ℕ) (x : Outcome × List ℕ) → IsBytes bytes → Some (o, bytes) ≡ Some x
    → outcome_text o ≡ code ∷ [] → IsGoodOutcome o → Told code bytes x
plain code o bytes x fits e text ok = subst (λ (y : Outcome × List ℕ). Told code bytes y) (same_Some (o, bytes) x e)
    ([], text, record { parts = refl; rest_fits = fits }, ok)

seq_full_takes : (bytes : List ℕ) (x : Outcome × List ℕ) → IsBytes bytes → seq_full_at bytes ≡ Some x → Told 3 bytes x
unfolding seq_full_at
seq_full_takes bytes x fits e =
    let a = next law16 bytes _ x fits e in
    let b = next law64 a.0.1 _ x a.1.rest_fits a.3 in
    let c = next law64 b.0.1 _ x b.1.rest_fits b.3 in
    let d = next law64 c.0.1 _ x c.1.rest_fits c.3 in
    let t = then bytes _ c.0.1 _ d.0.1 (then bytes _ b.0.1 _ c.0.1 (then bytes _ a.0.1 _ b.0.1 a.1 b.1) c.1) d.1 in
    let made : Outcome × List ℕ = (outcome.SeqFull a.0.0 b.0.0 c.0.0 d.0.0, d.0.1) in
    subst (λ (y : Outcome × List ℕ). Told 3 bytes y) (same_Some made x d.3) (_, refl, t, ((a.2, b.2, c.2, d.2), tt))

detail_takes : (code : ℕ) (bytes : List ℕ) (x : Outcome × List ℕ) → IsBytes bytes → detail_at code bytes ≡ Some x
    → Told code bytes x
unfolding detail_at
detail_takes zero bytes x fits e = plain 0 outcome.Done bytes x fits e refl (tt, tt)
detail_takes (suc zero) bytes x fits e =
    let a = next law32 bytes _ x fits e in
    let b = next law16 a.0.1 _ x a.1.rest_fits a.3 in
    let c = next long_law b.0.1 _ x b.1.rest_fits b.3 in
    let t = then bytes _ b.0.1 _ c.0.1 (then bytes _ a.0.1 _ b.0.1 a.1 b.1) c.1 in
    subst (λ (y : Outcome × List ℕ). Told 1 bytes y) (same_Some (outcome.Verify a.0.0 b.0.0 c.0.0, c.0.1) x c.3)
    (_, refl, t, ((a.2, b.2, c.2.1), c.2.0))
detail_takes (suc (suc zero)) bytes x fits e =
    let a = next law16 bytes _ x fits e in
    subst (λ (y : Outcome × List ℕ). Told 2 bytes y) (same_Some (outcome.Roll a.0.0, a.0.1) x a.3)
    (_, refl, a.1, (a.2, tt))
detail_takes (suc (suc (suc zero))) bytes x fits e = seq_full_takes bytes x fits e
detail_takes (suc (suc (suc (suc zero)))) bytes x fits e =
    let a = next short_law bytes _ x fits e in
    subst (λ (y : Outcome × List ℕ). Told 4 bytes y) (same_Some (outcome.Deadlock a.0.0, a.0.1) x a.3)
    (_, refl, a.1, (a.2.1, a.2.0))
detail_takes (suc (suc (suc (suc (suc zero))))) bytes x fits e = plain 5 outcome.Device bytes x fits e refl (tt, tt)
detail_takes (suc (suc (suc (suc (suc (suc zero)))))) bytes x fits e =
    plain 6 outcome.Memory bytes x fits e refl (tt, tt)
detail_takes (suc (suc (suc (suc (suc (suc (suc zero))))))) bytes x fits e =
    plain 7 outcome.Unknown bytes x fits e refl (tt, tt)
detail_takes (suc (suc (suc (suc (suc (suc (suc (suc zero)))))))) bytes x fits e =
    let a = next law16 bytes _ x fits e in
    let b = next law64 a.0.1 _ x a.1.rest_fits a.3 in
    let t = then bytes _ a.0.1 _ b.0.1 a.1 b.1 in
    subst (λ (y : Outcome × List ℕ). Told 8 bytes y) (same_Some (outcome.Purge a.0.0 b.0.0, b.0.1) x b.3)
    (_, refl, t, ((a.2, b.2), tt))
detail_takes (suc (suc (suc (suc (suc (suc (suc (suc (suc zero))))))))) bytes x fits e =
    let a = next law64 bytes _ x fits e in
    subst (λ (y : Outcome × List ℕ). Told 9 bytes y) (same_Some (outcome.Old a.0.0, a.0.1) x a.3)
    (_, refl, a.1, (a.2, tt))
detail_takes (suc (suc (suc (suc (suc (suc (suc (suc (suc (suc zero)))))))))) bytes x fits e =
    let a = next long_law bytes _ x fits e in
    let is : (outcome.Repeat a.0.0, a.0.1) ≡ x = same_Some (outcome.Repeat a.0.0, a.0.1) x a.3 in
    subst (λ (y : Outcome × List ℕ). Told 10 bytes y) is (_, refl, a.1, (a.2.1, a.2.0))
detail_takes (suc (suc (suc (suc (suc (suc (suc (suc (suc (suc (suc zero))))))))))) bytes x fits e =
    plain 11 outcome.Format bytes x fits e refl (tt, tt)
detail_takes (suc (suc (suc (suc (suc (suc (suc (suc (suc (suc (suc (suc n)))))))))))) bytes x fits e = absurd cc

outcome_again : (o : Outcome) (rest : List ℕ) → IsGoodOutcome o → outcome_at (outcome_text o ++ rest) ≡ Some (o, rest)
unfolding outcome_at detail_at seq_full_at
outcome_again outcome.Done rest fits = refl
outcome_again (outcome.Verify call fsa found) rest fits =
    let regrouped : outcome_text (outcome.Verify call fsa found) ++ rest ≡ 1 ∷
    (be32 call ++ (be16 fsa ++ (long_text found ++ rest))) =
    ap (λ (t : List ℕ). 1 ∷ t) (join3 (be32 call) (be16 fsa) (long_text found) rest) in
    ap outcome_at regrouped ∙ rw (
      law32.again call (be16 fsa ++ (long_text found ++ rest)) fits.0.0,
      law16.again fsa (long_text found ++ rest) fits.0.1,
      long_law.again found rest (fits.1, fits.0.2),
    ) refl
outcome_again (outcome.Roll code) rest fits = rw (law16.again code rest fits.0) refl
outcome_again (outcome.SeqFull set begin end n) rest fits =
    let regrouped : outcome_text (outcome.SeqFull set begin end n) ++ rest ≡ 3 ∷
    (be16 set ++ (be64 begin ++ (be64 end ++ (be64 n ++ rest)))) = simp append_assoc in
    ap outcome_at regrouped ∙ rw (
      law16.again set (be64 begin ++ (be64 end ++ (be64 n ++ rest))) fits.0.0,
      law64.again begin (be64 end ++ (be64 n ++ rest)) fits.0.1,
      law64.again end (be64 n ++ rest) fits.0.2,
      law64.again n rest fits.0.3,
    ) refl
outcome_again (outcome.Deadlock cycle) rest fits = rw (short_law.again cycle rest (fits.1, fits.0)) refl
outcome_again outcome.Device rest fits = refl
outcome_again outcome.Memory rest fits = refl
outcome_again outcome.Unknown rest fits = refl
outcome_again (outcome.Purge set n) rest fits =
    let regrouped : outcome_text (outcome.Purge set n) ++ rest ≡ 8 ∷ (be16 set ++ (be64 n ++ rest)) =
    simp append_assoc in
    ap outcome_at regrouped ∙ rw (law16.again set (be64 n ++ rest) fits.0.0, law64.again n rest fits.0.1) refl
outcome_again (outcome.Old last) rest fits = rw (law64.again last rest fits.0) refl
outcome_again (outcome.Repeat line) rest fits = rw (long_law.again line rest (fits.1, fits.0)) refl
outcome_again outcome.Format rest fits = refl

outcome_takes : (bytes : List ℕ) (x : Outcome × List ℕ) → IsBytes bytes → outcome_at bytes ≡ Some x
    → Takes bytes (outcome_text x.0) x.1 × IsGoodOutcome x.0
unfolding outcome_at
outcome_takes bytes x fits e =
    let a = next law8 bytes _ x fits e in
    let b = detail_takes a.0.0 a.0.1 x a.1.rest_fits a.3 in
    let t = then bytes (a.0.0 ∷ []) a.0.1 b.0 x.1 a.1 b.2 in
    (record { parts = rw b.1 t.parts; rest_fits = t.rest_fits }, b.3)

pub outcome_law : Lawful Outcome outcome_text outcome_at IsGoodOutcome
outcome_law = record { takes = outcome_takes; again = outcome_again }

-- ---- items

-- an item whose numbers are of their types and whose lengths fit
abbrev pub IsGoodItem : Item → Type 0
IsGoodItem item = IsItem item × FitsItem item

-- a text of one byte or more, behind its length in two bytes
abbrev IsSomeShorter : List ℕ → Type 0
IsSomeShorter bytes = (1 ≤ length bytes) × IsShorter (2 ^ 16) bytes

positive : (n : ℕ) → (n ≡ 0 → ⊥) → 1 ≤ n
positive zero some = absurd (some refl)
positive (suc n) some = omega arith

some_long_law : Lawful (List ℕ) long_text some_long_at IsSomeShorter
unfolding some_long_at
some_long_law = record {
  takes = λ bytes x fits e.
      let a = next long_law bytes _ x fits e in
      let g = guard (eqb (length a.0.0) 0) a.0 x a.3 in
      let some : 1 ≤ length a.0.0 = positive (length a.0.0) (eqb-false (length a.0.0) 0 g.0) in
      subst (λ (y : List ℕ × List ℕ). Takes bytes (long_text y.0) y.1 × IsSomeShorter y.0) g.1 (a.1, (some, a.2));
  again = λ text rest fits.
      let some : eqb (length text) 0 ≡ false = ne_eqb (length text) 0 (λ is. omega (arith, is, fits.0)) in
      rw (long_law.again text rest fits.1, some) refl;
}

kind_takes : (kind : ℕ) (bytes : List ℕ) (x : Item × List ℕ) → IsBytes bytes → kind_at kind bytes ≡ Some x
    → (text : List ℕ) × (item_text x.0 ≡ kind ∷ text) × Takes bytes text x.1 × IsGoodItem x.0
unfolding kind_at
kind_takes zero bytes x fits e = absurd cc
kind_takes (suc zero) bytes x fits e =
    let a = next law8 bytes _ x fits e in
    let b = next short_law a.0.1 _ x a.1.rest_fits a.3 in
    let c = next long_law b.0.1 _ x b.1.rest_fits b.3 in
    let t = then bytes _ b.0.1 _ c.0.1 (then bytes _ a.0.1 _ b.0.1 a.1 b.1) c.1 in
    subst (λ (y : Item × List ℕ). (text : List ℕ) × (item_text y.0 ≡ 1 ∷ text) × Takes bytes text y.1 × IsGoodItem y.0)
    (same_Some (Segment a.0.0 b.0.0 c.0.0, c.0.1) x c.3) (_, refl, t, ((a.2, b.2.1, c.2.1), (b.2.0, c.2.0)))
kind_takes (suc (suc zero)) bytes x fits e =
    let a = next law16 bytes _ x fits e in
    let b = next law64 a.0.1 _ x a.1.rest_fits a.3 in
    let c = next long_law b.0.1 _ x b.1.rest_fits b.3 in
    let t = then bytes _ b.0.1 _ c.0.1 (then bytes _ a.0.1 _ b.0.1 a.1 b.1) c.1 in
    subst (λ (y : Item × List ℕ). (text : List ℕ) × (item_text y.0 ≡ 2 ∷ text) × Takes bytes text y.1 × IsGoodItem y.0)
    (same_Some (Image a.0.0 b.0.0 c.0.0, c.0.1) x c.3) (_, refl, t, ((a.2, b.2, c.2.1), c.2.0))
kind_takes (suc (suc (suc zero))) bytes x fits e =
    let a = next law16 bytes _ x fits e in
    let b = next law64 a.0.1 _ x a.1.rest_fits a.3 in
    let c = next law16 b.0.1 _ x b.1.rest_fits b.3 in
    let d = next some_long_law c.0.1 _ x c.1.rest_fits c.3 in
    let t = then bytes _ c.0.1 _ d.0.1 (then bytes _ b.0.1 _ c.0.1 (then bytes _ a.0.1 _ b.0.1 a.1 b.1) c.1) d.1 in
    let good : IsGoodItem (Range a.0.0 b.0.0 c.0.0 d.0.0) = ((a.2, b.2, c.2, d.2.1.1), (d.2.0, d.2.1.0)) in
    subst (λ (y : Item × List ℕ). (text : List ℕ) × (item_text y.0 ≡ 3 ∷ text) × Takes bytes text y.1 × IsGoodItem y.0)
    (same_Some (Range a.0.0 b.0.0 c.0.0 d.0.0, d.0.1) x d.3) (_, refl, t, good)
kind_takes (suc (suc (suc (suc n)))) bytes x fits e = absurd cc

item_again : (i : Item) (rest : List ℕ) → IsGoodItem i → item_at (item_text i ++ rest) ≡ Some (i, rest)
unfolding item_at kind_at
item_again (Segment msdb key bytes) rest fits =
    let regrouped : item_text (Segment msdb key bytes) ++ rest ≡ 1 ∷ msdb ∷
    (short_text key ++ (long_text bytes ++ rest)) =
    ap (λ (t : List ℕ). 1 ∷ msdb ∷ t) (append_assoc (short_text key) (long_text bytes) rest) in
    ap item_at regrouped ∙ rw (
      short_law.again key (long_text bytes ++ rest) (fits.1.0, fits.0.1),
      long_law.again bytes rest (fits.1.1, fits.0.2),
    ) refl
item_again (Image set ci bytes) rest fits =
    let regrouped : item_text (Image set ci bytes) ++ rest ≡ 2 ∷ (be16 set ++ (be64 ci ++ (long_text bytes ++ rest))) =
    ap (λ (t : List ℕ). 2 ∷ t) (join3 (be16 set) (be64 ci) (long_text bytes) rest) in
    ap item_at regrouped ∙ rw (
      law16.again set (be64 ci ++ (long_text bytes ++ rest)) fits.0.0,
      law64.again ci (long_text bytes ++ rest) fits.0.1,
      long_law.again bytes rest (fits.1, fits.0.2),
    ) refl
item_again (Range set ci at bytes) rest fits =
    let behind_place = long_text bytes ++ rest in
    let behind_ci = be16 at ++ behind_place in
    let behind_set = be64 ci ++ behind_ci in
    let regrouped : item_text (Range set ci at bytes) ++ rest ≡ 3 ∷ (be16 set ++ behind_set) =
    ap (λ (t : List ℕ). 3 ∷ t) (join4 (be16 set) (be64 ci) (be16 at) (long_text bytes) rest) in
    ap item_at regrouped
    ∙ rw (
      law16.again set behind_set fits.0.0,
      law64.again ci behind_ci fits.0.1,
      law16.again at behind_place fits.0.2,
      some_long_law.again bytes rest (fits.1.0, (fits.1.1, fits.0.3)),
    ) refl

item_takes : (bytes : List ℕ) (x : Item × List ℕ) → IsBytes bytes → item_at bytes ≡ Some x
    → Takes bytes (item_text x.0) x.1 × IsGoodItem x.0
unfolding item_at
item_takes bytes x fits e =
    let a = next law8 bytes _ x fits e in
    let b = kind_takes a.0.0 a.0.1 x a.1.rest_fits a.3 in
    let t = then bytes (a.0.0 ∷ []) a.0.1 b.0 x.1 a.1 b.2 in
    (record { parts = rw b.1 t.parts; rest_fits = t.rest_fits }, b.3)

pub item_law : Lawful Item item_text item_at IsGoodItem
item_law = record { takes = item_takes; again = item_again }

-- ---- notes and lists of items

abbrev pub AreNotes : List ℕ → Type 0
AreNotes notes = (length notes < 2 ^ 32) × AllByRecursion (λ n. n < 2 ^ 64) notes

abbrev pub AreItems : List Item → Type 0
AreItems items = (length items < 2 ^ 32) × AllByRecursion IsGoodItem items

pub notes_law : Lawful (List ℕ) notes_text (counted_at (number_at w64)) AreNotes
notes_law = counted_law ℕ be64 (number_at w64) (λ n. n < 2 ^ 64) law64

pub items_law : Lawful (List Item) items_text (counted_at item_at) AreItems
items_law = counted_law Item item_text item_at IsGoodItem item_law

-- each item is good where each is of its type and each fits
good_items : (items : List Item) → AllByRecursion IsItem items → AllByRecursion FitsItem items
    → AllByRecursion IsGoodItem items
good_items [] p q = tt
good_items (item ∷ items) p q = ((p.0, q.0), good_items items p.1 q.1)

are_items : (items : List Item) → AllByRecursion IsGoodItem items → AllByRecursion IsItem items
are_items [] p = tt
are_items (item ∷ items) p = (p.0.0, are_items items p.1)

fit_items : (items : List Item) → AllByRecursion IsGoodItem items → AllByRecursion FitsItem items
fit_items [] p = tt
fit_items (item ∷ items) p = (p.0.1, fit_items items p.1)

-- ---- entries

-- an entry but for the length of its whole and the rules
record IsRest (e : Entry) : Type 0 where
  pub from : e.from < 2 ^ 64
  pub outcome : IsGoodOutcome e.outcome
  pub line : IsShorter (2 ^ 16) e.line
  pub reply : IsShorter (2 ^ 16) e.reply
  pub notes : AreNotes e.notes
  pub items : AreItems e.items

rest_takes : (bytes : List ℕ) (x : Entry × List ℕ) → IsBytes bytes → rest_at bytes ≡ Some x
    → Takes bytes (rest_text x.0) x.1 × IsRest x.0
unfolding rest_at
rest_takes bytes x fits e =
    let a = next law64 bytes _ x fits e in
    let b = next outcome_law a.0.1 _ x a.1.rest_fits a.3 in
    let c = next long_law b.0.1 _ x b.1.rest_fits b.3 in
    let d = next long_law c.0.1 _ x c.1.rest_fits c.3 in
    let f = next notes_law d.0.1 _ x d.1.rest_fits d.3 in
    let g = next items_law f.0.1 _ x f.1.rest_fits f.3 in
    let t1 = then bytes _ a.0.1 _ b.0.1 a.1 b.1 in
    let t2 = then bytes _ b.0.1 _ c.0.1 t1 c.1 in
    let t3 = then bytes _ c.0.1 _ d.0.1 t2 d.1 in
    let t4 = then bytes _ d.0.1 _ f.0.1 t3 f.1 in
    let t5 = then bytes _ f.0.1 _ g.0.1 t4 g.1 in
    let made : Entry × List ℕ = (
      record {
        from = a.0.0;
        outcome = b.0.0;
        line = c.0.0;
        reply = d.0.0;
        notes =
            f.0.0;
        items = g.0.0;
      },
      g.0.1,
    ) in
    subst (λ (y : Entry × List ℕ). Takes bytes (rest_text y.0) y.1 × IsRest y.0) (same_Some made x g.3)
    (t5, record { from = a.2; outcome = b.2; line = c.2; reply = d.2; notes = f.2; items = g.2 })

rest_again : (e : Entry) (more : List ℕ) → IsRest e → rest_at (rest_text e ++ more) ≡ Some (e, more)
unfolding rest_at
rest_again e more fits =
    ap rest_at (join6 (be64 e.from) (outcome_text e.outcome) (long_text e.line) (long_text e.reply) (notes_text e.notes)
    (items_text e.items) more)
    ∙ rw (
      law64.again e.from _ fits.from,
      outcome_law.again e.outcome _ fits.outcome,
      long_law.again e.line _ fits.line,
      long_law.again e.reply _ fits.reply,
      notes_law.again e.notes _ fits.notes,
      items_law.again e.items more fits.items,
    ) refl

spelled : (e : Entry) → IsRest e → length (rest_text e) < 2 ^ 64 → keeps_rules e ≡ true → HasSpelling e
spelled e r whole rules = record {
  is_entry = record {
    from = r.from;
    outcome = r.outcome.0;
    line = r.line.1;
    reply = r.reply.1;
    notes =
        r.notes.1;
    items = are_items e.items r.items.1;
  };
  fits = record {
    outcome = r.outcome.1;
    line = r.line.0;
    reply = r.reply.0;
    notes = r.notes.0;
    items =
        r.items.0;
    each_item = fit_items e.items r.items.1;
  };
  whole = whole;
  rules = KeepsRules-from e rules;
}

is_rest : (e : Entry) → HasSpelling e → IsRest e
is_rest e h = record {
  from = h.is_entry.from;
  outcome = (h.is_entry.outcome, h.fits.outcome);
  line = (h.fits.line, h.is_entry.line);
  reply = (h.fits.reply, h.is_entry.reply);
  notes = (h.fits.notes, h.is_entry.notes);
  items = (h.fits.items, good_items e.items h.is_entry.items h.fits.each_item);
}

entry_takes : (bytes : List ℕ) (x : Entry × List ℕ) → IsBytes bytes → entry_at bytes ≡ Some x
    → Takes bytes (entry_text x.0) x.1 × HasSpelling x.0
unfolding entry_at whole_at
entry_takes bytes x fits e =
    let a = next law64 bytes _ x fits e in
    let b = some_step (part_at a.0.0 a.0.1) _ x a.3 in
    let p = part_takes a.0.0 a.0.1 b.0 a.1.rest_fits b.1 in
    let c = some_step (whole_at b.0.0) _ x b.2 in
    let d = some_step (rest_at b.0.0) _ c.0 c.1 in
    let g = cond_some (eqb (length d.0.1) 0 && keeps_rules d.0.0) d.0.0 c.0 d.2 in
    let tests = and_parts (eqb (length d.0.1) 0) (keeps_rules d.0.0) g.0 in
    let r = rest_takes b.0.0 d.0 p.2 d.1 in
    let nothing : d.0.1 ≡ [] = nil_from_length d.0.1 (eqb-true _ _ tests.0) in
    let whole : b.0.0 ≡ rest_text d.0.0 = r.0.parts ∙ ap (λ (t : List ℕ). rest_text d.0.0 ++ t) nothing ∙ append-nil
    (rest_text d.0.0) in
    let len : a.0.0 ≡ length (rest_text d.0.0) = sym p.1 ∙ ap length whole in
    let t = then bytes (be64 a.0.0) a.0.1 b.0.0 b.0.1 a.1 p.0 in
    let told : Takes bytes (entry_text d.0.0) b.0.1 = record {
      parts = t.parts ∙ ap (λ (n : ℕ). (be64 n ++ b.0.0) ++ b.0.1) len ∙ ap
          (λ (w : List ℕ). (be64 (length (rest_text d.0.0)) ++ w) ++ b.0.1) whole;
      rest_fits = t.rest_fits;
    } in
    let ok : HasSpelling d.0.0 = spelled d.0.0 r.1 (subst (λ (n : ℕ). n < 2 ^ 64) len a.2) tests.1 in
    subst (λ (y : Entry × List ℕ). Takes bytes (entry_text y.0) y.1 × HasSpelling y.0)
    (ap (λ (v : Entry). (v, b.0.1)) g.1 ∙ same_Some (c.0, b.0.1) x c.2) (told, ok)

entry_again : (e : Entry) (more : List ℕ) → HasSpelling e → entry_at (entry_text e ++ more) ≡ Some (e, more)
unfolding entry_at whole_at
entry_again e more fits =
    let alone : rest_at (rest_text e) ≡ Some (e, []) =
    ap rest_at (sym (append-nil (rest_text e))) ∙ rest_again e [] (is_rest e fits) in
    let rules : keeps_rules e ≡ true = KeepsRules-to e fits.rules in
    ap entry_at (append_assoc (be64 (length (rest_text e))) (rest_text e) more)
    ∙ rw (
      law64.again (length (rest_text e)) (rest_text e ++ more) fits.whole,
      part_again (rest_text e) more (length (rest_text e)) refl,
      alone,
      rules,
    ) refl

pub entry_law : Lawful Entry entry_text entry_at HasSpelling
entry_law = record { takes = entry_takes; again = entry_again }
