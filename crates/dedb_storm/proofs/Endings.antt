-- Sequential dependents at a root of an anchor: one more in front, or the oldest gone.
use Rattle.std.proofs.Common.{◌≡◌, ◌∙◌, ◌++◌, ◌∷◌, ℕ, ◌^◌, ◌<◌, List, [], Some, refl, ap, Bool, true, false, ◌&&◌, nat_le, nat_lt, slice_get, slice_set, arith}
use Rattle.std.specs.List.{list_all}
use Rattle.std.specs.Option.{option_map_or}
use Rattle.fp_model.specs.declared.database.Root.{Root}
use Rattle.fp_model.specs.declared.database.SeqItem.{SeqItem}
use Rattle.fp_model.specs.declared.definitions.DedbDef.{DedbDef}
use Rattle.fp_model.specs.Commit.{with_newest}
use Rattle.fp_model.specs.Order.{root_key, sequential_type}
use Rattle.fp_model.specs.Shape.{are_newest_first, has_length, have_lengths, is_anchor}
use Rattle.fp_model.specs.State.{ascend}
use Rattle.dli_tree.specs.InOrder.{any_ends}
use Rattle.state_laws.proofs.Lists.{all_at}
use Rattle.state_laws.proofs.Roots.{from_good, of_parts, passes, to_good, whole}
use Rattle.plain_laws.proofs.Alls.{all_set}
use Rattle.std.proofs.lemmas.Bool.{and_from}
use Rattle.plain_laws.proofs.Truths.{first_of_both, second_of_both}
use Rattle.plain_laws.proofs.Numbers.{is_le, lt_true}
use Rattle.plain_laws.proofs.Places.{keys_set}

-- ---- one root in place of another

module _ (def : DedbDef) (anchor : ℕ) where
  -- one of the same key that passes as the one before did
  pub in_place : (roots : List Root) (n : ℕ) (old new : Root) → slice_get roots n ≡ Some old
      → root_key def.segments new ≡ root_key def.segments old
      → (passes def anchor any_ends old ≡ true → passes def anchor any_ends new ≡ true)
      → is_anchor def anchor any_ends roots ≡ true → is_anchor def anchor any_ends (slice_set roots n new) ≡ true
  in_place roots n old new at same keeps e =
      let good = to_good def anchor any_ends roots e in
      let P : Root → Type 0 = λ root. passes def anchor any_ends root ≡ true in
      from_good def anchor any_ends (slice_set roots n new) (
        all_set P roots n new good.0 (keeps (all_at P roots n old good.0 at)),
        ap ascend (keys_set (root_key def.segments) roots n old new at same) ∙ good.1,
      )

  -- ---- one more

  pub passes_with : (root : Root) (item : SeqItem)
      → (are_newest_first 0 (2 ^ 64) root.seqs ≡ true → are_newest_first 0 item.serial root.seqs ≡ true)
      → option_map_or (λ type. has_length def.segments type item.bytes) (sequential_type def.segments) false ≡ true
      → item.serial < 2 ^ 64
      → passes def anchor any_ends root ≡ true → passes def anchor any_ends (with_newest item root) ≡ true
  passes_with root item newer long less e =
      let k = whole def anchor any_ends root e in
      of_parts def anchor any_ends (with_newest item root) (record {
        long = k.long;
        rows = k.rows;
        newest = and_from (nat_le 0 item.serial && nat_lt item.serial (2 ^ 64))
            (are_newest_first 0 item.serial root.seqs)
            (and_from (nat_le 0 item.serial) (nat_lt item.serial (2 ^ 64)) (is_le 0 item.serial (omega arith))
            (lt_true item.serial (2 ^ 64) less)) (newer k.newest);
        lengths = and_from
            (option_map_or (λ type. has_length def.segments type item.bytes) (sequential_type def.segments) false)
            (have_lengths def.segments root.seqs) long k.lengths;
        here = k.here;
      })

  -- ---- the oldest gone

  newest_front : (begin end : ℕ) (items gone : List SeqItem) → are_newest_first begin end (items ++ gone) ≡ true
      → are_newest_first begin end items ≡ true
  newest_front begin end [] gone e = refl
  newest_front begin end (item ∷ items) gone e =
      let front : Bool = nat_le begin item.serial && nat_lt item.serial end in
      and_from front (are_newest_first begin item.serial items)
      (first_of_both front (are_newest_first begin item.serial (items ++ gone)) e)
      (newest_front begin item.serial items gone
      (second_of_both front (are_newest_first begin item.serial (items ++ gone)) e))

  all_front : (p : SeqItem → Bool) (items gone : List SeqItem) → list_all p (items ++ gone) ≡ true
      → list_all p items ≡ true
  all_front p [] gone e = refl
  all_front p (item ∷ items) gone e =
      and_from (p item) (list_all p items) (first_of_both (p item) (list_all p (items ++ gone)) e)
      (all_front p items gone (second_of_both (p item) (list_all p (items ++ gone)) e))

  pub passes_without : (root : Root) (gone : List SeqItem)
      → passes def anchor any_ends (record root { seqs = root.seqs ++ gone }) ≡ true
      → passes def anchor any_ends root ≡ true
  passes_without root gone e =
      let k = whole def anchor any_ends (record root { seqs = root.seqs ++ gone }) e in
      of_parts def anchor any_ends root (record {
        long = k.long;
        rows = k.rows;
        newest = newest_front 0 (2 ^ 64) root.seqs gone k.newest;
        lengths = all_front
            (λ item. option_map_or (λ type. has_length def.segments type item.bytes) (sequential_type def.segments)
            false) root.seqs gone k.lengths;
        here = k.here;
      })

-- those below an earlier one are below a later one
pub newer_head : (head : SeqItem) (others : List SeqItem) (serial : ℕ) → head.serial < serial
    → are_newest_first 0 (2 ^ 64) (head ∷ others) ≡ true → are_newest_first 0 serial (head ∷ others) ≡ true
newer_head head others serial less e =
    and_from (nat_le 0 head.serial && nat_lt head.serial serial) (are_newest_first 0 head.serial others)
    (and_from (nat_le 0 head.serial) (nat_lt head.serial serial) (is_le 0 head.serial (omega arith))
    (lt_true head.serial serial less))
    (second_of_both (nat_le 0 head.serial && nat_lt head.serial (2 ^ 64)) (are_newest_first 0 head.serial others) e)
