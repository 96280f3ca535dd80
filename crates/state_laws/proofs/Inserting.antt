-- Sequential inserts at one anchor, and the other anchors of its area.
use Rattle.std.proofs.Common.{◌≡◌, ℕ, ◌+◌, ◌≤◌, List, [], ◌∷◌, map, Some, refl, ◌∙◌, ap, Bool, true, false, ◌&&◌, nat_le, nat_lt, arith}
use Rattle.std.specs.Prelude.{if◌then◌else◌}
use Rattle.std.specs.List.{AllByRecursion}
use Rattle.std.specs.Option.{option_map_or}
use Rattle.fp_model.specs.declared.database.AreaEnds.{AreaEnds}
use Rattle.fp_model.specs.declared.database.Root.{Root}
use Rattle.fp_model.specs.declared.database.SeqItem.{SeqItem}
use Rattle.fp_model.specs.declared.definitions.DedbDef.{DedbDef}
use Rattle.fp_model.specs.Commit.{with_newest}
use Rattle.fp_model.specs.Order.{root_key, sequential_type}
use Rattle.fp_model.specs.Shape.{are_newest_first, has_length, have_lengths, is_anchor}
use Rattle.fp_model.specs.State.{ascend}
use Rattle.fp_model.specs.Texts.{same_text}
use Rattle.state_laws.specs.Inserts.{ending_at, with_serial}
use Rattle.state_laws.proofs.Purging.{later_end}
use Rattle.state_laws.proofs.Roots.{from_good, of_parts, passes, to_good, whole}
use Rattle.std.proofs.lemmas.Bool.{and_from}
use Rattle.plain_laws.proofs.Numbers.{is_le, lt_true}

module _ (def : DedbDef) (anchor : ℕ) (ends : AreaEnds) (end : ℕ) (later : ends.end ≤ end) where
  -- a root stays in shape where the end moves on
  root_later : (root : Root) → passes def anchor ends root ≡ true → passes def anchor (ending_at end ends) root ≡ true
  root_later root e =
      let k = whole def anchor ends root e in
      of_parts def anchor (ending_at end ends) root
      (record {
        long = k.long;
        rows = k.rows;
        newest =
            later_end ends.begin ends.end end root.seqs later k.newest;
        lengths = k.lengths;
        here = k.here;
      })

  roots_later : (roots : List Root) → AllByRecursion (λ root. passes def anchor ends root ≡ true) roots
      → AllByRecursion (λ root. passes def anchor (ending_at end ends) root ≡ true) roots
  roots_later [] all = tt
  roots_later (root ∷ roots) all = (root_later root all.0, roots_later roots all.1)

  pub anchor_later : (roots : List Root) → is_anchor def anchor ends roots ≡ true
      → is_anchor def anchor (ending_at end ends) roots ≡ true
  anchor_later roots e = let good = to_good def anchor ends roots e in
      from_good def anchor (ending_at end ends) roots (roots_later roots good.0, good.1)

module _ (def : DedbDef) (anchor : ℕ) (ends : AreaEnds) (key bytes : List ℕ) (type : ℕ) (order : ends.begin ≤ ends.end)
    (kind : sequential_type def.segments ≡ Some type) (long : has_length def.segments type bytes ≡ true) where
  abbrev item : SeqItem
  item = record { serial = ends.end; bytes = bytes }

  abbrev last : AreaEnds
  last = ending_at (ends.end + 1) ends

  its_length : option_map_or (λ t. has_length def.segments t bytes) (sequential_type def.segments) false ≡ true
  its_length = rw kind long

  root_with : (root : Root) → passes def anchor ends root ≡ true → passes def anchor last (with_newest item root) ≡ true
  root_with root e =
      let k = whole def anchor ends root e in
      of_parts def anchor last (with_newest item root) (record {
        long = k.long;
        rows = k.rows;
        newest = and_from (nat_le ends.begin ends.end && nat_lt ends.end (ends.end + 1))
            (are_newest_first ends.begin ends.end root.seqs)
            (and_from (nat_le ends.begin ends.end) (nat_lt ends.end (ends.end + 1)) (is_le ends.begin ends.end order)
            (lt_true ends.end (ends.end + 1) (omega arith))) k.newest;
        lengths = and_from (option_map_or (λ t. has_length def.segments t bytes) (sequential_type def.segments) false)
            (have_lengths def.segments root.seqs) its_length k.lengths;
        here = k.here;
      })

  roots_with : (roots : List Root) → AllByRecursion (λ root. passes def anchor ends root ≡ true) roots
      → AllByRecursion (λ root. passes def anchor last root ≡ true) (with_serial def ends.end key bytes roots)
  roots_with [] all = tt
  roots_with (root ∷ roots) all = (by (same_text (root_key def.segments root) key), roots_with roots all.1)
    where
      by : (b : Bool) → passes def anchor last (if b then with_newest item root else root) ≡ true
      by true = root_with root all.0
      by false = root_later def anchor ends (ends.end + 1) (omega arith) root all.0

  keys_stay : (roots : List Root) → map (root_key def.segments) (with_serial def ends.end key bytes roots) ≡ map
      (root_key def.segments) roots
  keys_stay [] = refl
  keys_stay (root ∷ roots) = ap (λ k. k ∷ map (root_key def.segments) (with_serial def ends.end key bytes roots))
      (by (same_text (root_key def.segments root) key)) ∙ ap (λ ks. root_key def.segments root ∷ ks) (keys_stay roots)
    where
      by : (b : Bool) → root_key def.segments (if b then with_newest item root else root) ≡ root_key def.segments root
      by true = refl
      by false = refl

  pub anchor_with : (roots : List Root) → is_anchor def anchor ends roots ≡ true
      → is_anchor def anchor last (with_serial def ends.end key bytes roots) ≡ true
  anchor_with roots e =
      let good = to_good def anchor ends roots e in
      from_good def anchor last (with_serial def ends.end key bytes roots)
      (roots_with roots good.0, ap ascend (keys_stay roots) ∙ good.1)
