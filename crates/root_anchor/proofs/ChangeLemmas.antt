-- Lists of which one has one segment more don't differ in one segment.
use Rattle.std.proofs.Common.{◌≡◌, ◌≢◌, ℕ, List, length, slice_get, Some, refl, ap, subst, arith}
use Rattle.fp_model.specs.declared.database.Node.{Node, out-Node}
use Rattle.fp_model.specs.declared.database.Root.{Root}
use Rattle.root_changes.specs.Differing.{DifferAt, NodesDiffer, own, lower, RowDiffers, HaveSameOwn, RootDiffers, own_root, lower_root, RootsDiffer}
use Rattle.root_changes.specs.Gaining.{RowGains, new_segment, lower_segment, RootsGain, new_root, below_root}
use Rattle.root_changes.specs.declared.gaining.Gain.{Gain}
use Rattle.root_changes.specs.declared.gaining.Gain.TheVariants.{New, Within, Not}
use Rattle.root_changes.specs.Telling.{TellsRootGain}
use Rattle.root_changes.proofs.ComparingLemmas.{one_place, same_lengths, same_there, nodes_apart, rows_apart, roots_apart}
use Rattle.root_changes.proofs.GainingLemmas.{more_lengths}

record SameThere {A : Type 0} (x y a b : A) : Type 0 where
  first : a ≡ x
  second : b ≡ y

same_differ : {A : Type 0} {xs ys : List A} {k j : ℕ} {x y a b : A} → DifferAt xs ys k x y → DifferAt xs ys j a b
    → a ≢ b → SameThere x y a b
same_differ {xs = xs} {ys = ys} {a = a} {b = b} d e n =
    let p = one_place d e.first e.second n in
    let f : slice_get xs _ ≡ Some a = subst (λ i. slice_get xs i ≡ Some a) p e.first in
    let s : slice_get ys _ ≡ Some b = subst (λ i. slice_get ys i ≡ Some b) p e.second in
    let h = d.first in
    let g = d.second in
    record { first = (cc); second = (cc) }

-- rows below two segments that are the same themselves
record LowerDiffers (rows others : List (List Node)) : Type 0 where
  number : ℕ
  row : List Node
  other : List Node
  at : DifferAt rows others number row other
  differ : RowDiffers row other

lower_differs : {x y : Node} → (out-Node x).bytes ≡ (out-Node y).bytes → NodesDiffer x y
    → LowerDiffers (out-Node x).children (out-Node y).children
lower_differs e (own n c) = absurd (n e)
lower_differs e (lower {j = j} {k = k} {row = row} {other = other} {n = n} {m = m} b at in_row d) = record {
  number = j;
  row = row;
  other = other;
  at = at;
  differ = record { number = k; differ = record { x = n; y = m; at = in_row; differ = d } };
}

lower_root_differs : {x y : Root} → HaveSameOwn x y → RootDiffers x y → LowerDiffers x.children y.children
lower_root_differs e (own_root n c) = absurd (n e)
lower_root_differs e (lower_root {j = j} {k = k} {row = row} {other = other} {n = n} {m = m} b at in_row d) = record {
  number = j;
  row = row;
  other = other;
  at = at;
  differ = record { number = k; differ = record { x = n; y = m; at = in_row; differ = d } };
}

-- the row that differs is the one that gains
same_row : {rows others : List (List Node)} {j : ℕ} {row other : List Node} → DifferAt rows others j row other
    → LowerDiffers rows others → RowDiffers row other
same_row d l =
    let s = same_differ d l.at (rows_apart l.row l.other l.differ) in
    subst (λ u. RowDiffers u _) s.first (subst (λ u. RowDiffers l.row u) s.second l.differ)

rows_exclusive : (row other : List Node) → RowGains row other → RowDiffers row other → ⊥
rows_exclusive row other (new_segment {k = k} {n = n} m bare) d =
    absurd (omega (
      arith,
      more_lengths row other k n m,
      same_lengths row other d.number d.differ.x d.differ.y d.differ.at,
    ))
rows_exclusive row other (lower_segment {lower = low} {more = more} {x = x} {y = y} at same below gains) d =
    let s = same_differ at d.differ.at (nodes_apart d.differ.x d.differ.y d.differ.differ) in
    let n : NodesDiffer x y = subst (λ u. NodesDiffer u y) s.first
    (subst (λ u. NodesDiffer d.differ.x u) s.second d.differ.differ) in
    rows_exclusive low more gains (same_row below (lower_differs same n))

pub roots_exclusive : (before after : List Root) → RootsGain before after → RootsDiffer before after → ⊥
roots_exclusive before after (new_root {k = k} {root = root} m bare) d =
    absurd (omega (
      arith,
      more_lengths before after k root m,
      same_lengths before after d.number d.differ.x d.differ.y d.differ.at,
    ))
roots_exclusive before after (below_root {lower = low} {more = more} {x = x} {y = y} at same below gains) d =
    let s = same_differ at d.differ.at (roots_apart d.differ.x d.differ.y d.differ.differ) in
    let n : RootDiffers x y = subst (λ u. RootDiffers u y) s.first
    (subst (λ u. RootDiffers d.differ.x u) s.second d.differ.differ) in
    rows_exclusive low more gains (same_row below (lower_root_differs same n))

-- nor are they the same
gain_rows_apart : (row other : List Node) → RowGains row other → row ≡ other → ⊥
gain_rows_apart row other (new_segment {k = k} {n = n} m bare) e =
    absurd (omega (arith, more_lengths row other k n m, ap length e))
gain_rows_apart row other (lower_segment {lower = low} {more = more} {x = x} {y = y} at same below gains) e =
    gain_rows_apart low more gains (same_there below (ap (λ (n : Node). (out-Node n).children) (same_there at e)))

pub gain_apart : (before after : List Root) → RootsGain before after → before ≡ after → ⊥
gain_apart before after (new_root {k = k} {root = root} m bare) e =
    absurd (omega (arith, more_lengths before after k root m, ap length e))
gain_apart before after (below_root {lower = low} {more = more} {x = x} {y = y} at same below gains) e =
    gain_rows_apart low more gains (same_there below (ap (λ (r : Root). r.children) (same_there at e)))

-- what a comparison tells is so
pub gain_told : (roots others : List Root) (gain : Gain) → TellsRootGain roots others gain → gain ≢ Not
    → RootsGain roots others
gain_told roots others Not t n = absurd (n refl)
gain_told roots others (New k) t n = let h = t.new k refl in new_root h.more h.bare
gain_told roots others (Within k j) t n =
    let w = t.within k j refl in below_root w.at w.own w.below.at w.below.gains
