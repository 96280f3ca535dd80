-- The keys in the ordered set, as resources among others.
use Rattle.std.proofs.Common.{refl, ◌≡◌, List, [], ◌∷◌, map, Bool, true, false, ◌&&◌, ◌||◌, ◌==◌, ap, sym, ◌∙◌}
use Rattle.std.specs.List.{list_any}
use Rattle.std.specs.declared.cmp.Ordering.{Ordering}
use Rattle.std.specs.declared.cmp.Ordering.TheVariants.{Less, Equal, Greater}
use Rattle.std.specs.Ordering.{is_eq, match_ordering, nat_cmp}
use Rattle.std.specs.BTreeSet.{insert_key}
use Rattle.std.specs.BTreeMap.{is_at}
use Rattle.std.specs.Cmp.{tied_then}
use Rattle.std.specs.Cmp.Lexicographic.{slice_cmp}
use Rattle.fp_model.specs.declared.calls.Resource.{Resource}
use Rattle.fp_model.specs.declared.calls.Resource.TheVariants.{Segment, Anchor}
use Rattle.fp_model.specs.Texts.{same_text}
use Rattle.fp_model.specs.Waiting.{same_resource}
use Rattle.segment_keys.specs.Keys.{resource_of}
use Rattle.segment_keys.specs.Keys.{is_among}
use Rattle.segment_keys.specs.declared.keys.SegmentKey.{SegmentKey}
use Rattle.segment_keys.specs.contracts.keys.SegmentKeyOrd.TheImpl.{cmp-value}
use Rattle.plain_laws.proofs.Numbers.{number_flipped}
use Rattle.model_laws.proofs.Texts.{text-flipped, text_test}
use Rattle.plain_laws.proofs.Orderings.{number_test}
use Rattle.model_laws.proofs.Resources.{same_resources}

-- two keys are equal in order exactly where they are the same
level_is_same : (a b : SegmentKey) → is_at (cmp-value.it a) b ≡ same_resource (resource_of a) (resource_of b)
level_is_same a b =
    sym (tied_then (nat_cmp a.msdb b.msdb) (slice_cmp nat_cmp a.key.items b.key.items))
    ∙ ap (λ first. first && is_eq (slice_cmp nat_cmp a.key.items b.key.items)) (number_test a.msdb b.msdb)
    ∙ ap (λ second. (a.msdb == b.msdb) && second) (text_test a.key.items b.key.items)

-- the order of the two says nothing
flipped : (a b : Resource) → same_resource a b ≡ same_resource b a
flipped (Segment m k) (Segment n l) = ap (λ first. first && same_text k l) (number_flipped m n) ∙ ap
    (λ second. (n == m) && second) (text-flipped k l)
flipped (Segment m k) (Anchor d a) = refl
flipped (Anchor d a) (Segment m k) = refl
flipped (Anchor d a) (Anchor e b) = ap (λ first. first && (a == b)) (number_flipped d e) ∙ ap
    (λ second. (e == d) && second) (number_flipped a b)

-- a key stands in the set exactly where it is among its resources
pub among_is_contained : (keys : List SegmentKey) (key : SegmentKey)
    → list_any (is_at (cmp-value.it key)) keys ≡ is_among (map resource_of keys) (resource_of key)
among_is_contained [] key = refl
among_is_contained (x ∷ xs) key =
    ap (λ b. b || list_any (is_at (cmp-value.it key)) xs)
    (level_is_same key x ∙ flipped (resource_of key) (resource_of x))
    ∙ ap (λ b. same_resource (resource_of x) (resource_of key) || b) (among_is_contained xs key)

-- with a key put among others, a resource is among them exactly where it is that key or was among them
pub among-insert : (keys : List SegmentKey) (key : SegmentKey) (r : Resource)
    → is_among (map resource_of (insert_key cmp-value.it keys key)) r ≡
    (same_resource (resource_of key) r || is_among (map resource_of keys) r)
among-insert [] key r = refl
among-insert (x ∷ xs) key r = by (cmp-value.it key x) refl (among-insert xs key r)
  where
    swapped : (a b c d : Bool) → d ≡ (a || c) → (b || d) ≡ (a || (b || c))
    swapped true true c d e = refl
    swapped true false c d e = e
    swapped false true c d e = refl
    swapped false false c d e = e

    twice : (a b : Bool) → (a || b) ≡ (a || (a || b))
    twice true b = refl
    twice false b = refl

    by : (o : Ordering) → cmp-value.it key x ≡ o
        → is_among (map resource_of (insert_key cmp-value.it xs key)) r ≡
        (same_resource (resource_of key) r || is_among (map resource_of xs) r)
        → is_among (map resource_of (match_ordering o (key ∷ x ∷ xs) (x ∷ xs) (x ∷ insert_key cmp-value.it xs key))) r
        ≡ (same_resource (resource_of key) r || (same_resource (resource_of x) r || is_among (map resource_of xs) r))
    by Less is later = refl
    by Equal is later =
        let same : resource_of key ≡ resource_of x =
        same_resources (resource_of key) (resource_of x) (sym (level_is_same key x) ∙ ap is_eq is) in
        twice (same_resource (resource_of x) r) (is_among (map resource_of xs) r)
        ∙ ap (λ other. same_resource other r || (same_resource (resource_of x) r || is_among (map resource_of xs) r))
        (sym same)
    by Greater is later = swapped (same_resource (resource_of key) r) (same_resource (resource_of x) r)
        (is_among (map resource_of xs) r) _ later
