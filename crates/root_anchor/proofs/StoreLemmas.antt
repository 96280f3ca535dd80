-- What a store and a rewrite leave where they come to their end, and which interval they name.
use Rattle.std.proofs.Common.{◌≡◌, ◌<◌, ℕ, List, Result, Ok, Err, IsOk, OnOk, inl, inr, refl, sym, subst}
use Rattle.ci_space.specs.declared.intervals.Shape.{Shape}
use Rattle.ci_overflow.specs.Faults.{IsAtFault}
use Rattle.ci_overflow.specs.Lists.{IsInOrder}
use Rattle.ci_overflow.proofs.FaultLemmas.{in-order-sound}
use Rattle.fp_model.specs.declared.definitions.SegDef.{SegDef}
use Rattle.fp_model.specs.declared.database.Root.{Root}
use Rattle.root_changes.specs.Differing.{RootsDiffer}
use Rattle.root_changes.specs.Gaining.{RootsGain}
use Rattle.root_changes.proofs.ComparingLemmas.{roots_apart, same_there}
use Rattle.root_anchor.specs.Chains.{anchor_count}
use Rattle.root_anchor.specs.Damage.{ChainFails}
use Rattle.root_anchor.specs.Differing.{ChangesAlone}
use Rattle.root_anchor.specs.Formed.{IsFormed, HasChain, HasRoots}
use Rattle.root_anchor.specs.Keeping.{KeepsElements}
use Rattle.root_anchor.specs.Stored.{KeepsSequential}
use Rattle.root_anchor.specs.declared.plan.Planned.{Planned}
use Rattle.root_anchor.specs.declared.standing.Standing.{Standing}
use Rattle.root_anchor.specs.inside.Gaps.{Grows}
use Rattle.root_anchor.specs.inside.Rebuilding.{Rebuilds, Shares}
use Rattle.root_anchor.specs.inside.Standing.{AreStanding}
use Rattle.root_anchor.specs.inside.Storing.{IsStored, Stores, Rewrites, Names}
use Rattle.root_anchor.proofs.AloneLemmas.{alone_stored, alone_others, alone_apart, alone_formed, alone_sequential}
use Rattle.root_anchor.proofs.ChangeLemmas.{gain_apart, roots_exclusive}
use Rattle.root_anchor.proofs.ComingLemmas.{lists_now}
use Rattle.root_anchor.proofs.FillLemmas.{alone_few, alone_keeps, alone_own, none_changes, none_own, none_stays, refill_apart, refill_own, refill_stores, same_keeps}
use Rattle.root_anchor.proofs.Rebuilt.{apart-kept, has_chain, own-kept, stores}
use Rattle.root_anchor.proofs.Sound.{chain_sound}

-- ---- which interval is named

-- one that is damaged, where the anchor's chain is broken,
pub names_chain : {shape : Shape} {types : List SegDef} {area : List (List ℕ)} {anchor ci : ℕ}
    → ChainFails shape types area anchor ci → Names shape types area anchor ci
names_chain {ci = ci} f = record {
  sound = λ o h. chain_sound h ci f;
  damaged = λ n. f;
  lists = λ h. absurd (chain_sound h ci f);
}

-- and one that is at fault, where it stands
pub names_fault : {shape : Shape} {types : List SegDef} {area : List (List ℕ)} {anchor ci : ℕ}
    → HasChain shape types area anchor → IsAtFault shape area ci → Names shape types area anchor ci
names_fault {shape = shape} {area = area} {ci = ci} h f = record {
  sound = λ o k. in-order-sound shape area ci o f;
  damaged = λ n. absurd (n h);
  lists = λ k. lists_now k f;
}

-- ---- what is left

-- what is done in the intervals that are held stands in the area where they are put
pub settled : {A E : Type 0} (r : Result A E) (done : Result (Unit {0}) E) (old begun next new : List (List ℕ))
    (P : List (List ℕ) → List (List ℕ) → Type 0) → begun ≡ old → OnOk r (IsOk done) → OnOk r (new ≡ next)
    → OnOk done (P begun next) → OnOk r (P old new)
settled (Ok x) (Ok y) old begun next new P b i e p = subst (λ a. P a new) b (subst (λ a. P begun a) (sym e) p)
settled (Ok x) (Err f) old begun next new P b i e p = absurd (cc)
settled (Err f) done old begun next new P b i e p = tt

-- where an anchor was rebuilt
pub rebuilt_stores : {X E : Type 0} (r : Result X E) (shape : Shape) (types : List SegDef)
    (old now new : List (List ℕ)) (anchor : ℕ) (all rest slice : List Standing) (plan : List Planned)
    (roots : List Root) → now ≡ old → slice ≡ rest → anchor < anchor_count shape
    → AreStanding shape types old anchor all → Shares all plan rest
    → OnOk r (Rebuilds shape types now new anchor plan slice roots)
    → (IsInOrder shape old → OnOk r (KeepsElements shape types old new anchor roots))
    → OnOk r (Stores shape types old new anchor roots)
rebuilt_stores (Ok x) shape types old now new anchor all rest slice plan roots e s b a h r k = record {
  whole = λ f. stores shape types old now new anchor all rest slice plan roots e s b f a h r;
  apart = λ o. apart-kept shape types old now new anchor all rest slice plan roots e s b o a h r;
  own = λ o. own-kept shape types old now new anchor all rest slice plan roots e s b o a h r;
  keep = k;
  stood = has_chain a;
}
rebuilt_stores (Err f) shape types old now new anchor all rest slice plan roots e s b a h r k = tt

-- where the lists are the same, and nothing was put,
pub same_rewrites : (shape : Shape) (types : List SegDef) (area : List (List ℕ)) (anchor : ℕ) (before after : List Root)
    → before ≡ after → Rewrites shape types area area anchor before after
same_rewrites shape types area anchor before after e =
    let sequential : KeepsSequential shape area area = record {
      ends = record { begin = refl; end = refl; head = λ k l h. refl };
      intervals = λ ci k. refl;
    } in
    let P : List Root → Type 0 = λ roots. HasRoots shape types area anchor roots in
    record {
      whole = λ has f. record {
        stored = subst P e has;
        others = record { keep = λ other rs es b n c. c };
        sequential = sequential;
        formed = f;
      };
      sequential = λ f. sequential;
      apart = λ has o. record { keep = λ other rs mine es of_mine b n c m d. c };
      own = λ has o. none_own shape types area anchor;
      keep = λ has o n. same_keeps shape types area anchor after (subst P e has);
      alone = λ has d. absurd (roots_apart d.differ.x d.differ.y d.differ.differ (same_there d.differ.at e));
      few = λ has o gain. none_changes area;
      stay = λ has o gain. none_stays types area;
      one = λ has o gain. absurd (gain_apart before after gain e);
      stood = λ n. absurd (n e);
    }

-- where one element alone was put,
pub alone_rewrites : (shape : Shape) (types : List SegDef) (old new : List (List ℕ)) (anchor : ℕ)
    (before after : List Root) → anchor < anchor_count shape → RootsDiffer before after
    → ChangesAlone shape types old new anchor before after → Rewrites shape types old new anchor before after
alone_rewrites shape types old new anchor before after b differ it = record {
  whole = λ has f. record {
    stored = alone_stored shape types old new anchor before after it has;
    others = alone_others shape types old new anchor before after it has f b;
    sequential = alone_sequential shape types old new anchor before after it f.in_order;
    formed = alone_formed shape types old new anchor before after it has f b;
  };
  sequential = λ f. alone_sequential shape types old new anchor before after it f.in_order;
  apart = λ has o. alone_apart shape types old new anchor before after it has;
  own = λ has o. alone_own shape types old new anchor before after it has;
  keep = λ has o n. alone_keeps shape types old new anchor before after it has;
  alone = λ has d. it;
  few = λ has o gain. alone_few shape types old new anchor before after it;
  stay = λ has o gain. absurd (roots_exclusive before after gain differ);
  one = λ has o gain. absurd (roots_exclusive before after gain differ);
  stood = λ n. inr it;
}

-- where one segment more was put,
pub grown_rewrites : (shape : Shape) (types : List SegDef) (old now new : List (List ℕ)) (anchor : ℕ)
    (before after : List Root) → now ≡ old → anchor < anchor_count shape
    → (IsInOrder shape now → Grows shape types now new anchor after) → HasChain shape types now anchor
    → RootsGain before after → Rewrites shape types old new anchor before after
grown_rewrites shape types old now new anchor before after e b g h gain =
    let grows = subst (λ a. IsInOrder shape a → Grows shape types a new anchor after) e g in
    let whole : IsFormed shape types old → IsStored shape types old new anchor after = λ f.
    refill_stores shape types old old new anchor after refl b f (grows f.in_order).refills in
    record {
      whole = λ has f. whole f;
      sequential = λ f. (whole f).sequential;
      apart = λ has o. refill_apart shape types old old new anchor after refl b o (grows o).refills;
      own = λ has o. refill_own shape types old old new anchor after refl b o (grows o).refills;
      keep = λ has o n. absurd (n gain);
      alone = λ has d. absurd (roots_exclusive before after gain d);
      few = λ has o k. (grows o).few;
      stay = λ has o k. (grows o).stay;
      one = λ has o k. (grows o).one;
      stood = λ n. inl (subst (λ a. HasChain shape types a anchor) e h);
    }

-- and where the anchor was stored, since the lists don't differ so
pub stored_rewrites : {X E : Type 0} (r : Result X E) (shape : Shape) (types : List SegDef) (old now new : List (List
    ℕ))
    (anchor : ℕ) (before after : List Root) → now ≡ old
    → (HasRoots shape types old anchor before → RootsDiffer before after → ⊥)
    → (HasRoots shape types now anchor before → RootsGain before after → ⊥)
    → OnOk r (Stores shape types now new anchor after) → OnOk r (Rewrites shape types old new anchor before after)
stored_rewrites (Ok x) shape types old now new anchor before after e d n s0 =
    let s = subst (λ a. Stores shape types a new anchor after) e s0 in
    let none = subst (λ a. HasRoots shape types a anchor before → RootsGain before after → ⊥) e n in
    record {
      whole = λ has f. s.whole f;
      sequential = λ f. (s.whole f).sequential;
      apart = λ has o. s.apart o;
      own = λ has o. s.own o;
      keep = λ has o k. s.keep o;
      alone = λ has k. absurd (d has k);
      few = λ has o k. absurd (none has k);
      stay = λ has o k. absurd (none has k);
      one = λ has o k. absurd (none has k);
      stood = λ k. inl s.stood;
    }
stored_rewrites (Err f) shape types old now new anchor before after e d n s0 = tt
