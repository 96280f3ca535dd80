-- An anchor's base interval, and the whole walk.
use Rattle.std.proofs.Common.{Bool, true, Result, Ok, Err, IfOk, ◌≡◌, ◌≢◌, inl, inr, ℕ, ◌<◌, List, [], reverse, sym, ap, subst, ◌∙◌}
use Rattle.std.specs.List.{Contains, AllPairs}
use Rattle.std.proofs.lemmas.List.{get_or_past}
use Rattle.ci_space.specs.declared.intervals.Shape.{Shape}
use Rattle.ci_space.specs.Interval.{IsInterval, kind_of}
use Rattle.ci_overflow.specs.Lists.{bytes_at, IsInPlace}
use Rattle.ci_overflow.specs.Places.{base_of, kind_at}
use Rattle.fp_model.specs.declared.definitions.SegDef.{SegDef}
use Rattle.root_anchor.specs.declared.anchor.Walked.{Walked}
use Rattle.root_anchor.specs.declared.standing.Standing.{Standing}
use Rattle.root_anchor.specs.declared.walk.Walk.{Walk}
use Rattle.anchor_elements.specs.Elements.{Pointer}
use Rattle.root_anchor.specs.Chains.{AreRoots, IsChain, anchor_count, root_of}
use Rattle.root_anchor.specs.Formed.{HasRoots}
use Rattle.root_anchor.specs.Damage.{RootsFail, ChainFails, no_base, wrong_pointer}
use Rattle.anchor_elements.specs.Reading.{IsMissing}
use Rattle.root_anchor.specs.inside.Standing.{places_of, Stands, AreStanding, AreInTurn, AreKeyed}
use Rattle.root_anchor.specs.inside.Walking.{met_of, WalksOn, AllStand, IsWalked}
use Rattle.root_anchor.proofs.PutLemmas.{base_kind}
use Rattle.anchor_elements.proofs.ReadLemmas.{no_bytes}
use Rattle.root_anchor.proofs.WalkLemmas.{in_reverse, reverse_in}

not_in_place : (shape : Shape) (types : List SegDef) (area : List (List ℕ)) (anchor base ci : ℕ)
    → base ≡ base_of shape anchor → ci ≡ base → ¬ IsInPlace shape area base → ChainFails shape types area anchor ci
not_in_place shape types area anchor base ci e f none =
    subst (λ n. ChainFails shape types area anchor n) (sym e ∙ sym f)
    (no_base (subst (λ n. ¬ IsInPlace shape area n) e none))

pub missing_base : (shape : Shape) (types : List SegDef) (area : List (List ℕ)) (anchor base ci : ℕ)
    → base ≡ base_of shape anchor → IsMissing area base base ci → ChainFails shape types area anchor ci
missing_base shape types area anchor base ci e (inl there) =
    not_in_place shape types area anchor base ci e there.2 (λ p. there.1 p.is_interval)
missing_base shape types area anchor base ci e (inr past) =
    not_in_place shape types area anchor base ci e past.1
    (λ p. no_bytes (subst IsInterval (get_or_past area base [] past.0) p.is_interval))

pub wrong_base : (shape : Shape) (types : List SegDef) (area : List (List ℕ)) (anchor base ci : ℕ) (bytes : List ℕ)
    → anchor < anchor_count shape → base ≡ base_of shape anchor → base ≡ ci → bytes ≡ bytes_at area base
    → kind_of bytes ≢ 2 → ChainFails shape types area anchor ci
wrong_base shape types area anchor base ci bytes b e f g wrong =
    not_in_place shape types area anchor base ci e (sym f)
    (λ p. wrong (ap kind_of g ∙ p.is_kind ∙ ap (kind_at shape) e ∙ base_kind shape anchor b))

pub right_base : (shape : Shape) (area : List (List ℕ)) (anchor base : ℕ) (bytes : List ℕ) → anchor < anchor_count shape
    → base ≡ base_of shape anchor → bytes ≡ bytes_at area base
    → IsInterval bytes → kind_of bytes ≡ 2 → IsInPlace shape area (base_of shape anchor)
right_base shape area anchor base bytes b e g i k =
    subst (λ n. IsInPlace shape area n) e
    (record {
      is_interval = subst IsInterval g i;
      is_kind =
          ap kind_of (sym g) ∙ k ∙ sym (base_kind shape anchor b) ∙ ap (kind_at shape) (sym e);
    })

-- the same without the roots that were wanted
pub missing_none : (shape : Shape) (area : List (List ℕ)) (anchor base ci : ℕ) → base ≡ base_of shape anchor
    → IsMissing area base base ci → (ci ≡ base_of shape anchor) × (¬ IsInPlace shape area (base_of shape anchor))
missing_none shape area anchor base ci e (inl there) = (
  there.2 ∙ e,
  λ p. there.1 (subst (λ n. IsInPlace shape area n) (sym e) p).is_interval,
)
missing_none shape area anchor base ci e (inr past) = (
  past.1 ∙ e,
  λ p. no_bytes (subst IsInterval (get_or_past area base [] past.0)
      (subst (λ n. IsInPlace shape area n) (sym e) p).is_interval),
)

pub wrong_none : (shape : Shape) (area : List (List ℕ)) (anchor base ci : ℕ) (bytes : List ℕ)
    → anchor < anchor_count shape → base ≡ base_of shape anchor → base ≡ ci → bytes ≡ bytes_at area base
    → kind_of bytes ≢ 2 → (ci ≡ base_of shape anchor) × (¬ IsInPlace shape area (base_of shape anchor))
wrong_none shape area anchor base ci bytes b e f g wrong = (
  sym f ∙ e,
  λ p. wrong (ap kind_of (g ∙ ap (bytes_at area) e) ∙ p.is_kind ∙ base_kind shape anchor b),
)

-- ---- the whole walk

pub anchor_fails : (shape : Shape) (types : List SegDef) (area now : List (List ℕ)) (anchor base ci : ℕ)
    (first : Pointer) → now ≡ area → base ≡ base_of shape anchor → first ≡ root_of shape area anchor
    → IsInPlace shape area (base_of shape anchor) → RootsFail types now [] base first ci
    → ChainFails shape types area anchor ci
anchor_fails shape types area now anchor base ci first e f g place fails =
    wrong_pointer place
    (subst (λ a. RootsFail types a [] (base_of shape anchor) (root_of shape area anchor) ci) e
    (subst (λ p. RootsFail types now [] (base_of shape anchor) p ci) g
    (subst (λ b. RootsFail types now [] b first ci) f fails)))

pub anchor_walked : (shape : Shape) (types : List SegDef) (area now : List (List ℕ)) (anchor number : ℕ)
    (first : Pointer) (start walk : Walk) (walked : Walked) → now ≡ area → first ≡ root_of shape area anchor
    → IsInPlace shape area (base_of shape anchor) → walked.met ≡ walk.met
    → AreRoots types now [] first walked.roots (met_of walk) → WalksOn number start walk → AllStand types now walk
    → IsWalked shape types area anchor walked
anchor_walked shape types area now anchor number first start walk walked e g place same are on stand = record {
  is_chain = record {
    base = place;
    are_roots = subst (λ m. AreRoots types area [] (root_of shape area anchor) walked.roots
        (reverse (places_of m.items))) (sym same)
        (subst (λ a. AreRoots types a [] (root_of shape area anchor) walked.roots (met_of walk)) e
        (subst (λ p. AreRoots types now [] p walked.roots (met_of walk)) g are));
  };
  once = subst (λ m. AllPairs (λ a b. a ≢ b) (places_of m.items)) (sym same) on.is_walk.once;
  stand = λ s h. subst (λ a. Stands types a s) e (stand.stand s (subst (λ m. Contains m.items s) same h));
}

pub standing_walked : (shape : Shape) (types : List SegDef) (area : List (List ℕ)) (anchor : ℕ) (walked : Walked)
    (list : List Standing) → list ≡ walked.met.items → IsWalked shape types area anchor walked
    → AreStanding shape types area anchor list
standing_walked shape types area anchor walked list e w =
    subst (λ l. AreStanding shape types area anchor l) (sym e) (record {
      roots = walked.roots;
      elements = reverse (places_of walked.met.items);
      is_chain = w.is_chain;
      same = λ at. (in_reverse (places_of walked.met.items) at, reverse_in (places_of walked.met.items) at);
      once = w.once;
      typed = w.stand;
    })

pub in_turn_walked : (shape : Shape) (types : List SegDef) (area : List (List ℕ)) (anchor : ℕ) (walked : Walked)
    (list : List Standing) → list ≡ walked.met.items → IsWalked shape types area anchor walked
    → AreInTurn shape types area anchor list
in_turn_walked shape types area anchor walked list e w =
    subst (λ l. AreInTurn shape types area anchor l) (sym e) (record { roots = walked.roots; is_chain = w.is_chain })

pub keys_walked : (types : List SegDef) (area now : List (List ℕ)) (number : ℕ) (start walk : Walk) (keyed : Bool)
    → now ≡ area → start.keyed ≡ keyed → keyed ≡ true → WalksOn number start walk → AllStand types now walk
    → AreKeyed types area walk.met.items
keys_walked types area now number start walk keyed e f wanted on all =
    subst (λ a. AreKeyed types a walk.met.items) e (all.keys (on.same_keyed ∙ f ∙ wanted))

-- a walk over an area reads the anchor's roots
pub walked_roots : {E : Type 0} (shape : Shape) (types : List SegDef) (area now : List (List ℕ)) (anchor : ℕ)
    (r : Result Walked E) → now ≡ area → IfOk r (IsWalked shape types now anchor)
    → IfOk r (λ walked. HasRoots shape types area anchor walked.roots)
walked_roots shape types area now anchor (Ok walked) e w = record {
  elements = reverse (places_of walked.met.items);
  is_chain = subst (λ a. IsChain shape types a anchor walked.roots (reverse (places_of walked.met.items))) e w.is_chain;
}
walked_roots shape types area now anchor (Err f) e w = tt
