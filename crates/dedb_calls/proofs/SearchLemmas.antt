-- Searches: what is looked for at one anchor, and anchors in turn.
use Rattle.std.proofs.Common.{◌≡◌, ℕ, suc, ◌+◌, ◌-◌, ◌<◌, List, [], ◌∷◌, Some, None, refl, sym, ◌∙◌, ap, Bool, true, false, ◌&&◌, ◌==◌, Option, arith}
use Rattle.std.specs.Prelude.{nat_lt, if◌then◌else◌, is_some, option_map}
use Rattle.std.specs.Option.{option_map_or}
use Rattle.fp_model.specs.declared.calls.Ssa.{Ssa}
use Rattle.fp_model.specs.declared.database.Root.{Root}
use Rattle.fp_model.specs.declared.definitions.SegDef.{SegDef}
use Rattle.fp_model.specs.DedbCalls.{first_found, first_unlocked}
use Rattle.fp_model.specs.Order.{Occurrence, Place, Step, admits, first_admitted, lies_within, path_precedes, place_precedes, sequence}
use Rattle.fp_model.specs.State.{numbers_up}
use Rattle.dli_tree.specs.Paths.{place_of}
use Rattle.dli_tree.specs.inside.Paths.{path_steps}
use Rattle.dli_tree.specs.declared.path.Path.{Path}
use Rattle.dedb_calls.specs.Anchors.{held_at}
use Rattle.dedb_calls.specs.inside.Progress.{roots_in}
use Rattle.dedb_calls.specs.declared.anchors.HeldAnchor.{HeldAnchor}
use Rattle.dedb_calls.specs.inside.Searches.{behind_here, within_here}
use Rattle.plain_laws.proofs.Alls.{find_alike, find_none}

not_both : true ≡ false → ⊥
not_both e = cc

-- ---- tests that agree

-- ---- one anchor

abbrev at_zero : List Step → Place
at_zero path = record { anchor = 0; path = path }

abbrev is_behind : ℕ → Option Place → Occurrence → Bool
is_behind anchor behind s = option_map_or (λ p. place_precedes p (record { anchor = anchor; path = s.path })) behind
    true

abbrev is_within : ℕ → Option Place → Occurrence → Bool
is_within anchor within s = option_map_or (λ p. lies_within p (record { anchor = anchor; path = s.path })) within true

module _ (anchor : ℕ) where
  behind_same : (behind : Option Place) (b : Option (List Step)) → behind_here behind anchor ≡ Some b
      → (s : Occurrence) → is_behind 0 (option_map at_zero b) s ≡ is_behind anchor behind s
  behind_same None b e s = let none : None ≡ b = cc in ap (λ o. is_behind 0 (option_map at_zero o) s) (sym none)
  behind_same (Some p) b e s = by (p.anchor == anchor) (nat_lt p.anchor anchor) e
    where
      by : (same before : Bool)
          → (if same then Some (Some p.path) else if before then Some None else None) ≡ Some b
          → is_behind 0 (option_map at_zero b) s ≡ (if same then path_precedes p.path s.path else before)
      by true before f = let its : Some p.path ≡ b = cc in ap (λ o. is_behind 0 (option_map at_zero o) s) (sym its)
      by false true f = let its : None ≡ b = cc in ap (λ o. is_behind 0 (option_map at_zero o) s) (sym its)
      by false false f = absurd (cc)

  behind_none : (behind : Option Place) → behind_here behind anchor ≡ None
      → (s : Occurrence) → is_behind anchor behind s ≡ false
  behind_none None e s = absurd (cc)
  behind_none (Some p) e s = by (p.anchor == anchor) (nat_lt p.anchor anchor) e
    where
      by : (same before : Bool)
          → (if same then Some (Some p.path) else if before then Some None else None) ≡ None
          → (if same then path_precedes p.path s.path else before) ≡ false
      by true before f = absurd (cc)
      by false true f = absurd (cc)
      by false false f = refl

  within_same : (within : Option Place) (w : Option (List Step)) → within_here within anchor ≡ Some w
      → (s : Occurrence) → is_within 0 (option_map at_zero w) s ≡ is_within anchor within s
  within_same None w e s = let none : None ≡ w = cc in ap (λ o. is_within 0 (option_map at_zero o) s) (sym none)
  within_same (Some p) w e s = by (p.anchor == anchor) e
    where
      by : (same : Bool) → (if same then Some (Some p.path) else None) ≡ Some w
          → is_within 0 (option_map at_zero w) s ≡ (same && is_within 0 (Some (at_zero p.path)) s)
      by true f = let its : Some p.path ≡ w = cc in ap (λ o. is_within 0 (option_map at_zero o) s) (sym its)
      by false f = absurd (cc)

  within_none : (within : Option Place) → within_here within anchor ≡ None
      → (s : Occurrence) → is_within anchor within s ≡ false
  within_none None e s = absurd (cc)
  within_none (Some p) e s = by (p.anchor == anchor) e
    where
      by : (same : Bool) → (if same then Some (Some p.path) else None) ≡ None
          → (same && is_within 0 (Some (at_zero p.path)) s) ≡ false
      by true f = absurd (cc)
      by false f = refl

  module _ (types : List SegDef) (roots : List Root) (behind within : Option Place) (ssas : List Ssa) where
    pub nothing_behind : behind_here behind anchor ≡ None
        → first_admitted types anchor roots behind within ssas ≡ None
    nothing_behind e = find_none _ (sequence types roots)
        (λ s. ap (λ b. b && is_within anchor within s && admits ssas s.path) (behind_none behind e s))

    pub nothing_within : within_here within anchor ≡ None
        → first_admitted types anchor roots behind within ssas ≡ None
    nothing_within e = find_none _ (sequence types roots)
        (λ s. ap (λ b. is_behind anchor behind s && b && admits ssas s.path) (within_none within e s)
        ∙ false_after (is_behind anchor behind s) (admits ssas s.path))
      where
        false_after : (a b : Bool) → (a && false && b) ≡ false
        false_after true b = refl
        false_after false b = refl

    looked_here : (b w : Option (List Step)) → behind_here behind anchor ≡ Some b → within_here within anchor ≡ Some w
        → first_admitted types 0 roots (option_map at_zero b) (option_map at_zero w) ssas
        ≡ first_admitted types anchor roots behind within ssas
    looked_here b w e f = find_alike _ _ (sequence types roots)
        (λ s. ap (λ t. t && is_within 0 (option_map at_zero w) s && admits ssas s.path) (behind_same behind b e s)
        ∙ ap (λ t. is_behind anchor behind s && t && admits ssas s.path) (within_same within w f s))

    as_paths : (o : Option Path) → option_map place_of o ≡ option_map at_zero (path_steps o)
    as_paths None = refl
    as_paths (Some p) = refl

    pub looked_with : (b w : Option Path) → behind_here behind anchor ≡ Some (path_steps b)
        → within_here within anchor ≡ Some (path_steps w)
        → first_admitted types 0 roots (option_map place_of b) (option_map place_of w) ssas
        ≡ first_admitted types anchor roots behind within ssas
    looked_with b w e f =
        ap (λ o. first_admitted types 0 roots o (option_map place_of w) ssas) (as_paths b)
        ∙ ap (λ o. first_admitted types 0 roots (option_map at_zero (path_steps b)) o ssas) (as_paths w)
        ∙ looked_here (path_steps b) (path_steps w) e f

-- ---- anchors in turn

pub numbers_next : (to from : ℕ) → from < to
    → numbers_up (to - from) from ≡ from ∷ numbers_up (to - (from + 1)) (from + 1)
numbers_next to from less =
    let more : to - from ≡ suc (to - (from + 1)) = omega arith in
    ap (λ n. numbers_up n from) more

pub numbers_none : (to : ℕ) → numbers_up (to - to) to ≡ []
numbers_none to = let none : to - to ≡ 0 = omega arith in ap (λ n. numbers_up n to) none

module _ (is_locked : ℕ → Bool) (look : ℕ → Option Occurrence) (anchor : ℕ) (anchors : List ℕ) where
  pub is_unlocked : is_locked anchor ≡ false → first_unlocked is_locked look (anchor ∷ anchors) ≡ Some anchor
  is_unlocked e = rw e refl

  pub is_found : (s : Occurrence) → is_locked anchor ≡ true → look anchor ≡ Some s
      → (first_unlocked is_locked look (anchor ∷ anchors) ≡ None)
      × (first_found look (anchor ∷ anchors) ≡ Some (anchor, s))
  is_found s e f = (rw (e, f) refl, rw f refl)

  pub is_passed : is_locked anchor ≡ true → look anchor ≡ None
      → (first_unlocked is_locked look (anchor ∷ anchors) ≡ first_unlocked is_locked look anchors)
      × (first_found look (anchor ∷ anchors) ≡ first_found look anchors)
  is_passed e f = (rw (e, f) refl, rw f refl)

-- a search that has come as far as an anchor
module _ (is_locked : ℕ → Bool) (look : ℕ → Option Occurrence) (from to anchor : ℕ)
    (locked : first_unlocked is_locked look (numbers_up (to - from) from)
    ≡ first_unlocked is_locked look (numbers_up (to - anchor) anchor))
    (found : first_found look (numbers_up (to - from) from) ≡ first_found look (numbers_up (to - anchor) anchor))
    (less : anchor < to) where
  abbrev rest : List ℕ
  rest = numbers_up (to - (anchor + 1)) (anchor + 1)

  as_list : numbers_up (to - anchor) anchor ≡ anchor ∷ rest
  as_list = numbers_next to anchor less

  pub stops_unlocked : is_locked anchor ≡ false
      → first_unlocked is_locked look (numbers_up (to - from) from) ≡ Some anchor
  stops_unlocked e =
      locked ∙ ap (first_unlocked is_locked look) as_list ∙ is_unlocked is_locked look anchor rest e

  pub stops_found : (s : Occurrence) → is_locked anchor ≡ true → look anchor ≡ Some s
      → (first_unlocked is_locked look (numbers_up (to - from) from) ≡ None)
      × (first_found look (numbers_up (to - from) from) ≡ Some (anchor, s))
  stops_found s e f =
      let its = is_found is_locked look anchor rest s e f in (
        locked ∙ ap (first_unlocked is_locked look) as_list ∙ its.0,
        found ∙ ap (first_found look) as_list ∙ its.1,
      )

  pub goes_on : is_locked anchor ≡ true → look anchor ≡ None
      → (first_unlocked is_locked look (numbers_up (to - from) from) ≡ first_unlocked is_locked look rest)
      × (first_found look (numbers_up (to - from) from) ≡ first_found look rest)
  goes_on e f =
      let its = is_passed is_locked look anchor rest e f in (
        locked ∙ ap (first_unlocked is_locked look) as_list ∙ its.0,
        found ∙ ap (first_found look) as_list ∙ its.1,
      )

-- the roots that are held
pub held_roots : (held : List HeldAnchor) (dedb anchor : ℕ) (one : HeldAnchor) (roots : List Root)
    → held_at held dedb anchor ≡ Some one → roots ≡ one.roots → roots_in held dedb anchor ≡ roots
held_roots held dedb anchor one roots there its =
    ap (λ o. option_map_or (λ (a : HeldAnchor). a.roots) o []) there ∙ sym its

-- ---- looks that agree where there is a lock

module _ (is_locked : ℕ → Bool) (look other : ℕ → Option Occurrence)
    (same : (anchor : ℕ) → is_locked anchor ≡ true → look anchor ≡ other anchor) where
  pub unlocked_same : (anchors : List ℕ) → first_unlocked is_locked look anchors ≡ first_unlocked is_locked other
      anchors
  unlocked_same [] = refl
  unlocked_same (a ∷ rest) = by (is_locked a) refl (unlocked_same rest)
    where
      by : (b : Bool) → is_locked a ≡ b → first_unlocked is_locked look rest ≡ first_unlocked is_locked other rest
          → first_unlocked is_locked look (a ∷ rest) ≡ first_unlocked is_locked other (a ∷ rest)
      by false e later = rw e refl
      by true e later =
          rw e (ap (λ o. if is_some o then None else first_unlocked is_locked look rest) (same a e)
          ∙ ap (λ o. if is_some (other a) then None else o) later)

  pub found_same : (anchors : List ℕ) → first_unlocked is_locked look anchors ≡ None
      → first_found look anchors ≡ first_found other anchors
  found_same [] none = refl
  found_same (a ∷ rest) none = by (is_locked a) refl none (found_same rest)
    where
      by : (b : Bool) → is_locked a ≡ b → first_unlocked is_locked look (a ∷ rest) ≡ None
          → (first_unlocked is_locked look rest ≡ None → first_found look rest ≡ first_found other rest)
          → first_found look (a ∷ rest) ≡ first_found other (a ∷ rest)
      by false e f later = absurd (some_is_not_none a (sym (is_unlocked is_locked look a rest e) ∙ f))
        where
          some_is_not_none : (n : ℕ) → Some n ≡ None → ⊥
          some_is_not_none n e = cc
      by true e f later = at (look a) refl
        where
          at : (o : Option Occurrence) → look a ≡ o → first_found look (a ∷ rest) ≡ first_found other (a ∷ rest)
          at None g =
              let passed = is_passed is_locked look a rest e g in
              passed.1 ∙ later (sym passed.0 ∙ f)
              ∙ sym (is_passed is_locked other a rest e (sym (same a e) ∙ g)).1
          at (Some s) g =
              (is_found is_locked look a rest s e g).1 ∙ sym (is_found is_locked other a rest s e
              (sym (same a e) ∙ g)).1
