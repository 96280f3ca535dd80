-- An area as it starts.
use Rattle.std.proofs.Common.{◌≡◌, ◌≢◌, inl, inr, ℕ, zero, suc, ◌+◌, ◌-◌, ◌%◌, ◌<◌, ◌≤◌, Bool, true, false, List, [], ◌∷◌, ◌++◌, length, map, replicate, Some, None, Option, refl, sym, ◌∙◌, ap, subst, arith}
use Rattle.std.specs.Prelude.{IsTrue, ◌==◌, if◌then◌else◌, nat_lt, option_map, slice_get, slice_index, unwrap_or}
use Rattle.std.specs.Option.{option_map_or}
use Rattle.std.proofs.lemmas.Bool.{cases_Bool, cases_eq}
use Rattle.std.proofs.lemmas.Bool.Decides.{nat_tests}
use Rattle.ci_space.specs.declared.intervals.Shape.{Shape}
use Rattle.ci_space.specs.Element.{Free, Used}
use Rattle.ci_space.specs.Head.{ends_of, head_of}
use Rattle.ci_space.specs.Interval.{HasUsed, IsInterval, empty_bytes, has_elements, is_kind, is_size, kind_of}
use Rattle.ci_space.proofs.Empties.{empty-interval, kind-empty, length-empty, tiled-tiles, untiled-tiles}
use Rattle.ci_space.proofs.Standing.{used-stands}
use Rattle.ci_overflow.specs.Lists.{IsInPlace, HasList, bytes_at, counted, first_free, link_of}
use Rattle.ci_overflow.specs.Places.{base_of, first_base, first_independent, first_sequential, kind_at}
use Rattle.ci_overflow.proofs.Joins.{base-before}
use Rattle.fp_model.specs.declared.database.AreaEnds.{AreaEnds}
use Rattle.fp_model.specs.declared.database.Dedb.{Dedb}
use Rattle.fp_model.specs.declared.database.Root.{Root}
use Rattle.fp_model.specs.declared.definitions.AreaDef.{AreaDef}
use Rattle.fp_model.specs.declared.definitions.DedbDef.{DedbDef}
use Rattle.fp_model.specs.declared.definitions.Defs.{Defs}
use Rattle.fp_model.specs.State.{anchor_count as anchors_of, first_ends, formatted, roots_at, start}
use Rattle.held_intervals.specs.Holding.{listed}
use Rattle.anchor_elements.specs.Elements.{Pointer, nothing}
use Rattle.root_anchor.specs.Chains.{AreRoots, IsChain, anchor_count, no_root, root_of}
use Rattle.root_anchor.specs.Formed.{IsFormed, Meets}
use Rattle.root_anchor.proofs.OneChain.{chain_has}
use Rattle.root_anchor.proofs.PutLemmas.{base_before}
use Rattle.seq_dependents.specs.Control.{IsKept, begin_in, begin_of, end_in, end_of}
use Rattle.area_redo.specs.Redo.{AreaBytes, count_in}
use Rattle.area_states.specs.declared.place.Place.{Place}
use Rattle.area_states.specs.Places.{ArePlaces, IsPlace, layout_of, part_of, place_at}
use Rattle.area_states.specs.States.{HasState, IsWholePart, SameState}
use Rattle.area_states.specs.Databases.{AreFor, area_in, state_of}
use Rattle.area_states.proofs.Frames.{kind_within}
use Rattle.area_states.proofs.StateLemmas.{same_state}
use Rattle.state_laws.proofs.Lists.{all_at}
use Rattle.area_laws.specs.Starts.{AreStarts, IsStart, StartsAs, StartsControl, start_state}
use Rattle.ci_overflow.proofs.Finds.{none_past}

-- ---- empty intervals

link_empty : (size kind : ℕ) → link_of (empty_bytes size kind) ≡ 0
unfolding link_of empty_bytes
link_empty size kind = refl

root_empty : (size kind : ℕ) → (head_of (empty_bytes size kind)).root ≡ nothing
unfolding empty_bytes
root_empty size kind = refl

not_ended : {X : Type 0} (before after : List X) (x : X) → before ++ x ∷ after ≡ [] → ⊥
not_ended [] after x e = cc
not_ended (y ∷ before) after x e = cc

none_in_empty : (size kind at segment : ℕ) (content : List ℕ) → IsTrue (is_size size) → IsTrue (is_kind kind)
    → HasUsed (empty_bytes size kind) at segment content → ⊥
none_in_empty size kind at segment content s k u = elim (cases_Bool (has_elements kind)) as (λ _. ⊥) [
  | inl h ↦
      elim (used-stands (empty_bytes size kind) (Free (size - 32) ∷ []) at segment content
      (tiled-tiles size kind s k h) u) as (λ _. ⊥) [
        | inl x ↦ (let e = x.1 in cc)
        | inr x ↦ x
      ]
  | inr h ↦
      used-stands (empty_bytes size kind) [] at segment content (untiled-tiles size kind s k h) u
]

-- nothing is used in control, nor past the end of an area
none_in_control : (bytes : List ℕ) (at segment : ℕ) (content : List ℕ) → kind_of bytes ≡ 1
    → HasUsed bytes at segment content → ⊥
none_in_control bytes at segment content k u =
    not_ended u.before u.after (Used segment content) (u.tiles.untiled (rw k refl))

kind_some : (shape : Shape) (ci : ℕ) → IsTrue (is_kind (kind_at shape ci))
kind_some shape ci =
    by (ci == 0) (nat_lt ci (first_sequential shape))
    (nat_lt ((ci - 1) % (shape.base + shape.overflow)) shape.base) (nat_lt ci (first_independent shape))
  where
    by : (a b c d : Bool) → IsTrue (is_kind (if a then 1 else if b then (if c then 2 else 3) else if d then 4 else 5))
    by true b c d = refl
    by false true true d = refl
    by false true false d = refl
    by false false c true = refl
    by false false c false = refl

past_end : (area : List (List ℕ)) (ci : ℕ) → length area ≤ ci → bytes_at area ci ≡ []
past_end [] ci l = refl
past_end (b ∷ area) zero l = absurd (omega (arith, l))
past_end (b ∷ area) (suc ci) l = past_end area ci (omega (arith, l))

-- ---- the whole area

module _ (place : Place) (area : List (List ℕ)) (is : IsPlace place) (start : IsStart place.shape area) where
  some : 0 < first_independent place.shape
  some = omega arith

  control : StartsControl place.shape.ci (bytes_at area 0)
  control = (start.starts 0 some).control refl

  others : (ci : ℕ) → ci ≢ 0 → ci < first_independent place.shape
      → bytes_at area ci ≡ empty_bytes place.shape.ci (kind_at place.shape ci)
  others ci z lt = (start.starts ci lt).other z

  in_place : (ci : ℕ) → ci < first_independent place.shape → IsInPlace place.shape area ci
  in_place ci lt = elim (cases_eq ci 0) [
    | inl z ↦
        subst (IsInPlace place.shape area) (sym z)
        (record { is_interval = control.is_interval; is_kind = control.is_kind })
    | inr z ↦
        let e = others ci z lt in
        record {
          is_interval = subst IsInterval (sym e)
              (empty-interval place.shape.ci (kind_at place.shape ci) is.size (kind_some place.shape ci));
          is_kind = ap kind_of e ∙ kind-empty place.shape.ci (kind_at place.shape ci);
        }
  ]

  none_used : (ci at segment : ℕ) (content : List ℕ) → HasUsed (bytes_at area ci) at segment content → ⊥
  none_used ci at segment content u = elim (cases_Bool (nat_lt ci (first_independent place.shape))) [
    | inl low ↦ elim (cases_eq ci 0) [
      | inl z ↦
          none_in_control (bytes_at area 0) at segment content control.is_kind
          (subst (λ (n : ℕ). HasUsed (bytes_at area n) at segment content) z u)
      | inr z ↦
          none_in_empty place.shape.ci (kind_at place.shape ci) at segment content is.size (kind_some place.shape ci)
          (subst (λ (b : List ℕ). HasUsed b at segment content) (others ci z (less ci low)) u)
    ]
    | inr high ↦
        let l = start.count in
        let h = not_less ci high in
        none_past (bytes_at area ci) at segment content (past_end area ci (omega (arith, l, h))) u
  ]
    where
      less : (ci : ℕ) → nat_lt ci (first_independent place.shape) ≡ true → ci < first_independent place.shape
      less ci e = grind (arith, nat_tests)

      not_less : (ci : ℕ) → nat_lt ci (first_independent place.shape) ≡ false → first_independent place.shape ≤ ci
      not_less ci e = grind (arith, nat_tests)

  counts_none : counted area ≡ 0
  unfolding counted
  counts_none = ap (λ (l : List ℕ). slice_index l 2) control.ends

  none_free : first_free area ≡ 0
  unfolding first_free
  none_free = ap (λ (l : List ℕ). slice_index l 3) control.ends

  begins : begin_of area ≡ 1
  unfolding begin_in
  begins = ap (λ (l : List ℕ). slice_index l 0) control.ends

  ends : end_of area ≡ 1
  unfolding end_in
  ends = ap (λ (l : List ℕ). slice_index l 1) control.ends

  none_behind : {X : Type 0} (ci : ℕ) → first_independent place.shape ≤ ci → ci < length area → X
  none_behind ci from below = let l = start.count in absurd (omega (arith, l, from, below))

  -- a list from nothing on
  no_list : (owner first : ℕ) → first ≡ 0 → HasList place.shape area owner first
  no_list owner first e = record {
    list = [];
    is_list = record {
      chain = e;
      once = tt;
      owned = λ ci h. absurd h;
      each = λ ci o. none_behind ci o.from o.below;
    };
  }

  no_link : (uow : ℕ) → uow < place.shape.uows → link_of (bytes_at area (first_base place.shape uow)) ≡ 0
  no_link uow lt =
      let low = base-before place.shape uow lt is.base in
      ap link_of (others (first_base place.shape uow) (λ e. omega (arith, e)) low)
      ∙ link_empty place.shape.ci (kind_at place.shape (first_base place.shape uow))

  base_low : (anchor : ℕ) → anchor < anchor_count place.shape
      → base_of place.shape anchor < first_independent place.shape
  base_low anchor lt = let l = base_before place.shape anchor lt in omega (arith, l)

  no_roots : (anchor : ℕ) → anchor < anchor_count place.shape → IsChain place.shape place.segments area anchor [] []
  no_roots anchor lt =
      let low = base_low anchor lt in
      let at : root_of place.shape area anchor ≡ nothing =
      ap (λ (b : List ℕ). (head_of b).root) (others (base_of place.shape anchor) (λ e. omega (arith, e)) low)
      ∙ root_empty place.shape.ci (kind_at place.shape (base_of place.shape anchor)) in
      record {
        base = in_place (base_of place.shape anchor) low;
        are_roots = subst (λ (p : Pointer). AreRoots place.segments area [] p [] []) (sym at) no_root;
      }

  none_met : (anchor : ℕ) (at : Pointer) → Meets place.shape place.segments area anchor at → ⊥
  none_met anchor at m =
      let h = chain_has m.is_chain at m.met in
      none_used at.0 at.1 h.type h.has.content h.has.used

  start_formed : IsFormed place.shape place.segments area
  start_formed = record {
    in_order = record {
      whole = (let l = start.count in let c = counts_none in omega (arith, l, c));
      in_place = λ ci lt. in_place ci (let l = start.count in omega (arith, l, lt));
      listed = record {
        of_uow = λ uow lt. no_list (uow + 1) (link_of (bytes_at area (first_base place.shape uow))) (no_link uow lt);
        of_free = no_list 0 (first_free area) none_free;
        owners = λ ci from below. none_behind ci from below;
        empty = λ ci o. none_behind ci o.from o.below;
      };
    };
    chains = λ anchor lt. record { roots = []; elements = []; is_chain = no_roots anchor lt };
    apart = λ anchor other at la lo m n. absurd (none_met anchor at m);
    each_met = λ at u. absurd (none_used at.0 at.1 u.segment u.content u.used);
  }

  none_kept : (serial : ℕ) → IsKept area serial → ⊥
  none_kept serial k =
      let b = begins in
      let e = ends in
      let f = k.from_begin in
      let l = k.before_end in
      omega (arith, b, e, f, l)

  start_whole : IsWholePart (part_of place) area
  start_whole =
      let b = begins in
      let e = ends in
      let l = start.count in
      record {
        control = record {
          is_control = record {
            below = omega (arith, l);
            is_interval = control.is_interval;
            is_kind = control.is_kind;
            are_ends = record {
              some = omega (arith, b);
              ordered = omega (arith, b, e);
              bounded = omega (arith, e);
            };
          };
          counted = omega (arith, b, e);
        };
        in_place = λ ci from below.
            let z : ci ≢ 0 = λ x. (omega (arith, x, from)) in
            let it = in_place ci below in
            record {
              below = omega (arith, l, below);
              is_interval = it.is_interval;
              is_kind = it.is_kind ∙ kind_within place.shape ci z from below;
              is_size = ap length (others ci z below)
                  ∙ length-empty place.shape.ci (kind_at place.shape ci) is.size;
            };
        serials = λ serial k. absurd (none_kept serial k);
      }

  pub start_has : HasState place area start_state
  start_has = record {
    formed = start_formed;
    whole = start_whole;
    begin = begins;
    end = ends;
    anchors = λ anchor lt. record {
      kept = [];
      has = record { elements = []; is_chain = no_roots anchor lt };
      lists = tt;
    };
  }

-- ---- all areas

mapped_at : {X Y : Type 0} (f : X → Y) (xs : List X) (n : ℕ) → slice_get (map f xs) n ≡ option_map f (slice_get xs n)
mapped_at f [] n = refl
mapped_at f (x ∷ xs) zero = refl
mapped_at f (x ∷ xs) (suc n) = mapped_at f xs n

empty_at : (n k : ℕ) → unwrap_or (slice_get (replicate {A = List Root} n []) k) [] ≡ []
empty_at zero k = refl
empty_at (suc n) zero = refl
empty_at (suc n) (suc k) = empty_at n k

first_at : (areas : List AreaDef) (k : ℕ)
    → unwrap_or (slice_get (map (λ (area : AreaDef). first_ends) areas) k) first_ends ≡ first_ends
first_at [] k = refl
first_at (a ∷ areas) zero = refl
first_at (a ∷ areas) (suc k) = first_at areas k

roots_start : (defs : Defs) (dedb anchor : ℕ) → roots_at (start defs) dedb anchor ≡ []
roots_start defs dedb anchor =
    ap (λ (o : Option Dedb). option_map_or (λ (d : Dedb). unwrap_or (slice_get d.anchors anchor) []) o [])
    (mapped_at formatted defs.dedbs dedb) ∙ by (slice_get defs.dedbs dedb)
  where
    by : (o : Option DedbDef)
        → option_map_or (λ (d : Dedb). unwrap_or (slice_get d.anchors anchor) []) (option_map formatted o) [] ≡ []
    by None = refl
    by (Some def) = empty_at (anchors_of def) anchor

ends_start : (defs : Defs) (dedb number : ℕ)
    → option_map_or (λ (d : Dedb). unwrap_or (slice_get d.areas number) first_ends)
    (slice_get (start defs).dedbs dedb) first_ends ≡ first_ends
ends_start defs dedb number =
    ap (λ (o : Option Dedb). option_map_or (λ (d : Dedb). unwrap_or (slice_get d.areas number) first_ends) o first_ends)
    (mapped_at formatted defs.dedbs dedb) ∙ by (slice_get defs.dedbs dedb)
  where
    by : (o : Option DedbDef)
        → option_map_or (λ (d : Dedb). unwrap_or (slice_get d.areas number) first_ends) (option_map formatted o)
        first_ends ≡ first_ends
    by None = refl
    by (Some def) = first_at def.areas number

-- the databases at the start have the state of an empty area everywhere
pub start_of : (defs : Defs) (place : Place) → SameState place start_state (state_of place (start defs))
start_of defs place = record {
  roots = λ k lt. sym (roots_start defs place.dedb (place.first_anchor + k));
  begin = ap (λ (e : AreaEnds). e.begin) (sym (ends_start defs place.dedb place.number));
  end = ap (λ (e : AreaEnds). e.end) (sym (ends_start defs place.dedb place.number));
}

length_listed : (n : ℕ) (f : ℕ → List ℕ) → length (listed n f) ≡ n
length_listed zero f = refl
length_listed (suc n) f = ap suc (length_listed n (λ i. f (suc i)))

pub listed_at : (n : ℕ) (f : ℕ → List ℕ) (ci : ℕ) → ci < n → bytes_at (listed n f) ci ≡ f ci
listed_at zero f ci lt = absurd (omega (arith, lt))
listed_at (suc n) f zero lt = refl
listed_at (suc n) f (suc ci) lt = listed_at n (λ i. f (suc i)) ci (omega (arith, lt))

start_listed : (place : Place) (bytes : ℕ → List ℕ)
    → ((ci : ℕ) → ci < first_independent place.shape → StartsAs place.shape ci (bytes ci))
    → IsStart place.shape (listed (first_independent place.shape) bytes)
start_listed place bytes each = record {
  count = length_listed (first_independent place.shape) bytes;
  starts = λ ci lt. subst (StartsAs place.shape ci) (sym (listed_at (first_independent place.shape) bytes ci lt))
      (each ci lt);
}

placed_at : (places : List Place) (set : ℕ) (place : Place) → place_at places set ≡ Some place → ArePlaces places
    → IsPlace place
placed_at places set place e are = by (nat_lt set 3) e
  where
    by : (b : Bool) → (if b then None else slice_get places (set - 3)) ≡ Some place → IsPlace place
    by true e = absurd (let no : None ≡ Some place = e in cc)
    by false e = all_at IsPlace places (set - 3) place are e

pub starts_for : (defs : Defs) (places : List Place) (bytes : AreaBytes) → ArePlaces places → AreStarts places bytes
    → AreFor places bytes (start defs)
starts_for defs places bytes are each set place at =
    let is = placed_at places set place at are in
    let control = (each set place at 0 (omega arith)).control refl in
    let none : slice_index (ends_of (bytes set 0)) 2 ≡ 0 = ap (λ (l : List ℕ). slice_index l 2) control.ends in
    let number : first_independent place.shape + slice_index (ends_of (bytes set 0)) 2 ≡ first_independent place.shape =
    omega (arith, none) in
    let counts : count_in (layout_of places) bytes set ≡ first_independent place.shape = rw at number in
    let area : HasState place (listed (first_independent place.shape) (bytes set)) start_state =
    start_has place (listed (first_independent place.shape) (bytes set)) is
    (start_listed place (bytes set) (each set place at)) in
    same_state place (area_in (layout_of places) bytes set) start_state (state_of place (start defs))
    (subst (λ (n : ℕ). HasState place (listed n (bytes set)) start_state) (sym counts) area) (start_of defs place)
