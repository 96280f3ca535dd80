-- The steps of the walk: along a row, from row to row, along the roots.
use Rattle.std.proofs.Common.{Bool, true, false, not, ◌&&◌, ◌==◌, inl, inr, Option, Some, None, ◌≡◌, ◌≢◌, ℕ, suc, ◌+◌, ◌-◌, ◌*◌, ◌<◌, ◌≤◌, List, [], ◌∷◌, ◌++◌, length, drop, get_or, refl, sym, ap, subst, ◌∙◌, append_assoc, drop-cons, arith}
use Rattle.std.specs.List.{Contains, All}
use Rattle.std.specs.Option.{option_map_or, IfSome}
use Rattle.std.proofs.lemmas.Bool.{cases_Bool, eqb-true}
use Rattle.std.proofs.lemmas.List.{append-nil, drop_all, length-map, get_or-map}
use Rattle.std.proofs.lemmas.List.Elements.{All-nil, All-cons, All-weaker}
use Rattle.ci_space.proofs.Going.{goes-itself, goes-joined}
use Rattle.fp_model.specs.declared.definitions.SegDef.{SegDef}
use Rattle.fp_model.specs.declared.database.Node.{Node, roll-Node}
use Rattle.fp_model.specs.declared.database.Root.{Root}
use Rattle.fp_model.specs.declared.database.SeqItem.{SeqItem}
use Rattle.fp_model.specs.Order.{child_types, is_child_of, numbers_from}
use Rattle.fp_model.specs.WellFormed.{HasPlace, HavePlaces}
use Rattle.anchor_elements.specs.declared.element.First.{First}
use Rattle.anchor_elements.specs.declared.element.Said.{Said}
use Rattle.root_anchor.specs.declared.walk.Walk.{Walk}
use Rattle.anchor_elements.specs.Elements.{Pointer, nothing, HasSegment}
use Rattle.root_anchor.specs.Chains.{AreRows, no_row, row_end, segment, newest, AreRoots, no_root, root}
use Rattle.anchor_elements.specs.Wrong.{IsWrong}
use Rattle.root_anchor.specs.Damage.{RowsFail, here, below, at_twin, next_row, RootsFail, root_here, below_root, next_root}
use Rattle.anchor_elements.specs.Reading.{types_of, pointers_of, segment_of}
use Rattle.root_anchor.specs.inside.Walking.{IsWalk, WalksOn, AllStand, IsLook, IsRow, RowFails, IsAlong, IsAmong, IsAlongRoots}
use Rattle.root_anchor.proofs.WalkLemmas.{few_met}

-- ---- one look after another

module _ {I : Type 0} (told : I → Type 0) (intervals : I → List (List ℕ)) (number size faults : I → ℕ)
    (keeps : I → I → Type 0) where
  pub looks_itself : (a : I) → IsLook told intervals number size faults keeps a a
  looks_itself a = record { same = λ t. refl; same_number = refl; goes_on = goes-itself told size faults keeps a }

  pub looks_joined : (a b c : I) → IsLook told intervals number size faults keeps a b
      → IsLook told intervals number size faults keeps b c → IsLook told intervals number size faults keeps a c
  looks_joined a b c p q = record {
    same = λ t. q.same (p.goes_on.tells t) ∙ p.same t;
    same_number = q.same_number ∙ p.same_number;
    goes_on = goes-joined told size faults keeps a b c p.goes_on q.goes_on;
  }

-- ---- facts of the same place

rows_same : (types : List SegDef) (area other : List (List ℕ)) (met more : List Pointer) (a b : List ℕ)
    (x y : List Pointer) (rows : List (List Node)) (after : List Pointer)
    → area ≡ other → met ≡ more → a ≡ b → x ≡ y → AreRows types area met a x rows after
    → AreRows types other more b y rows after
rows_same types area other met more a b x y rows after p q r s h =
    subst (λ e. AreRows types e more b y rows after) p
    (subst (λ m. AreRows types area m b y rows after) q
    (subst (λ t. AreRows types area met t y rows after) r (subst (λ f. AreRows types area met a f rows after) s h)))

fails_same : (types : List SegDef) (area other : List (List ℕ)) (met more : List Pointer) (home : ℕ) (a b : List ℕ)
    (x y : List Pointer) (ci : ℕ)
    → area ≡ other → met ≡ more → a ≡ b → x ≡ y → RowsFail types area met home home a x ci
    → RowsFail types other more home home b y ci
fails_same types area other met more home a b x y ci p q r s h =
    subst (λ e. RowsFail types e more home home b y ci) p
    (subst (λ m. RowsFail types area m home home b y ci) q
    (subst (λ t. RowsFail types area met home home t y ci) r
    (subst (λ f. RowsFail types area met home home a f ci) s h)))

-- an element was met, and what it says is this
pub record IsVisited (types : List SegDef) (area : List (List ℕ)) (met met_now : List Pointer) (type : ℕ) (at : Pointer)
    (said : Said) (list : List First) : Type 0 where
  pub now : List (List ℕ)
  pub same : now ≡ area
  pub has : HasSegment types now type at (segment_of said)
  pub fresh : ¬ Contains met at
  pub is_met : met_now ≡ at ∷ met
  pub typed : types_of said.firsts.items ≡ child_types types type
  pub is_list : list ≡ said.firsts.items

visited_has : {types : List SegDef} {area : List (List ℕ)} {met met_now : List Pointer} {type : ℕ} {at : Pointer}
    {said : Said} {list : List First}
    → IsVisited types area met met_now type at said list → HasSegment types area type at (segment_of said)
visited_has {types} {type = type} {at = at} {said = said} v =
    subst (λ e. HasSegment types e type at (segment_of said)) v.same v.has

-- what is below it
visited_rows : {types : List SegDef} {area : List (List ℕ)} {met met_now : List Pointer} {type : ℕ} {at : Pointer}
    {said : Said} {list : List First} (mid : List (List ℕ)) (rows : List (List Node)) (after : List Pointer)
    → mid ≡ area → IsVisited types area met met_now type at said list
    → AreRows types mid met_now (types_of list) (pointers_of list) rows after
    → AreRows types area (at ∷ met) (child_types types type) (segment_of said).firsts rows after
visited_rows {types} {area} {met} {met_now} {type} {at} {said} {list} mid rows after e v h =
    rows_same types mid area met_now (at ∷ met) (types_of list) (child_types types type) (pointers_of list)
    (pointers_of said.firsts.items) rows after
    e v.is_met (ap types_of v.is_list ∙ v.typed) (ap pointers_of v.is_list) h

visited_fails : {types : List SegDef} {area : List (List ℕ)} {met met_now : List Pointer} {type : ℕ} {at : Pointer}
    {said : Said} {list : List First} (mid : List (List ℕ)) (ci : ℕ)
    → mid ≡ area → IsVisited types area met met_now type at said list
    → RowsFail types mid met_now at.0 at.0 (types_of list) (pointers_of list) ci
    → RowsFail types area (at ∷ met) at.0 at.0 (child_types types type) (segment_of said).firsts ci
visited_fails {types} {area} {met} {met_now} {type} {at} {said} {list} mid ci e v h =
    fails_same types mid area met_now (at ∷ met) at.0 (types_of list) (child_types types type) (pointers_of list)
    (pointers_of said.firsts.items) ci
    e v.is_met (ap types_of v.is_list ∙ v.typed) (ap pointers_of v.is_list) h

-- ---- along a row

pub along_start : (types : List SegDef) (area : List (List ℕ)) (start : List Pointer) (home type : ℕ) (first : Pointer)
    → IsAlong types area start home type first [] start home first
along_start types area start home type first = record { reads = λ rest after h. h; fails = λ ci h. h }

pub along_wrong : (types : List SegDef) (area now : List (List ℕ)) (start met : List Pointer) (home type from ci : ℕ)
    (first at : Pointer) (row : List Node)
    → now ≡ area → IsAlong types area start home type first row met from at → at ≢ nothing
    → IsWrong types now met from type at ci → RowFails types area start home type first ci
along_wrong types area now start met home type from ci first at row e along there wrong =
    along.fails ci (record {
      whatever = λ home more firsts. here there
          (subst (λ a. IsWrong types a met from type at ci) e wrong);
    })

pub along_below : (types : List SegDef) (area mid : List (List ℕ)) (start met met_now : List Pointer)
    (home type from ci : ℕ) (first at : Pointer) (row : List Node) (said : Said) (list : List First)
    → mid ≡ area → IsAlong types area start home type first row met from at
    → IsVisited types area met met_now type at said list
    → RowsFail types mid met_now at.0 at.0 (types_of list) (pointers_of list) ci
    → RowFails types area start home type first ci
along_below types area mid start met met_now home type from ci first at row said list e along v h =
    along.fails ci (record {
      whatever = λ home more firsts. below (segment_of said) (visited_has v) v.fresh
          (visited_fails mid ci e v h);
    })

pub along_next : (types : List SegDef) (area mid : List (List ℕ)) (start met met_now between : List Pointer)
    (home type from : ℕ) (first at : Pointer) (row pushed : List Node) (said : Said) (list : List First)
    (children : List (List Node))
    → mid ≡ area → IsAlong types area start home type first row met from at
    → IsVisited types area met met_now type at said list
    → AreRows types mid met_now (types_of list) (pointers_of list) children between
    → pushed ≡ row ++ roll-Node (record { bytes = said.bytes; children = children }) ∷ []
    → IsAlong types area start home type first pushed between at.0 said.next
along_next types area mid start met met_now between home type from first at row pushed said list children e along v h p
    =
    let node : Node = roll-Node (record { bytes = said.bytes; children = children }) in
    let lower : AreRows types area (at ∷ met) (child_types types type) (segment_of said).firsts children between =
    visited_rows mid children between e v h in
    subst (λ r. IsAlong types area start home type first r between at.0 said.next) (sym p)
    (record {
      reads = λ rest after r.
          subst (λ l. IsRow types area start type first l after) (sym (append_assoc row (node ∷ []) rest))
          (along.reads (node ∷ rest) after (record {
            in_front = λ more firsts rows last k. segment (segment_of said) (visited_has v) v.fresh lower
                (r.in_front more firsts rows last k);
            behind = λ home2 from2 more firsts ci k. at_twin (segment_of said) (visited_has v) v.fresh lower
                (r.behind home2 at.0 more firsts ci k);
          }));
      fails = λ ci f. along.fails ci (record {
        whatever =
            λ home2 more firsts. at_twin (segment_of said) (visited_has v) v.fresh lower (f.whatever home2 more firsts);
      });
    })

pub along_end : (types : List SegDef) (area : List (List ℕ)) (start met : List Pointer) (home type from : ℕ)
    (first at : Pointer) (row : List Node)
    → at ≡ nothing → IsAlong types area start home type first row met from at
    → IsRow types area start type first row met
along_end types area start met home type from first at row e along =
    let none : IsRow types area met type at [] met = subst (λ p. IsRow types area met type p [] met) (sym e)
    (record { in_front = λ more firsts rows last h. row_end h; behind = λ home2 from2 more firsts ci h. next_row h }) in
    subst (λ l. IsRow types area start type first l met) (append-nil row) (along.reads [] met none)

-- ---- from row to row

pub among_start : (types : List SegDef) (area : List (List ℕ)) (start : List Pointer) (home : ℕ) (all : List ℕ)
    (firsts : List Pointer) → IsAmong types area start home all firsts [] start all firsts
among_start types area start home all firsts = record { reads = λ rest after h. h; fails = λ ci h. h }

pub left_first : (list : List First) (k : ℕ) (d : First) → k < length list
    → drop k list ≡ get_or list k d ∷ drop (k + 1) list
left_first list k d l =
    let n : suc k ≡ k + 1 = omega arith in
    drop-cons list k d l ∙ ap (λ j. get_or list k d ∷ drop j list) n

pub among_fails : (types : List SegDef) (area now : List (List ℕ)) (start met : List Pointer) (home ci : ℕ)
    (list : List First) (rows : List (List Node)) (k : ℕ) (d : First)
    → now ≡ area → k < length list
    → IsAmong types area start home (types_of list) (pointers_of list) rows met (types_of (drop k list))
    (pointers_of (drop k list))
    → RowFails types now met home (get_or list k d).segment (get_or list k d).at ci
    → RowsFail types area start home home (types_of list) (pointers_of list) ci
among_fails types area now start met home ci list rows k d e l among wrong =
    let first : First = get_or list k d in
    let left : drop k list ≡ first ∷ drop (k + 1) list = left_first list k d l in
    among.fails ci (subst (λ x. RowsFail types area met home home (types_of x) (pointers_of x) ci) (sym left)
    (subst (λ a. RowsFail types a met home home (first.segment ∷ types_of (drop (k + 1) list))
    (first.at ∷ pointers_of (drop (k + 1) list)) ci) e
    (wrong.whatever home (types_of (drop (k + 1) list)) (pointers_of (drop (k + 1) list)))))

pub among_next : (types : List SegDef) (area now : List (List ℕ)) (start met between : List Pointer) (home : ℕ)
    (list : List First) (rows pushed : List (List Node)) (row : List Node) (k : ℕ) (d : First)
    → now ≡ area → k < length list
    → IsAmong types area start home (types_of list) (pointers_of list) rows met (types_of (drop k list))
    (pointers_of (drop k list))
    → IsRow types now met (get_or list k d).segment (get_or list k d).at row between → pushed ≡ rows ++ row ∷ []
    → IsAmong types area start home (types_of list) (pointers_of list) pushed between (types_of (drop (k + 1) list))
    (pointers_of (drop (k + 1) list))
among_next types area now start met between home list rows pushed row k d e l among is_row p =
    let first : First = get_or list k d in
    let left : drop k list ≡ first ∷ drop (k + 1) list = left_first list k d l in
    let read : IsRow types area met first.segment first.at row between =
    subst (λ a. IsRow types a met first.segment first.at row between) e is_row in
    subst (λ r. IsAmong types area start home (types_of list) (pointers_of list) r between
    (types_of (drop (k + 1) list)) (pointers_of (drop (k + 1) list))) (sym p)
    (record {
      reads = λ rest after h.
          subst (λ r. AreRows types area start (types_of list) (pointers_of list) r after)
          (sym (append_assoc rows (row ∷ []) rest))
          (among.reads (row ∷ rest) after (subst (λ x. AreRows types area met (types_of x) (pointers_of x) (row ∷ rest)
          after) (sym left)
          (read.in_front (types_of (drop (k + 1) list)) (pointers_of (drop (k + 1) list)) rest after h)));
      fails = λ ci h. among.fails ci (subst (λ x. RowsFail types area met home home (types_of x) (pointers_of x) ci)
          (sym left)
          (read.behind home home (types_of (drop (k + 1) list)) (pointers_of (drop (k + 1) list)) ci h));
    })

pub among_end : (types : List SegDef) (area : List (List ℕ)) (start met : List Pointer) (home : ℕ) (list : List First)
    (rows : List (List Node)) (k : ℕ) → length list ≤ k
    → IsAmong types area start home (types_of list) (pointers_of list) rows met (types_of (drop k list))
    (pointers_of (drop k list))
    → AreRows types area start (types_of list) (pointers_of list) rows met
among_end types area start met home list rows k l among =
    let none : drop k list ≡ [] = drop_all k list l in
    subst (λ r. AreRows types area start (types_of list) (pointers_of list) r met) (append-nil rows)
    (among.reads [] met (subst (λ d. AreRows types area met (types_of d) (pointers_of d) [] met) (sym none) no_row))

-- ---- along the roots

pub roots_start : (types : List SegDef) (area : List (List ℕ)) (base : ℕ) (first : Pointer) (met : List Pointer)
    → met ≡ [] → IsAlongRoots types area base first [] met base first
roots_start types area base first met e = record {
  reads = λ rest after h. subst (λ m. AreRoots types area m first rest after) e h;
  fails = λ ci h. subst (λ m. RootsFail types area m base first ci) e h;
}

pub roots_wrong : (types : List SegDef) (area now : List (List ℕ)) (met : List Pointer) (base from ci : ℕ)
    (first at : Pointer) (roots : List Root)
    → now ≡ area → IsAlongRoots types area base first roots met from at → at ≢ nothing
    → IsWrong types now met from 0 at ci → RootsFail types area [] base first ci
roots_wrong types area now met base from ci first at roots e along there wrong =
    along.fails ci (root_here there (subst (λ a. IsWrong types a met from 0 at ci) e wrong))

pub roots_below : (types : List SegDef) (area mid : List (List ℕ)) (met met_now : List Pointer) (base from ci : ℕ)
    (first at : Pointer) (roots : List Root) (said : Said) (list : List First)
    → mid ≡ area → IsAlongRoots types area base first roots met from at
    → IsVisited types area met met_now 0 at said list
    → RowsFail types mid met_now at.0 at.0 (types_of list) (pointers_of list) ci → RootsFail types area [] base first ci
roots_below types area mid met met_now base from ci first at roots said list e along v h =
    along.fails ci (below_root (segment_of said) (visited_has v) v.fresh (visited_fails mid ci e v h))

pub roots_next : (types : List SegDef) (area mid : List (List ℕ)) (met met_now between : List Pointer) (base from : ℕ)
    (first at : Pointer) (roots pushed : List Root) (said : Said) (list : List First) (children : List (List Node))
    (seqs : List SeqItem)
    → mid ≡ area → IsAlongRoots types area base first roots met from at
    → IsVisited types area met met_now 0 at said list
    → AreRows types mid met_now (types_of list) (pointers_of list) children between
    → seqs ≡ newest said.serial
    → pushed ≡ roots ++ record { bytes = said.bytes; children = children; seqs = seqs } ∷ []
    → IsAlongRoots types area base first pushed between at.0 said.next
roots_next types area mid met met_now between base from first at roots pushed said list children seqs e along v h q p =
    let one : Root = record { bytes = said.bytes; children = children; seqs = newest said.serial } in
    let lower : AreRows types area (at ∷ met) (child_types types 0) (segment_of said).firsts children between =
    visited_rows mid children between e v h in
    subst (λ r. IsAlongRoots types area base first r between at.0 said.next)
    (sym (p ∙ ap (λ (l : List SeqItem). roots ++ record { bytes = said.bytes; children = children; seqs = l } ∷ []) q))
    (record {
      reads = λ rest after r.
          subst (λ l. AreRoots types area [] first l after) (sym (append_assoc roots (one ∷ []) rest))
          (along.reads (one ∷ rest) after (root (segment_of said) (visited_has v) v.fresh lower r));
      fails = λ ci f. along.fails ci (next_root (segment_of said) (visited_has v) v.fresh lower f);
    })

pub roots_end : (types : List SegDef) (area : List (List ℕ)) (met : List Pointer) (base from : ℕ) (first at : Pointer)
    (roots : List Root)
    → at ≡ nothing → IsAlongRoots types area base first roots met from at → AreRoots types area [] first roots met
roots_end types area met base from first at roots e along =
    subst (λ l. AreRoots types area [] first l met) (append-nil roots)
    (along.reads [] met (subst (λ p. AreRoots types area met p [] met) (sym e) no_root))

-- ---- what stands in what was met

pub all_stand_on : (types : List SegDef) (area now : List (List ℕ)) (old new : Walk) → now ≡ area
    → (AllStand types now old → AllStand types now new) → AllStand types area old → AllStand types area new
all_stand_on types area now old new e on h = subst (λ a. AllStand types a new) e
    (on (subst (λ a. AllStand types a old) (sym e) h))

-- ---- how far

pub walks_itself : (number : ℕ) (walk : Walk) → IsWalk number walk → WalksOn number walk walk
walks_itself number walk w = record { is_walk = w; more = omega arith; same_keyed = refl }

-- a walk that met one more has less to meet, and goes on
pub less_left : (number other : ℕ) (old visited new : Walk) → other ≡ number
    → length old.met.items < length visited.met.items → WalksOn other visited new
    → number * 4096 - length new.met.items < number * 4096 - length old.met.items
less_left number other old visited new e more on =
    let on_same : WalksOn number visited new = subst (λ n. WalksOn n visited new) e on in
    omega (arith, few_met number new on_same.is_walk, on_same.more, more)

pub walks_further : (number other : ℕ) (start old visited new : Walk) → other ≡ number → WalksOn number start old
    → length old.met.items < length visited.met.items → visited.keyed ≡ old.keyed → WalksOn other visited new
    → WalksOn number start new
walks_further number other start old visited new e first more keyed on =
    let on_same : WalksOn number visited new = subst (λ n. WalksOn n visited new) e on in
    record {
      is_walk = on_same.is_walk;
      more = omega (arith, first.more, on_same.more, more);
      same_keyed =
          on_same.same_keyed ∙ keyed ∙ first.same_keyed;
    }

pub walks_joined : (number other : ℕ) (start old new : Walk) → other ≡ number → WalksOn number start old
    → WalksOn other old new → WalksOn number start new
walks_joined number other start old new e first on =
    let on_same : WalksOn number old new = subst (λ n. WalksOn n old new) e on in
    record {
      is_walk = on_same.is_walk;
      more = omega (arith, first.more, on_same.more);
      same_keyed =
          on_same.same_keyed ∙ first.same_keyed;
    }

-- ---- a child's type has a greater number

child_step : (parent at : ℕ) (other : Option ℕ) (sequential : Bool) → IfSome other (λ p. p < at)
    → (option_map_or (λ p. p == parent) other false && not sequential) ≡ true → parent < at
child_step parent at None sequential h t = let z : false ≡ true = t in cc
child_step parent at (Some p) sequential h t = elim (cases_Bool (p == parent)) as (λ _. parent < at) [
  | inl e ↦ omega (arith, h, eqb-true p parent e)
  | inr f ↦ (let z : false ≡ true = sym (ap (λ b. b && not sequential) f) ∙ t in cc)
]

child_of_place : (parent at : ℕ) (def : SegDef) → HasPlace at def
    → (is_child_of parent def && not def.sequential) ≡ true → parent < at
child_of_place parent at def h t = child_step parent at def.parent def.sequential h.0 t

all_children_above : (parent at : ℕ) (types : List SegDef) → HavePlaces at types
    → All (λ n. (parent < n) × (n < at + length types))
    (numbers_from at (λ def. is_child_of parent def && not def.sequential) types)
all_children_above parent at [] h = All-nil (λ n. (parent < n) × (n < at + 0))
all_children_above parent at (def ∷ defs) h =
    let rest : All (λ n. (parent < n) × (n < at + 1 + length defs))
    (numbers_from (at + 1) (λ d. is_child_of parent d && not d.sequential) defs) =
    all_children_above parent (at + 1) defs h.1 in
    let wider : All (λ n. (parent < n) × (n < at + length (def ∷ defs)))
    (numbers_from (at + 1) (λ d. is_child_of parent d && not d.sequential) defs) =
    All-weaker (λ n. (parent < n) × (n < at + 1 + length defs)) (λ n. (parent < n) × (n < at + length (def ∷ defs)))
    (λ n r. (r.0, omega (arith, r.1))) (numbers_from (at + 1) (λ d. is_child_of parent d && not d.sequential) defs)
    rest in
    elim (cases_Bool (is_child_of parent def && not def.sequential)) as
    (λ _. All (λ n. (parent < n) × (n < at + length (def ∷ defs)))
    (numbers_from at (λ d. is_child_of parent d && not d.sequential) (def ∷ defs))) [
      | inl t ↦ rw t (All-cons (λ n. (parent < n) × (n < at + length (def ∷ defs))) at
          (numbers_from (at + 1) (λ d. is_child_of parent d && not d.sequential) defs)
          (child_of_place parent at def h.0 t, omega arith) wider)
      | inr f ↦ rw f wider
    ]

pub child_above : (types : List SegDef) (parent : ℕ) (list : List First) (k : ℕ) (d : First) → HavePlaces 0 types
    → types_of list ≡ child_types types parent → k < length list
    → (parent < (get_or list k d).segment) × ((get_or list k d).segment < length types)
child_above types parent list k d h e l =
    let all : All (λ n. (parent < n) × (n < 0 + length types)) (child_types types parent) =
    all_children_above parent 0 types h in
    let here_too : All (λ n. (parent < n) × (n < 0 + length types)) (types_of list) =
    subst (λ ns. All (λ n. (parent < n) × (n < 0 + length types)) ns) (sym e) all in
    let n : length (types_of list) ≡ length list = length-map list (λ f. f.segment) in
    let r : (parent < get_or (types_of list) k 0) × (get_or (types_of list) k 0 < 0 + length types) =
    here_too k 0 (omega arith) in
    let s : get_or (types_of list) k 0 ≡ (get_or list k d).segment = get_or-map (λ f. f.segment) list k d 0 l in
    (omega (arith, r.0, s), omega (arith, r.1, s))
