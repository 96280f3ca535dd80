use Rattle.std.proofs.Common.{◌≡◌, ◌∙◌, ◌<◌, ◌-◌, ◌+◌, ◌++◌, ◌∷◌, ℕ, suc, List, [], length, get_or, take, drop, sym, ap, subst, arith}
use Rattle.std.proofs.lemmas.List.{drop_all, get_or_read, length-append, take_all}
use Rattle.fp_model.specs.Order.{child_types, key_in}
use Rattle.root_anchor.specs.declared.standing.Standing.{Standing}
use Rattle.root_anchor.specs.Keeping.{keys_of_rows}
use Rattle.root_anchor.specs.inside.Keeping.{IsLastOf, PlansAll, kept, keys_of_row}
use Rattle.root_anchor.specs.inside.Rebuilding.{types_of, types_of_segment, types_of_row}
use Rattle.fp_model.specs.declared.database.Node.{Node, out-Node}
use Rattle.root_anchor.proofs.Growing.{row-planned, rows-planned, rows-unplanned, planned-on}
use Rattle.root_anchor.proofs.KeepLemmas.{headed, headed-last, in_rows_none, planning-none, planning-on, planning-whole, row-keys, rows-keys}
use Rattle.root_anchor.proofs.TypeLemmas.{row-node, rows-count, rows-row, child-behind, child-direct}
use Rattle.root_anchor.proofs.plan.+plans.Goals as goal
use Rattle.root_anchor.proofs.plan.+plans.Goals.{plan_segment-in-Some, plan_segment-in_default}
use Rattle.plain_laws.proofs.Results.{on_ok_map}

pub plan_row-plan_segment-requires : goal.plan_row-plan_segment-requires
plan_row-plan_segment-requires t c =
    let node = c.index-as_slice-left.result in
    let is = c.index-as_slice-left.is ∙ ap (λ xs. get_or xs (c.loop-left.left - 1) node) c.as_slice.ensures in
    let shape = row-node c.args.segments.now c.args.segment c.args.row.now (c.loop-left.left - 1) node c.requires.row
    (omega (arith, c.loop-left.invariant.within, c.loop-left-test.true)) is in
    (omega (arith, c.decreases, c.requires.defined, c.requires.few), (c.requires.few, (c.requires.places, shape.rows)))

pub plan_row-loop-left-init : goal.plan_row-loop-left-init
plan_row-loop-left-init t c =
    let row = c.args.row.now in
    let whole : take c.len-left.result row ≡ row = take_all c.len-left.result row (omega (arith, c.len-left.ensures)) in
    let none : drop c.len-left.result row ≡ [] = drop_all c.len-left.result row (omega (arith, c.len-left.ensures)) in
    record {
      within = omega (arith, c.len-left.ensures);
      types = ap (λ (r : List Node). types_of_row c.args.segments.now c.args.segment r ++ types_of c.args.plan.now.items)
          (sym none);
      shares = λ all s. s;
      kept = λ b p e t f m. planning-none b p _ _ _ _ e t
          (m ∙ ap (λ (r : List Node). keys_of_row c.args.segments.now c.args.segment r) (sym whole));
    }

pub plan_row-loop-left-preserved : goal.plan_row-loop-left-preserved
plan_row-loop-left-preserved t c = record {
  within = omega (arith, c.loop-left.invariant.within);
  types = planned-on _ _ _ _ _ (types_of_segment c.args.segments.now c.args.segment
      (out-Node c.index-as_slice-left.result).children) c.in_ok-plan_segment.ensures.types c.loop-left.invariant.types
      (row-planned c.args.segments.now c.args.segment c.args.row.now _ c.loop-left.left _ c.loop-left-test.true
      c.loop-left.invariant.within c.as_slice.ensures c.index-as_slice-left.is);
  shares = λ all s. c.in_ok-plan_segment.ensures.shares all (c.loop-left.invariant.shares all s);
  kept = λ b p e t f m.
      let node = c.index-as_slice-left.result in
      let is = c.index-as_slice-left.is ∙ ap (λ xs. get_or xs (c.loop-left.left - 1) node) c.as_slice.ensures in
      let suc_left : suc (c.loop-left.left - 1) ≡ c.loop-left.left = omega (arith, c.loop-left-test.true) in
      planning-on b p _ _ c.args.from _ _ _ _ _ _ _ _ f
      (ap (λ k. keys_of_row c.args.segments.now c.args.segment (take k c.args.row.now)) (sym suc_left)
      ∙ row-keys c.args.segments.now c.args.segment c.args.row.now (c.loop-left.left - 1) node
      (omega (arith, c.loop-left.invariant.within, c.loop-left-test.true)) is)
      (c.loop-left.invariant.kept b p e t f m) c.in_ok-plan_segment.ensures.kept;
}

pub plan_row-returns-clause-kept : goal.plan_row-returns-clause-kept
plan_row-returns-clause-kept t c = λ b p e t2 f m.
    let none : c.loop-left.left ≡ 0 = omega arith in
    planning-whole b p _ _ _ _ _ (ap (λ k. keys_of_row c.args.segments.now c.args.segment (take k c.args.row.now)) none)
    (c.loop-left.invariant.kept b p e t2 f m)

pub plan_rows-loop-left-init : goal.plan_rows-loop-left-init
plan_rows-loop-left-init t c = record {
  within = omega (arith, c.len-left.ensures);
  types = ap (λ xs. xs ++ types_of c.args.plan.now.items)
      (sym (rows-unplanned c.args.segments.now c.in_ok-types.types.items c.args.rows.now c.len-left.result
      c.len-left.ensures));
  shares = λ all s. s;
  kept = λ b p e t f m.
      let types = c.args.segments.now in
      let rows = c.args.rows.now in
      let are : c.in_ok-types.types.items ≡ child_types types c.args.segment =
      c.in_ok-types.ensures.types ∙ ap (λ ts. child_types ts c.args.segment) c.as_slice.ensures in
      let n : length rows ≡ length c.in_ok-types.types.items =
      rows-count types (child_types types c.args.segment) rows c.requires.rows ∙ ap length (sym are) in
      let whole : take c.len-left.result rows ≡ rows =
      take_all c.len-left.result rows (omega (arith, c.len-left.ensures)) in
      let kinds : take c.len-left.result c.in_ok-types.types.items ≡ c.in_ok-types.types.items =
      take_all c.len-left.result c.in_ok-types.types.items (omega (arith, c.len-left.ensures, n)) in
      planning-none b p _ _ _ _ e t
      (m ∙ ap (λ (ks : List ℕ). keys_of_rows types ks rows) (sym kinds)
      ∙ ap (λ (r : List (List Node)). keys_of_rows types (take c.len-left.result c.in_ok-types.types.items) r) (sym whole));
}

pub plan_rows-index-requires : goal.plan_rows-index-requires
plan_rows-index-requires t c =
    let types = c.args.segments.now in
    let are : c.in_ok-types.types.items ≡ child_types types c.args.segment =
    c.in_ok-types.ensures.types ∙ ap (λ ts. child_types ts c.args.segment) c.as_slice.ensures in
    let m : length c.args.rows.now ≡ length c.in_ok-types.types.items =
    rows-count types (child_types types c.args.segment) c.args.rows.now c.requires.rows ∙ ap length (sym are) in
    omega (arith, m, c.loop-left.invariant.within, c.loop-left-test.true)

pub plan_rows-plan_row-requires : goal.plan_rows-plan_row-requires
plan_rows-plan_row-requires t c =
    let types = c.args.segments.now in
    let rows = c.args.rows.now in
    let kinds = child_types types c.args.segment in
    let m : length rows ≡ length kinds = rows-count types kinds rows c.requires.rows in
    let are : c.in_ok-types.types.items ≡ kinds = c.in_ok-types.ensures.types ∙ ap (λ ts. child_types ts c.args.segment)
    c.as_slice.ensures in
    let n : length c.in_ok-types.types.items ≡ length kinds = ap length are in
    let k = c.loop-left.left - 1 in
    let row = c.index-as_slice-left.result in
    let below : k < length kinds = omega (arith, m, c.loop-left.invariant.within, c.loop-left-test.true) in
    let here : k < length rows = omega (arith, m, c.loop-left.invariant.within, c.loop-left-test.true) in
    let is : row ≡ get_or rows k row = c.index-as_slice-left.is ∙ ap (λ xs. get_or xs k row)
    c.as_slice-in-loop-left.ensures in
    let type : c.index.result.now ≡ get_or kinds k 0 =
    get_or_read c.in_ok-types.types.items k c.index.result.now (omega (arith, n, below)) c.index.ensures 0 ∙ ap
    (λ xs. get_or xs k 0) are in
    let above = child-behind types c.args.segment k c.requires.places below in
    let direct = child-direct types c.args.segment k below in (
      omega (arith, c.decreases, above, type, direct.defined, c.requires.few),
      (
        c.requires.few,
        (
          c.requires.places,
          (
            rows-row types kinds rows k row c.index.result.now c.requires.rows here is
                type,
            omega (arith, type, direct.defined),
          ),
        ),
      ),
    )

pub plan_rows-loop-left-preserved : goal.plan_rows-loop-left-preserved
plan_rows-loop-left-preserved t c =
    let types = c.args.segments.now in
    let are : c.in_ok-types.types.items ≡ child_types types c.args.segment =
    c.in_ok-types.ensures.types ∙ ap (λ ts. child_types ts c.args.segment) c.as_slice.ensures in
    let m : length c.args.rows.now ≡ length c.in_ok-types.types.items =
    rows-count types (child_types types c.args.segment) c.args.rows.now c.requires.rows ∙ ap length (sym are) in
    let type = get_or_read c.in_ok-types.types.items (c.loop-left.left - 1) c.index.result.now
    (omega (arith, m, c.loop-left.invariant.within, c.loop-left-test.true)) c.index.ensures 0 in
    record {
      within = omega (arith, c.loop-left.invariant.within);
      types = planned-on _ _ _ _ _ (types_of_row types c.index.result.now c.index-as_slice-left.result)
          c.in_ok-plan_row.ensures.types c.loop-left.invariant.types
          (rows-planned types c.in_ok-types.types.items c.args.rows.now _ c.loop-left.left _ c.index.result.now m
          c.loop-left-test.true c.loop-left.invariant.within c.as_slice-in-loop-left.ensures
          c.index-as_slice-left.is type);
      shares = λ all s. c.in_ok-plan_row.ensures.shares all (c.loop-left.invariant.shares all s);
      kept = λ b p e t f m2.
          let kinds = c.in_ok-types.types.items in
          let rows = c.args.rows.now in
          let k = c.loop-left.left - 1 in
          let row = c.index-as_slice-left.result in
          let is : row ≡ get_or rows k row = c.index-as_slice-left.is ∙ ap (λ xs. get_or xs k row)
          c.as_slice-in-loop-left.ensures in
          let suc_left : suc k ≡ c.loop-left.left = omega (arith, c.loop-left-test.true) in
          planning-on b p _ _ c.args.from _ _ _ _ _ _ _ _ f
          (ap (λ j. keys_of_rows types (take j kinds) (take j rows)) (sym suc_left)
          ∙ rows-keys types kinds rows k row m (omega (arith, c.loop-left.invariant.within, c.loop-left-test.true)) is
          ∙ ap (λ x. keys_of_rows types (take k kinds) (take k rows) ++ keys_of_row types x row) (sym type))
          (c.loop-left.invariant.kept b p e t f m2) c.in_ok-plan_row.ensures.kept;
    }

pub plan_rows-returns-clause-kept : goal.plan_rows-returns-clause-kept
plan_rows-returns-clause-kept t c = λ b p e t2 f m.
    let types = c.args.segments.now in
    let are : c.in_ok-types.types.items ≡ child_types types c.args.segment =
    c.in_ok-types.ensures.types ∙ ap (λ ts. child_types ts c.args.segment) c.as_slice.ensures in
    let none : c.loop-left.left ≡ 0 = omega arith in
    planning-whole b p _ _ _ _ _
    (ap (λ k. keys_of_rows types (take k c.in_ok-types.types.items) (take k c.args.rows.now)) none
    ∙ in_rows_none (take 0 c.in_ok-types.types.items))
    (c.loop-left.invariant.kept b p e t2 f
    (m ∙ ap (λ (ks : List ℕ). keys_of_rows types ks c.args.rows.now) (sym are)))

pub plan_segment-returns-clause-kept : goal.plan_segment-returns-clause-kept
plan_segment-returns-clause-kept t c = λ before part e t2 f m.
    let types = c.args.segments.now in
    let type = c.args.segment in
    let rows = c.args.children.now in
    let key : c.key_in-key.result.now ≡ key_in types type c.args.bytes.now =
    c.key_in-key.ensures ∙ ap (key_in types type) c.as_slice.ensures in
    let h = headed before part c.args.standing.now.items type (key_in types type c.args.bytes.now)
    (keys_of_rows types (child_types types type) rows) e m in
    let last = headed-last types c.requires.places before part c.args.standing.now.items type
    (key_in types type c.args.bytes.now) rows h in
    let P : List Standing → Type 0 = λ xs. IsLastOf xs type (key_in types type c.args.bytes.now) (length before) in
    let Q : List ℕ → Type 0 = λ k. IsLastOf c.as_slice-2.result.now type k (length before) in
    let same : c.as_slice-2.result.now ≡ c.args.standing.now.items = c.as_slice-2.ensures.value in
    let long : length c.as_slice-2.result.now ≡ length c.args.standing.now.items = ap length same in
    let found = c.find_like-found.ensures.last (length before) (subst Q (sym key) (subst P (sym same) last)) f
    (omega (arith, long, t2)) in
    let first = c.below-first.ensures (length before) found.0 in
    let more : length (before ++ h.one ∷ []) ≡ length before + 1 = length-append before (h.one ∷ []) in
    let below = c.in_ok-plan_rows.ensures.kept (before ++ h.one ∷ []) h.below h.stand (found.1 ∙ long)
    (omega (arith, first, more)) h.are in
    let to : c.match-found.to ≡ length before = (elim c.match-found.branch [
      | plan_segment-in-Some w ↦ (let is = w.in-Some.is in let at = found.0 in let eq = w.to-is in cc)
      | plan_segment-in_default w ↦ (let is = w.in_default.is in let at = found.0 in absurd (cc))
    ]) in
    on_ok_map _ _ _ (λ x. (let all : PlansAll before part c.plan_itself.new.standing.items c.match-found.to
    c.args.plan.now.items c.plan_itself.new.plan.items = record {
      left = x.0;
      ends = to;
      planned = x.1 ∙ ap (λ xs. kept (h.one ∷ []) ++ xs) below.planned
          ∙ ap (λ xs. kept xs ++ c.args.plan.now.items) (sym h.parts);
    } in all)) (c.plan_itself.ensures.last before h.one below.left found.0 h.is_segment)
