use Rattle.std.proofs.Common.{refl, arith, ◌≡◌, ℕ, ◌+◌, ◌-◌, ◌<◌, ◌≤◌, List, [], ◌∷◌, ◌++◌, length, take, Bool, true, false, not, ◌&&◌, ◌||◌, ◌==◌, get_or, ap, sym, subst, ◌∙◌, length-append}
use Rattle.std.specs.List.{IsDistinct}
use Rattle.std.proofs.lemmas.List.{length-set, length-take}
use Rattle.ci_locks.specs.Graph.{is_in}
use Rattle.ci_locks.specs.inside.Graph.{Along, leads, set_at}
use Rattle.ci_locks.specs.Sets.{has}
use Rattle.ci_locks.proofs.Members.{is_member, member_is, take_put}
use Rattle.ci_locks.proofs.Walks.{AreNoLater, Searched, back, begins, closes, end_within, few, fewer, none, none_before, onward, onward_before, still_before}
use Rattle.ci_locks.proofs.search.cycle_through.Goals as goal
use Rattle.ci_locks.proofs.search.cycle_through.Goals.{After-with-met-in-Some}
use Rattle.std.proofs.lemmas.Bool.{and_parts}
use Rattle.plain_laws.proofs.Truths.{not_true}
use Rattle.plain_laws.proofs.Lists.{take-last}

no_edge : (b : Bool) → ¬ (b ≡ true) → b ≡ false
no_edge true none = absurd (none refl)
no_edge false none = refl

and_not : (a b : Bool) → a ≡ true → b ≡ false → (a && not b) ≡ true
and_not a true e f = absurd (cc)
and_not true false e f = refl
and_not false false e f = absurd (cc)

left_out : (a b : Bool) → (a && not b) ≡ false → a ≡ true → b ≡ true
left_out true true e is = refl
left_out true false e is = absurd (cc)
left_out false b e is = absurd (cc)

apart : (next : ℕ → List ℕ) (asker regions : ℕ) (met : ℕ → Bool) (path : List ℕ) (count : ℕ) → 0 < count
    → count ≤ length path → Searched next asker regions met (take count path)
    → Searched next asker regions met (take (count - 1) path ++ get_or path (count - 1) 0 ∷ [])
apart next asker regions met path count some most s = let P : List ℕ → Type 0 = Searched next asker regions met in
    subst P (take-last path count some most) s

-- on to a region that is not met
further : (next : ℕ → List ℕ) (asker regions : ℕ) (met met2 : ℕ → Bool) (path : List ℕ) (count r : ℕ) → 0 < count
    → count ≤ length path → Searched next asker regions met (take count path)
    → is_in (next (get_or path (count - 1) 0)) r ≡ true → met r ≡ false → (1 ≤ r) × (r ≤ regions)
    → ((x : ℕ) → met2 x ≡ (x == r || met x))
    → Searched next asker regions met2 (take count path ++ r ∷ [])
further next asker regions met met2 path count r some most s edge fresh range is =
    let P : List ℕ → Type 0 = λ l. Searched next asker regions met2 (l ++ r ∷ []) in
    subst P (sym (take-last path count some most))
    (onward next asker regions met met2 (take (count - 1) path) (get_or path (count - 1) 0) r
    (apart next asker regions met path count some most s) edge fresh range is)

long : (path : List ℕ) (count r : ℕ) → count ≤ length path → length (take count path ++ r ∷ []) ≡ count + 1
long path count r most = let e = length-take count path in
    omega (arith, length-append (take count path) (r ∷ []), e, most)

pub loop-count-init : goal.loop-count-init
loop-count-init c = record {
  searched = begins (leads c.args.regions.now c.args.asker c.args.ahead.0) c.args.asker (length c.args.regions.now)
      (has c.with-met.result.0) c.requires.some c.requires.within
      (λ x. c.with-met.ensures x ∙ ap (λ b. x == c.args.asker || b) (c.empty.ensures x));
  first = none_before (leads c.args.regions.now c.args.asker c.args.ahead.0) c.args.asker;
  long = omega (arith, c.requires.some, c.requires.within);
  room = refl;
}

pub set_at-on-requires-clause-some : goal.set_at-on-requires-clause-some
set_at-on-requires-clause-some c =
    let next = leads c.args.regions.now c.args.asker c.args.ahead.0 in
    let most : c.loop-count.count ≤ length c.loop-count.path =
    omega (arith, c.loop-count.invariant.long, c.loop-count.invariant.room, c.requires.most) in
    (end_within next c.args.asker (length c.args.regions.now) (has c.loop-count.met.0)
    (take (c.loop-count.count - 1) c.loop-count.path) (get_or c.loop-count.path (c.loop-count.count - 1) 0)
    (apart next c.args.asker (length c.args.regions.now) (has c.loop-count.met.0) c.loop-count.path c.loop-count.count
    c.loop-count-test.true most c.loop-count.invariant.searched)).0

pub set_at-on-requires-clause-within : goal.set_at-on-requires-clause-within
set_at-on-requires-clause-within c =
    let next = leads c.args.regions.now c.args.asker c.args.ahead.0 in
    let most : c.loop-count.count ≤ length c.loop-count.path =
    omega (arith, c.loop-count.invariant.long, c.loop-count.invariant.room, c.requires.most) in
    (end_within next c.args.asker (length c.args.regions.now) (has c.loop-count.met.0)
    (take (c.loop-count.count - 1) c.loop-count.path) (get_or c.loop-count.path (c.loop-count.count - 1) 0)
    (apart next c.args.asker (length c.args.regions.now) (has c.loop-count.met.0) c.loop-count.path c.loop-count.count
    c.loop-count-test.true most c.loop-count.invariant.searched)).1

pub returns-then-has-clause-found : goal.returns-then-has-clause-found
returns-then-has-clause-found c =
    let next = leads c.args.regions.now c.args.asker c.args.ahead.0 in
    let end = get_or c.loop-count.path (c.loop-count.count - 1) 0 in
    let most : c.loop-count.count ≤ length c.loop-count.path =
    omega (arith, c.loop-count.invariant.long, c.loop-count.invariant.room, c.requires.most) in
    let edge : is_in (next end) c.args.asker ≡ true =
    is_member (set_at c.args.regions.now c.args.asker c.args.ahead.0 end) c.args.asker c.requires.some
    (omega (arith, c.requires.within, c.requires.most))
    (ap (λ word. has word c.args.asker) (sym c.set_at-on.ensures) ∙ sym c.has.ensures ∙ c.if-has.true) in
    let found = closes next c.args.asker (length c.args.regions.now) (has c.loop-count.met.0)
    (take (c.loop-count.count - 1) c.loop-count.path) end
    (apart next c.args.asker (length c.args.regions.now) (has c.loop-count.met.0) c.loop-count.path c.loop-count.count
    c.loop-count-test.true most c.loop-count.invariant.searched) edge in
    let P : List ℕ → Type 0 = λ list. (cycle : List ℕ) × (list ≡ c.args.asker ∷ cycle)
    × Along next c.args.asker cycle c.args.asker × IsDistinct ◌==◌ list in
    subst P (sym (c.in_ok-from_slice.ensures ∙ take-last c.loop-count.path c.loop-count.count c.loop-count-test.true most))
    found

pub returns-then-has-clause-first : goal.returns-then-has-clause-first
returns-then-has-clause-first c =
    let P : List ℕ → Type 0 = AreNoLater (leads c.args.regions.now c.args.asker c.args.ahead.0) c.args.asker in
    subst P (sym c.in_ok-from_slice.ensures) c.loop-count.invariant.first

step : (c : After-with-met-in-Some) → Searched (leads c.args.regions.now c.args.asker c.args.ahead.0) c.args.asker
    (length c.args.regions.now) (has c.with-met-in-Some.result.0)
    (take c.loop-count.count c.loop-count.path ++ c.in-Some.region ∷ [])
step c =
    let next = leads c.args.regions.now c.args.asker c.args.ahead.0 in
    let end = get_or c.loop-count.path (c.loop-count.count - 1) 0 in
    let word = set_at c.args.regions.now c.args.asker c.args.ahead.0 end in
    let r = c.in-Some.region in
    let parts = and_parts (has c.set_at-on.result.0 r) (not (has c.loop-count.met.0 r))
    (sym (c.less.ensures r) ∙ c.in-Some.ensures.some) in
    let on : has word r ≡ true = ap (λ w. has w r) (sym c.set_at-on.ensures) ∙ parts.0 in
    let range = c.requires.range end r on in
    further next c.args.asker (length c.args.regions.now) (has c.loop-count.met.0) (has c.with-met-in-Some.result.0)
    c.loop-count.path c.loop-count.count r c.loop-count-test.true
    (omega (arith, c.loop-count.invariant.long, c.loop-count.invariant.room, c.requires.most))
    c.loop-count.invariant.searched
    (is_member word r range.0 (omega (arith, range.1, c.requires.most)) on)
    (not_true (has c.loop-count.met.0 r) parts.1) range c.with-met-in-Some.ensures

-- and no cycle comes before the way that goes on so
before : (c : After-with-met-in-Some) → AreNoLater (leads c.args.regions.now c.args.asker c.args.ahead.0) c.args.asker
    (take c.loop-count.count c.loop-count.path ++ c.in-Some.region ∷ [])
before c =
    let next = leads c.args.regions.now c.args.asker c.args.ahead.0 in
    let end = get_or c.loop-count.path (c.loop-count.count - 1) 0 in
    let word = set_at c.args.regions.now c.args.asker c.args.ahead.0 end in
    let met = has c.loop-count.met.0 in
    let most : c.loop-count.count ≤ length c.loop-count.path =
    omega (arith, c.loop-count.invariant.long, c.loop-count.invariant.room, c.requires.most) in
    let through = take (c.loop-count.count - 1) c.loop-count.path in
    let way = take-last c.loop-count.path c.loop-count.count c.loop-count-test.true most in
    let P : List ℕ → Type 0 = λ l. AreNoLater next c.args.asker (l ++ c.in-Some.region ∷ []) in
    let Q : List ℕ → Type 0 = AreNoLater next c.args.asker in
    let on : (b : ℕ) → has c.set_at-on.result.0 b ≡ has word b = λ b. ap (λ w. has w b) c.set_at-on.ensures in
    subst P (sym way)
    (onward_before next c.args.asker (length c.args.regions.now) met through end c.in-Some.region
    (apart next c.args.asker (length c.args.regions.now) met c.loop-count.path c.loop-count.count
    c.loop-count-test.true most c.loop-count.invariant.searched)
    (no_edge (is_in (next end) c.args.asker) (λ edge.
    let wrong : false ≡ true = sym c.if-has.false ∙ c.has.ensures ∙ on c.args.asker ∙ member_is word c.args.asker edge
    in absurd (cc)))
    (λ b edge fresh. c.in-Some.ensures.least b
    (c.less.ensures b ∙ and_not (has c.set_at-on.result.0 b) (met b) (on b ∙ member_is word b edge) fresh))
    (subst Q way c.loop-count.invariant.first))

pub bounds-path-count-in-Some : goal.bounds-path-count-in-Some
bounds-path-count-in-Some c =
    let next = leads c.args.regions.now c.args.asker c.args.ahead.0 in
    let most : c.loop-count.count ≤ length c.loop-count.path =
    omega (arith, c.loop-count.invariant.long, c.loop-count.invariant.room, c.requires.most) in
    let count = few next c.args.asker (length c.args.regions.now) (has c.with-met-in-Some.result.0)
    (take c.loop-count.count c.loop-count.path ++ c.in-Some.region ∷ []) (step c) in
    omega (arith, count, long c.loop-count.path c.loop-count.count c.in-Some.region most, c.requires.most)

pub loop-count-smaller-in-Some : goal.loop-count-smaller-in-Some
loop-count-smaller-in-Some c =
    let r = c.in-Some.region in
    let end = get_or c.loop-count.path (c.loop-count.count - 1) 0 in
    let parts = and_parts (has c.set_at-on.result.0 r) (not (has c.loop-count.met.0 r))
    (sym (c.less.ensures r) ∙ c.in-Some.ensures.some) in
    let range = c.requires.range end r (ap (λ w. has w r) (sym c.set_at-on.ensures) ∙ parts.0) in
    let less = fewer (has c.loop-count.met.0) (has c.with-met-in-Some.result.0) r (length c.args.regions.now)
    (not_true (has c.loop-count.met.0 r) parts.1) range c.with-met-in-Some.ensures in
    omega (arith, less)

pub loop-count-preserved-in-Some : goal.loop-count-preserved-in-Some
loop-count-preserved-in-Some c =
    let next = leads c.args.regions.now c.args.asker c.args.ahead.0 in
    let most : c.loop-count.count ≤ length c.loop-count.path =
    omega (arith, c.loop-count.invariant.long, c.loop-count.invariant.room, c.requires.most) in
    let count = few next c.args.asker (length c.args.regions.now) (has c.with-met-in-Some.result.0)
    (take c.loop-count.count c.loop-count.path ++ c.in-Some.region ∷ []) (step c) in
    let more = long c.loop-count.path c.loop-count.count c.in-Some.region most in
    let P : List ℕ → Type 0 = Searched next c.args.asker (length c.args.regions.now) (has c.with-met-in-Some.result.0)
    in
    let Q : List ℕ → Type 0 = AreNoLater next c.args.asker in
    record {
      searched = subst P (sym (take_put c.loop-count.path c.loop-count.count c.in-Some.region
          (omega (arith, count, more, c.requires.most, c.loop-count.invariant.room)))) (step c);
      first = subst Q (sym (take_put c.loop-count.path c.loop-count.count c.in-Some.region
          (omega (arith, count, more, c.requires.most, c.loop-count.invariant.room)))) (before c);
      long = omega (arith, count, more);
      room = length-set c.loop-count.path c.loop-count.count c.in-Some.region ∙ c.loop-count.invariant.room;
    }

pub loop-count-preserved : goal.loop-count-preserved
loop-count-preserved c =
    let next = leads c.args.regions.now c.args.asker c.args.ahead.0 in
    let end = get_or c.loop-count.path (c.loop-count.count - 1) 0 in
    let met = has c.loop-count.met.0 in
    let most : c.loop-count.count ≤ length c.loop-count.path =
    omega (arith, c.loop-count.invariant.long, c.loop-count.invariant.room, c.requires.most) in
    record {
      searched = back next c.args.asker (length c.args.regions.now) met
          (take (c.loop-count.count - 1) c.loop-count.path) end
          (apart next c.args.asker (length c.args.regions.now) met c.loop-count.path c.loop-count.count
          c.loop-count-test.true most c.loop-count.invariant.searched)
          (λ b edge.
          let on : has c.set_at-on.result.0 b ≡ true =
          ap (λ word. has word b) c.set_at-on.ensures ∙ member_is
          (set_at c.args.regions.now c.args.asker c.args.ahead.0 end) b edge in (
            left_out (has c.set_at-on.result.0 b) (met b) (sym (c.less.ensures b) ∙ c.in-None.ensures.none b) on,
            (λ same. let wrong : false ≡ true = sym c.if-has.false ∙ c.has.ensures ∙ ap (has c.set_at-on.result.0)
                (sym same) ∙ on in absurd (cc)),
          ));
      first =
          let P : List ℕ → Type 0 = AreNoLater next c.args.asker in
          still_before next c.args.asker (take (c.loop-count.count - 1) c.loop-count.path) end
          (subst P (take-last c.loop-count.path c.loop-count.count c.loop-count-test.true most)
          c.loop-count.invariant.first);
      long = omega (arith, c.loop-count.invariant.long);
      room = c.loop-count.invariant.room;
    }

pub returns-clause-found : goal.returns-clause-found
returns-clause-found c =
    let next = leads c.args.regions.now c.args.asker c.args.ahead.0 in
    let zero : c.loop-count.count ≡ 0 = omega (arith, c.loop-count-test.false) in
    let P : ℕ → Type 0 = λ k. Searched next c.args.asker (length c.args.regions.now) (has c.loop-count.met.0)
    (take k c.loop-count.path) in
    none next c.args.asker (length c.args.regions.now) (has c.loop-count.met.0)
    (subst P zero c.loop-count.invariant.searched)
