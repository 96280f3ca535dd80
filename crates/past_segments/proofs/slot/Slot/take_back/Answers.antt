use Rattle.std.proofs.Common.{ap, subst, sym, ◌∙◌, arith, refl, ◌≡◌, ◌<◌, ◌≤◌, ℕ, List, [], ◌∷◌, ◌++◌, Option, true}
use Rattle.std.specs.Prelude.{MatchOption}
use Rattle.past_segments.specs.Times.{EndsBy, HasKey, Rises, value_at}
use Rattle.past_segments.specs.inside.Times.{reaches}
use Rattle.past_segments.specs.declared.slot.Version.{Version}
use Rattle.std.specs.Prelude.{IfSome, take}
use Rattle.past_segments.proofs.Values.{all_front, not_reached, popped, rises_front, value_stays}
use Rattle.past_segments.proofs.slot.Slot.take_back.Goals as goal

module _ (place : ℕ) (r : Option Version) (old new : List Version)
    (gone : MatchOption r ((old ≡ []) × (new ≡ [])) (λ last. old ≡ new ++ last ∷ [])) (e : reaches place old ≡ true) where
  stays : (p : ℕ) → p < place → value_at p new ≡ value_at p old
  stays p less = let q = popped place r old new gone e in
      sym (ap (value_at p) q.1 ∙ value_stays p new q.0 (omega (arith, less, q.2)))

  rises : Rises old → Rises new
  rises up = let q = popped place r old new gone e in (rises_front new q.0 (subst Rises q.1 up)).0

  has_key : (count : ℕ) (key : List ℕ) → HasKey count key old → HasKey count key new
  has_key count key all = let q = popped place r old new gone e in
      (all_front (λ (v : Version). IfSome v.segment (λ s. take count s ≡ key)) new q.0
      (subst (HasKey count key) q.1 all)).0

  settled : (p : ℕ) → EndsBy p old → EndsBy p new
  settled p all = let q = popped place r old new gone e in
      (all_front (λ (v : Version). v.from ≤ p) new q.0 (subst (EndsBy p) q.1 all)).0

pub loop-self-preserved-in-loop-self : goal.loop-self-preserved-in-loop-self
loop-self-preserved-in-loop-self c =
    let e = sym c.reaches.ensures ∙ c.loop-self-test.true in
    let old = c.loop-self.self.versions in
    record {
      before = λ p less. stays c.args.place c.pop.result old c.pop.new.self c.pop.ensures e p less
          ∙ c.loop-self.invariant.before p less;
      key = c.loop-self.invariant.key;
      rises = λ up. rises c.args.place c.pop.result old c.pop.new.self c.pop.ensures e (c.loop-self.invariant.rises up);
      has_key = λ count key all. has_key c.args.place c.pop.result old c.pop.new.self c.pop.ensures e count key
          (c.loop-self.invariant.has_key count key all);
      settled = λ p all. settled c.args.place c.pop.result old c.pop.new.self c.pop.ensures e p
          (c.loop-self.invariant.settled p all);
      place = refl;
    }

pub loop-self-preserved-in-loop-self-2 : goal.loop-self-preserved-in-loop-self-2
loop-self-preserved-in-loop-self-2 c =
    let e = sym c.reaches.ensures ∙ c.loop-self-test.true in
    let old = c.loop-self.self.versions in
    record {
      before = λ p less. stays c.args.place c.pop.result old c.pop.new.self c.pop.ensures e p less
          ∙ c.loop-self.invariant.before p less;
      key = c.loop-self.invariant.key;
      rises = λ up. rises c.args.place c.pop.result old c.pop.new.self c.pop.ensures e (c.loop-self.invariant.rises up);
      has_key = λ count key all. has_key c.args.place c.pop.result old c.pop.new.self c.pop.ensures e count key
          (c.loop-self.invariant.has_key count key all);
      settled = λ p all. settled c.args.place c.pop.result old c.pop.new.self c.pop.ensures e p
          (c.loop-self.invariant.settled p all);
      place = refl;
    }

pub returns-clause-ends : goal.returns-clause-ends
returns-clause-ends c up =
    not_reached c.args.place c.loop-self.self.versions (c.loop-self.invariant.rises up)
    (sym c.reaches.ensures ∙ c.loop-self-test.false)
