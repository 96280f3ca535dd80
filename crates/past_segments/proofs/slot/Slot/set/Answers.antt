use Rattle.std.proofs.Common.{Ok, Err, sym, subst, ◌∙◌, ◌≡◌, ◌++◌, ◌∷◌, [], List}
use Rattle.std.specs.Prelude.{Result, OnErr, OnOk}
use Rattle.past_segments.specs.Times.{Rises}
use Rattle.past_segments.specs.declared.slot.Version.{Version}
use Rattle.past_segments.proofs.Values.{not_reached, put_before, put_ends, put_from, put_rises, rises_last}
use Rattle.past_segments.proofs.slot.Slot.set.Goals as goal

-- a value that was put behind, or wasn't
rises_behind : {A E : Type 0} (r : Result A E) (old new : List Version) (w : Version)
    → OnOk r (new ≡ old ++ w ∷ []) → OnErr r (new ≡ old) → Rises old → Rises (old ++ w ∷ []) → Rises new
rises_behind (Ok done) old new w ok err up more = subst Rises (sym ok) more
rises_behind (Err e) old new w ok err up more = subst Rises (sym err) up

pub returns-clause-rises : goal.returns-clause-rises
returns-clause-rises c up =
    rises_behind c.push.result c.args.self.now.versions c.push.new.self
    (record { from = c.args.place; segment = c.args.segment }) c.push.ensures.ok c.push.ensures.err up
    (rises_last c.args.self.now.versions (record { from = c.args.place; segment = c.args.segment }) up
    (not_reached c.args.place c.args.self.now.versions up (sym c.reaches.ensures ∙ c.if-reaches.false)))

pub returns-then-reaches-clause-from : goal.returns-then-reaches-clause-from
returns-then-reaches-clause-from c =
    put_from c.args.place c.args.self.now.versions c.len-last.result c.item_mut.result.now c.len-last.ensures
    c.item_mut.ensures.value (sym c.reaches.ensures ∙ c.if-reaches.true) c.requires.ends c.args.segment

pub returns-then-reaches-clause-before : goal.returns-then-reaches-clause-before
returns-then-reaches-clause-before c =
    put_before c.args.place c.args.self.now.versions c.len-last.result c.item_mut.result.now c.len-last.ensures
    c.item_mut.ensures.value (sym c.reaches.ensures ∙ c.if-reaches.true) c.requires.ends c.args.segment

pub returns-then-reaches-clause-rises : goal.returns-then-reaches-clause-rises
returns-then-reaches-clause-rises c =
    put_rises c.args.place c.args.self.now.versions c.len-last.result c.item_mut.result.now c.len-last.ensures
    c.item_mut.ensures.value (sym c.reaches.ensures ∙ c.if-reaches.true) c.requires.ends c.args.segment

pub returns-then-reaches-clause-ends : goal.returns-then-reaches-clause-ends
returns-then-reaches-clause-ends c =
    put_ends c.args.place c.args.self.now.versions c.len-last.result c.item_mut.result.now c.len-last.ensures
    c.item_mut.ensures.value (sym c.reaches.ensures ∙ c.if-reaches.true) c.requires.ends c.args.segment
