use Rattle.std.proofs.Common.{◌≡◌, ◌∙◌, refl, sym, ap, subst, arith, ℕ, zero, suc, ◌-◌, List, [], ◌∷◌, ◌++◌}
use Rattle.txn_machine.specs.declared.place.Frame.{Frame}
use Rattle.txn_machine.specs.declared.place.Frame.TheVariants as frame
use Rattle.txn_machine.proofs.PlaceLemmas.{closed, turned}
use Rattle.txn_machine.proofs.WorkLemmas.{closed_less, turned_less}
use Rattle.txn_machine.proofs.place.Place.go_beyond.Goals as goal

-- the frame, and what it is
at_end : (frames front : List Frame) (f g : Frame) → frames ≡ front ++ f ∷ [] → f ≡ g → frames ≡ front ++ g ∷ []
at_end frames front f g is kind = is ∙ ap (λ (h : Frame). front ++ h ∷ []) kind

done : (f : Frame) (behind left : ℕ) → f ≡ frame.Loop behind left → left ≡ 0 → f ≡ frame.Loop behind 0
done f behind left is none = is ∙ ap (frame.Loop behind) none

more : (f : Frame) (behind left : ℕ) → f ≡ frame.Loop behind left → suc (left - 1) ≡ left
    → f ≡ frame.Loop behind (suc (left - 1))
more f behind left is some = is ∙ ap (frame.Loop behind) (sym some)

pub returns-in-Choice-clause-leads : goal.returns-in-Choice-clause-leads
returns-in-Choice-clause-leads c = λ defs message statements env.
    let is = at_end c.args.self.now.frames c.requires.0 c.args.frame _ c.requires.1 c.in-Choice.is in
    closed defs message statements c.args.self.now c.close.new.self c.requires.0
    (frame.Choice c.in-Choice.behind c.in-Choice.holds) c.in-Choice.behind env is
    (c.close.ensures.frames c.requires.0 c.args.frame c.requires.1) c.close.ensures.at (λ block. refl)

pub returns-in-Choice-clause-less : goal.returns-in-Choice-clause-less
returns-in-Choice-clause-less c = λ statements.
    let is = at_end c.args.self.now.frames c.requires.0 c.args.frame _ c.requires.1 c.in-Choice.is in
    closed_less c.requires.0 (frame.Choice c.in-Choice.behind c.in-Choice.holds) c.in-Choice.behind statements
    c.args.self.now c.close.new.self is
    (c.close.ensures.frames c.requires.0 c.args.frame c.requires.1) c.close.ensures.at (λ block. omega arith)

pub returns-then-left-eq0-clause-leads : goal.returns-then-left-eq0-clause-leads
returns-then-left-eq0-clause-leads c = λ defs message statements env.
    let is = at_end c.args.self.now.frames c.requires.0 c.args.frame _ c.requires.1
    (done c.args.frame c.in-Loop.behind c.in-Loop.left c.in-Loop.is c.if-left-eq0.true) in
    closed defs message statements c.args.self.now c.close-then-left-eq0.new.self c.requires.0
    (frame.Loop c.in-Loop.behind 0) c.in-Loop.behind env is
    (c.close-then-left-eq0.ensures.frames c.requires.0 c.args.frame c.requires.1) c.close-then-left-eq0.ensures.at
    (λ block. refl)

pub returns-then-left-eq0-clause-less : goal.returns-then-left-eq0-clause-less
returns-then-left-eq0-clause-less c = λ statements.
    let is = at_end c.args.self.now.frames c.requires.0 c.args.frame _ c.requires.1
    (done c.args.frame c.in-Loop.behind c.in-Loop.left c.in-Loop.is c.if-left-eq0.true) in
    closed_less c.requires.0 (frame.Loop c.in-Loop.behind 0) c.in-Loop.behind statements c.args.self.now
    c.close-then-left-eq0.new.self is
    (c.close-then-left-eq0.ensures.frames c.requires.0 c.args.frame c.requires.1) c.close-then-left-eq0.ensures.at
    (λ block. omega arith)

pub returns-else-left-eq0-clause-leads : goal.returns-else-left-eq0-clause-leads
returns-else-left-eq0-clause-leads c = λ defs message statements env.
    let some : suc (c.in-Loop.left - 1) ≡ c.in-Loop.left = omega arith in
    let is = at_end c.args.self.now.frames c.requires.0 c.args.frame _ c.requires.1
    (more c.args.frame c.in-Loop.behind c.in-Loop.left c.in-Loop.is some) in
    turned defs message statements c.args.self.now c.again.new.self c.requires.0 c.in-Loop.behind (c.in-Loop.left - 1)
    env is (c.again.ensures.frames c.requires.0 c.args.frame c.requires.1) c.again.ensures.at

pub returns-else-left-eq0-clause-less : goal.returns-else-left-eq0-clause-less
returns-else-left-eq0-clause-less c = λ statements.
    let some : suc (c.in-Loop.left - 1) ≡ c.in-Loop.left = omega arith in
    let is = at_end c.args.self.now.frames c.requires.0 c.args.frame _ c.requires.1
    (more c.args.frame c.in-Loop.behind c.in-Loop.left c.in-Loop.is some) in
    turned_less c.requires.0 c.in-Loop.behind (c.in-Loop.left - 1) statements c.args.self.now c.again.new.self is
    (c.again.ensures.frames c.requires.0 c.args.frame c.requires.1) c.again.ensures.at
