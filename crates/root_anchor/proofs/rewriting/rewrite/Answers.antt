use Rattle.root_anchor.proofs.rewriting.rewrite.Goals as goal
use Rattle.plain_laws.proofs.Results.{on_ok}

pub returns-clause-stored : goal.returns-clause-stored
returns-clause-stored g c = λ told has formed. on_ok c.rewrite_and_put.result (λ s. (s.whole has formed).stored)
    (c.rewrite_and_put.ensures.rewrites told)

pub returns-clause-others : goal.returns-clause-others
returns-clause-others g c = λ told has formed. on_ok c.rewrite_and_put.result (λ s. (s.whole has formed).others)
    (c.rewrite_and_put.ensures.rewrites told)

pub returns-clause-apart : goal.returns-clause-apart
returns-clause-apart g c = λ told has order. on_ok c.rewrite_and_put.result (λ s. s.apart has order)
    (c.rewrite_and_put.ensures.rewrites told)

pub returns-clause-own : goal.returns-clause-own
returns-clause-own g c = λ told has order. on_ok c.rewrite_and_put.result (λ s. s.own has order)
    (c.rewrite_and_put.ensures.rewrites told)

pub returns-clause-formed : goal.returns-clause-formed
returns-clause-formed g c = λ told has formed. on_ok c.rewrite_and_put.result (λ s. (s.whole has formed).formed)
    (c.rewrite_and_put.ensures.rewrites told)

pub returns-clause-keep : goal.returns-clause-keep
returns-clause-keep g c = λ told has order none. on_ok c.rewrite_and_put.result (λ s. s.keep has order none)
    (c.rewrite_and_put.ensures.rewrites told)

pub returns-clause-alone : goal.returns-clause-alone
returns-clause-alone g c = λ told has differ. on_ok c.rewrite_and_put.result (λ s. s.alone has differ)
    (c.rewrite_and_put.ensures.rewrites told)

pub returns-clause-few : goal.returns-clause-few
returns-clause-few g c = λ told has order gain. on_ok c.rewrite_and_put.result (λ s. s.few has order gain)
    (c.rewrite_and_put.ensures.rewrites told)

pub returns-clause-stay : goal.returns-clause-stay
returns-clause-stay g c = λ told has order gain. on_ok c.rewrite_and_put.result (λ s. s.stay has order gain)
    (c.rewrite_and_put.ensures.rewrites told)

pub returns-clause-one : goal.returns-clause-one
returns-clause-one g c = λ told has order gain. on_ok c.rewrite_and_put.result (λ s. s.one has order gain)
    (c.rewrite_and_put.ensures.rewrites told)

pub returns-clause-sequential : goal.returns-clause-sequential
returns-clause-sequential g c = λ told formed. on_ok c.rewrite_and_put.result (λ s. s.sequential formed)
    (c.rewrite_and_put.ensures.rewrites told)

pub returns-clause-stood : goal.returns-clause-stood
returns-clause-stood g c = λ told other. on_ok c.rewrite_and_put.result (λ s. s.stood other)
    (c.rewrite_and_put.ensures.rewrites told)

pub returns-clause-alone_sound : goal.returns-clause-alone_sound
returns-clause-alone_sound g c = c.rewrite_and_put.ensures.alone_sound

pub returns-clause-sound : goal.returns-clause-sound
returns-clause-sound g c = λ told order chain ci e. (c.rewrite_and_put.ensures.names told ci e).sound order chain

pub returns-clause-damaged : goal.returns-clause-damaged
returns-clause-damaged g c = λ told none ci e. (c.rewrite_and_put.ensures.names told ci e).damaged none

pub returns-clause-lists : goal.returns-clause-lists
returns-clause-lists g c = λ told chain ci e. (c.rewrite_and_put.ensures.names told ci e).lists chain

pub returns-clause-done : goal.returns-clause-done
returns-clause-done g c = c.rewrite_and_put.ensures.done

pub returns-clause-same : goal.returns-clause-same
returns-clause-same g c = c.rewrite_and_put.ensures.same
