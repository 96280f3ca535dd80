use Rattle.root_anchor.proofs.storing.store.Goals as goal
use Rattle.plain_laws.proofs.Results.{on_ok}

pub returns-clause-stored : goal.returns-clause-stored
returns-clause-stored g c = λ told formed. on_ok c.store_and_put.result (λ s. (s.whole formed).stored)
    (c.store_and_put.ensures.stores told)

pub returns-clause-others : goal.returns-clause-others
returns-clause-others g c = λ told formed. on_ok c.store_and_put.result (λ s. (s.whole formed).others)
    (c.store_and_put.ensures.stores told)

pub returns-clause-apart : goal.returns-clause-apart
returns-clause-apart g c = λ told order. on_ok c.store_and_put.result (λ s. s.apart order)
    (c.store_and_put.ensures.stores told)

pub returns-clause-own : goal.returns-clause-own
returns-clause-own g c = λ told order. on_ok c.store_and_put.result (λ s. s.own order)
    (c.store_and_put.ensures.stores told)

pub returns-clause-keep : goal.returns-clause-keep
returns-clause-keep g c = λ told order. on_ok c.store_and_put.result (λ s. s.keep order)
    (c.store_and_put.ensures.stores told)

pub returns-clause-sequential : goal.returns-clause-sequential
returns-clause-sequential g c = λ told formed. on_ok c.store_and_put.result (λ s. (s.whole formed).sequential)
    (c.store_and_put.ensures.stores told)

pub returns-clause-formed : goal.returns-clause-formed
returns-clause-formed g c = λ told formed. on_ok c.store_and_put.result (λ s. (s.whole formed).formed)
    (c.store_and_put.ensures.stores told)

pub returns-clause-sound : goal.returns-clause-sound
returns-clause-sound g c = λ told order chain ci e. (c.store_and_put.ensures.names told ci e).sound order chain

pub returns-clause-damaged : goal.returns-clause-damaged
returns-clause-damaged g c = λ told none ci e. (c.store_and_put.ensures.names told ci e).damaged none

pub returns-clause-lists : goal.returns-clause-lists
returns-clause-lists g c = λ told chain ci e. (c.store_and_put.ensures.names told ci e).lists chain

pub returns-clause-stood : goal.returns-clause-stood
returns-clause-stood g c = λ told. on_ok c.store_and_put.result (λ s. s.stood) (c.store_and_put.ensures.stores told)
