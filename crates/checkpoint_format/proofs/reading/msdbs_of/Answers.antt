use Rattle.std.proofs.Common.{◌≡◌, ◌∷◌, ◌+◌, ◌<◌, ◌∙◌, ℕ, length, slice_index_or, List, ap, sym, subst, drop}
use Rattle.std.proofs.lemmas.List.{drop_more, drop_all}
use Rattle.std.proofs.lemmas.Result.{err_from_is_err_and}
use Rattle.fp_model.specs.declared.definitions.MsdbDef.{MsdbDef}
use Rattle.log_format.proofs.Loop.{with_front}
use Rattle.checkpoint_format.specs.Reading.{msdbs_at}
use Rattle.checkpoint_format.proofs.Databases.{all_read, no_more, one_more}
use Rattle.checkpoint_format.proofs.reading.msdbs_of.Goals as goal

-- the definition at a place, and those behind it
split : (defs : List MsdbDef) (i : ℕ) (def : MsdbDef) → i < length defs → def ≡ slice_index_or defs i def
    → drop i defs ≡ def ∷ drop (i + 1) defs
split defs i def lt is = drop_more defs i def lt ∙ ap (λ d. d ∷ drop (i + 1) defs) (sym is)

pub returns-in_err-msdb : goal.returns-in_err-msdb
returns-in_err-msdb c =
    let p = err_from_is_err_and c.from_residual.result c.from_residual.ensures.1 in
    let total = msdbs_at c.args.defs.now c.args.bytes.now in
    let s = split c.args.defs.now c.loop-def.def-index c.def-item.result c.loop-def-test.true c.def-item.is in
    rw (p.1, p.2) (no_more c.in_err-msdb.field-0.0 c.loop-def.msdbs c.def-item.result
    (drop (c.loop-def.def-index + 1) c.args.defs.now) c.loop-def.rest.now total c.in_err-msdb.ensures
    (subst (λ ds. with_front c.loop-def.msdbs (msdbs_at ds c.loop-def.rest.now) ≡ total) s c.loop-def.invariant))

pub loop-def-preserved : goal.loop-def-preserved
loop-def-preserved c =
    let total = msdbs_at c.args.defs.now c.args.bytes.now in
    let s = split c.args.defs.now c.loop-def.def-index c.def-item.result c.loop-def-test.true c.def-item.is in
    rw c.in_ok-push.ensures.ok (one_more c.loop-def.msdbs c.def-item.result
    (drop (c.loop-def.def-index + 1) c.args.defs.now) c.loop-def.rest.now c.in_ok-msdb.msdb c.in_ok-msdb.after.now total
    c.in_ok-msdb.ensures
    (subst (λ ds. with_front c.loop-def.msdbs (msdbs_at ds c.loop-def.rest.now) ≡ total) s c.loop-def.invariant))

pub returns : goal.returns
returns c =
    let total = msdbs_at c.args.defs.now c.args.bytes.now in
    all_read c.loop-def.msdbs c.loop-def.rest.now total
    (subst (λ ds. with_front c.loop-def.msdbs (msdbs_at ds c.loop-def.rest.now) ≡ total)
    (drop_all c.loop-def.def-index c.args.defs.now c.loop-def-test.false) c.loop-def.invariant)
