use Rattle.std.proofs.Common.{◌≡◌, ◌∙◌, ◌<◌, ◌+◌, ◌^◌, ◌∷◌, ◌++◌, [], ap, arith, sym, subst, length, drop}
use Rattle.key_order.proofs.Ascending.{all_at}
use Rattle.std.proofs.lemmas.List.{append_assoc}
use Rattle.std.proofs.lemmas.Option.{get_or_from_slice_get}
use Rattle.std.proofs.lemmas.Slice.Zip.{AllZip-long}
use Rattle.fp_model.specs.CheckpointText.{IsMsdbOf, msdb_text}
use Rattle.fp_model.specs.declared.database.Msdb.{Msdb}
use Rattle.checkpoint_format.proofs.Lending.{database, database_next, has_database, texts}
use Rattle.checkpoint_format.proofs.writing.put_msdbs.Goals as goal
use Rattle.plain_laws.proofs.Lists.{joined_on}

pub loop-number-init : goal.loop-number-init
loop-number-init c =
    let all = texts c.args.defs.now c.args.msdbs.now.msdbs in
    let same = AllZip-long IsMsdbOf c.args.defs.now c.args.msdbs.now.msdbs c.requires.of.each in
    ap (λ l. l ++ all) c.in_ok-push.ensures.ok
    ∙ append_assoc c.args.into.now (length c.args.defs.now ∷ []) all
    ∙ ap (λ n. c.args.into.now ++ (n ∷ all)) (sym same)

pub put_msdb-requires-clause-within : goal.put_msdb-requires-clause-within
put_msdb-requires-clause-within c =
    omega (
      arith,
      AllZip-long IsMsdbOf c.args.defs.now c.args.msdbs.now.msdbs c.requires.of.each,
      c.loop-number-test.true,
    )

pub put_msdb-requires-clause-few : goal.put_msdb-requires-clause-few
put_msdb-requires-clause-few c its is =
    let msdbs = c.args.msdbs.now.msdbs in
    let number = c.loop-number.number in
    subst (λ (msdb : Msdb). length msdb.segments < 2 ^ 32) (get_or_from_slice_get msdbs number its its is)
    (all_at (λ (msdb : Msdb). length msdb.segments < 2 ^ 32) msdbs number its c.requires.each
    (put_msdb-requires-clause-within c))

pub loop-number-preserved : goal.loop-number-preserved
loop-number-preserved c =
    let msdbs = c.args.msdbs.now.msdbs in
    let defs = c.args.defs.now in
    let number = c.loop-number.number in
    let def = c.index-defs-number.result in
    let within : number < length msdbs =
    omega (arith, AllZip-long IsMsdbOf defs msdbs c.requires.of.each, c.loop-number-test.true) in
    joined_on c.loop-number.into c.put_msdb.new.into (c.args.into.now ++ (length msdbs ∷ texts defs msdbs))
    (msdb_text def (database msdbs number))
    (texts (drop (number + 1) defs) (drop (number + 1) msdbs))
    (texts (drop number defs) (drop number msdbs))
    (database_next defs msdbs number def c.loop-number-test.true within c.index-defs-number.is)
    c.loop-number.invariant
    (c.in_ok-put_msdb.ensures (database msdbs number) (has_database msdbs number within))
