use Rattle.std.proofs.Common.{◌∙◌, List, ap, sym}
use Rattle.fp_model.specs.Exits.{anchor_of}
use Rattle.fp_model.specs.Order.{key_in}
use Rattle.fp_model.specs.Shape.{has_length}
use Rattle.fp_model.specs.WellFormed.{IsDedbDef}
use Rattle.fp_model.specs.declared.definitions.SegDef.{SegDef}
use Rattle.state_laws.proofs.Lists.{all_at}
use Rattle.call_tests.proofs.Fitting.{alone_fits}
use Rattle.call_tests.proofs.customers.customer.Goals as goal

pub anchor_of-requires : goal.anchor_of-requires
anchor_of-requires c =
    all_at IsDedbDef c.args.defs.now.dedbs 0 c.in-Some.def.now c.requires.each_dedb (sym c.in-Some.ensures.value)

pub root_alone-requires : goal.root_alone-requires
root_alone-requires c =
    all_at IsDedbDef c.args.defs.now.dedbs 0 c.in-Some.def.now c.requires.each_dedb (sym c.in-Some.ensures.value)

pub returns : goal.returns
returns c dedbs shape =
    let def = c.in-Some.def.now in
    let bytes = c.args.bytes.now in
    let long = ap (λ (types : List SegDef). has_length types 0 bytes) (sym c.as_slice.ensures)
    ∙ sym c.has_length.ensures ∙ c.if-not-has_length.false in
    let sent = ap (anchor_of def)
    (sym (c.key_in.ensures ∙ ap (λ (types : List SegDef). key_in types 0 bytes) c.as_slice-2.ensures))
    ∙ c.in-Some-anchor_of.ensures in
    alone_fits def c.in-Some-anchor_of.anchor bytes long sent c.args.defs.now dedbs c.in_ok-roots.roots
    (sym c.in-Some.ensures.value) c.in_ok-roots.ensures shape
