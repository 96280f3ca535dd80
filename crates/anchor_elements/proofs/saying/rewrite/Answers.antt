use Rattle.std.proofs.Common.{arith}
use Rattle.anchor_elements.proofs.ElementLemmas.{typed_used, written_used, others_joined}
use Rattle.anchor_elements.proofs.saying.rewrite.Goals as goal

pub write-requires : goal.write-requires
write-requires c = record {
  segment = _;
  content = c.requires.used.content;
  used = typed_used _ _ _ _ c.requires.used c.set_type.ensures.becomes;
  fits = omega (arith, c.requires.whole c.requires.used.segment c.requires.used.content c.requires.used.used);
}

pub returns-clause-element : goal.returns-clause-element
returns-clause-element c = written_used _ _ _ _ _ _ (typed_used _ _ _ _ c.requires.used c.set_type.ensures.becomes)
    (c.requires.whole c.requires.used.segment c.requires.used.content c.requires.used.used) c.write.ensures.wrote

pub returns-clause-others : goal.returns-clause-others
returns-clause-others c = others_joined _ _ _ _ c.set_type.ensures.others c.write.ensures.others
