use Rattle.anchor_elements.proofs.SpellingLemmas.{spells}
use Rattle.anchor_elements.proofs.spelling.spell.Goals as goal

pub returns : goal.returns
returns c = spells _ _ _ _ _ _ _ _ c.put_serial-from.ensures.place c.requires.zeros
    c.put_pointer.auto.content c.put_serial-from.auto.content c.put_pointers.auto.content c.put_bytes.auto.content
    c.put_pointer.ensures.pointer c.put_pointer.ensures.above
    c.put_serial-from.ensures.number c.put_serial-from.ensures.below c.put_serial-from.ensures.above
    c.put_pointers.ensures.pointers c.put_pointers.ensures.below c.put_pointers.ensures.above
    c.put_bytes.ensures.bytes c.put_bytes.ensures.below c.put_bytes.ensures.above
