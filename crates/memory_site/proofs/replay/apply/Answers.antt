use Rattle.std.proofs.Common.{◌≤◌, length, take, arith, ap, ◌∙◌}
use Rattle.fp_site.specs.Disk.{written}
use Rattle.memory_site.specs.Sets.{set_bytes}
use Rattle.memory_site.proofs.Choices.{images_wrote}
use Rattle.memory_site.proofs.replay.apply.Goals as goal

pub returns-in_ok-write-in-Write-2-clause-images : goal.returns-in_ok-write-in-Write-2-clause-images
returns-in_ok-write-in-Write-2-clause-images c h stands before k =
    let bytes = take c.in-Write.count c.args.left.now in
    let part = c.in_ok-part-in-Write.part.items in
    let le : length part ≤ length bytes = omega (
      arith,
      c.in_ok-part-in-Write.ensures.short,
      ap length c.front_of-bytes.ensures,
    ) in
    rw c.in-Write.is
    (images_wrote h c.in-Write.set (set_bytes c.args.images.now.items) (set_bytes c.write-in-Write.new.sets.items)
    before c.in_ok-write-in-Write-2.ensures.others c.in-Write.at bytes part le
    (c.in_ok-write-in-Write-2.ensures.this ∙ ap (written (set_bytes c.args.images.now.items c.in-Write.set)
    c.in-Write.at) c.deref-in-Write.ensures.value) k)
