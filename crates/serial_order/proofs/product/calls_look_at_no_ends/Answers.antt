use Rattle.serial_order.proofs.ProductLaws.{replies_with_ends, needs_with_ends}
use Rattle.serial_order.proofs.product.calls_look_at_no_ends.Goals as goal

pub returns : goal.returns
returns c = record {
  reply = λ defs area area2 ends ends2 db shown own asked. replies_with_ends area ends db own defs area2 ends2 shown
      asked;
  need = λ defs area ends db own held asked. needs_with_ends area ends db own defs held asked;
}
