use Rattle.std.proofs.Common.{[]}
use Rattle.past_replay.proofs.roots.StateRootsAnchorRoots.copy_of.Goals as goal

pub returns : goal.returns
returns c = c.copy_roots.ensures.copy []
