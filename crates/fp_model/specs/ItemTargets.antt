-- What an item of an entry is of, and the order of items.
use Rattle.std.specs.Prelude.{ℕ, List, [], ◌∷◌, Bool, true, false, ◌&&◌, ◌||◌, ◌==◌, nat_lt}
use Rattle.fp_model.specs.State.{is_below}
use Rattle.fp_model.specs.declared.log.Item.{Item}
use Rattle.fp_model.specs.declared.log.Item.TheVariants.{Segment, Image, Range}

-- a key of a main storage database, or an interval of a data set
pub data ItemTarget : Type 0 where
  OfSegment : (msdb : ℕ) (key : List ℕ) → ItemTarget
  OfInterval : (set ci : ℕ) → ItemTarget

abbrev pub item_target : Item → ItemTarget
item_target (Segment msdb key bytes) = OfSegment msdb key
item_target (Image set ci bytes) = OfInterval set ci
item_target (Range set ci at bytes) = OfInterval set ci

-- segments come first, by database and key, then intervals, by data set and number
abbrev pub target_precedes : ItemTarget → ItemTarget → Bool
target_precedes (OfSegment msdb key) (OfSegment msdb2 key2) = nat_lt msdb msdb2 || (msdb == msdb2 && is_below key key2)
target_precedes (OfSegment msdb key) (OfInterval set ci) = true
target_precedes (OfInterval set ci) (OfSegment msdb key) = false
target_precedes (OfInterval set ci) (OfInterval set2 ci2) = nat_lt set set2 || (set == set2 && nat_lt ci ci2)

-- whether an item stands before another
abbrev pub precedes : Item → Item → Bool
precedes a b = target_precedes (item_target a) (item_target b)

-- whether each item stands before the next
abbrev pub is_ascending : List Item → Bool
is_ascending [] = true
is_ascending (item ∷ []) = true
is_ascending (item ∷ next ∷ more) = precedes item next && is_ascending (next ∷ more)

-- whether a target is this interval
abbrev pub is_interval : ℕ → ℕ → ItemTarget → Bool
is_interval set ci (OfSegment msdb key) = false
is_interval set ci (OfInterval set2 ci2) = set == set2 && ci == ci2

-- whether an item names this interval
abbrev pub names_interval : ℕ → ℕ → Item → Bool
names_interval set ci item = is_interval set ci (item_target item)
