-- Keys of main storage databases as the resources that they are.
use Rattle.std.specs.Prelude.{List, Bool, false, Option}
use Rattle.std.specs.List.{list_any}
use Rattle.std.specs.Option.{option_map_or}
use Rattle.fp_model.specs.declared.calls.Resource.{Resource}
use Rattle.fp_model.specs.declared.calls.Resource.TheVariants.{Segment}
use Rattle.fp_model.specs.Waiting.{same_resource}
use Rattle.segment_keys.specs.declared.keys.SegmentKey.{SegmentKey}

abbrev pub resource_of : SegmentKey → Resource
resource_of key = Segment key.msdb key.key.items

-- whether a resource is one of these
abbrev pub is_among : List Resource → Resource → Bool
is_among resources resource = list_any (λ other. same_resource other resource) resources

-- whether it is this one, if there is one
abbrev pub is_marked : Option Resource → Resource → Bool
is_marked mark resource = option_map_or (λ marked. same_resource marked resource) mark false
