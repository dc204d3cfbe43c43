-- Keys of calls.
use Rattle.std.specs.Prelude.{List, map}
use Rattle.span_calls.specs.Calls.{Moments}
use Rattle.span_calls.specs.declared.call_key.CallKey.{CallKey}

-- what a key says
abbrev pub moments_of : CallKey → Moments
moments_of k = record { start = k.start; end = k.end; id = k.id.now }

abbrev pub all_moments : List CallKey → List Moments
all_moments keys = map moments_of keys
