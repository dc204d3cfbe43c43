-- Keys of calls that are alike.
use Rattle.std.specs.Prelude.{List, map}
use Rattle.call_contexts.specs.Contexts.{Like}
use Rattle.call_contexts.specs.declared.like_key.LikeKey.{LikeKey}

-- what a key says
abbrev pub like_of_key : LikeKey → Like
like_of_key k = record { caller = k.caller; service = k.service.now; name = k.name.now }

abbrev pub likes_of_keys : List LikeKey → List Like
likes_of_keys keys = map like_of_key keys
