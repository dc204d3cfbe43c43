-- Keys of contexts.
use Rattle.std.specs.Prelude.{List, map}
use Rattle.call_contexts.specs.ContextOrder.{Title}
use Rattle.call_contexts.specs.declared.title_key.TitleKey.{TitleKey}

-- what a key says
abbrev pub title_of_key : TitleKey → Title
title_of_key k = record { service = k.service.now; name = k.name.now; ordinal = k.ordinal }

abbrev pub titles_of_keys : List TitleKey → List Title
titles_of_keys keys = map title_of_key keys
