-- The ids that the code reads.
use Rattle.jaeger_spans.specs.declared.span_reading.Links as links
use Rattle.jaeger_spans.specs.SpansOfJaeger.{Links}

abbrev pub links_view : links.Links → Links
links_view l = record { ids = l.ids; follows = l.follows }
