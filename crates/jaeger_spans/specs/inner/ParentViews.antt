-- The parent that the code reads.
use Rattle.jaeger_spans.specs.declared.parents.Parent as parents
use Rattle.jaeger_spans.specs.Parents.{Parent}

abbrev pub parent_view : parents.Parent → Parent
parent_view p = record { id = p.id; follows = p.follows }
