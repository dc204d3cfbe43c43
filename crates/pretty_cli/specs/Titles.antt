-- The titles of columns.
use Rattle.std.specs.Prelude.{ℕ, ◌*◌, ◌++◌, [], List, codes}
use Rattle.pretty_cli.specs.declared.context.Kind.{Kind}
use Rattle.pretty_cli.specs.declared.context.Kind.TheVariants as kinds
use Rattle.pretty_cli.specs.declared.context.View.{View}
use Rattle.pretty_cli.specs.declared.context.View.TheVariants as views
use Rattle.pretty_cli.specs.Lines.{IsCut, columns_within}

-- the view whose titles stand below a row: below its header, and in a report below the latencies
abbrev pub titled_view : View → Kind → View
titled_view views.Report kinds.Latency = views.Report
titled_view views.Report _ = views.Other
titled_view view kinds.Header = view
titled_view _ _ = views.Other

-- the titles of a view's columns, each at the right end of its column
abbrev pub title_columns : View → List ℕ
title_columns views.Report = codes " on path     share    median  greatest  "
title_columns views.Paths = codes " on path     share   latency  "
title_columns views.Slack = codes "   slack     lasts   latency  "
title_columns views.Tail = codes "   apart      slow    others  "
title_columns views.WhatIf = codes "    gain     share    before     after  "
title_columns views.Evidence = codes "  traces     least  greatest  "
title_columns views.Other = []

-- what the labels of a view are
abbrev pub legend : View → List ℕ
legend views.Report = codes "segment (on paths of times seen)"
legend views.Paths = codes "trace, and its critical path"
legend views.Slack = codes "trace, and its segments"
legend views.Tail = codes "segment, on the path of a slow trace and of another"
legend views.WhatIf = codes "trace, and its critical path"
legend views.Evidence = codes "relation, and the gaps between its sides"
legend views.Other = []

-- the line of titles: those of the columns that a line of so many has, ten wide each, and the legend
abbrev pub IsTitleLine : ℕ → View → List ℕ → Type 0
IsTitleLine limit view line = (columns : List ℕ)
    × IsCut (10 * columns_within limit) (title_columns view) columns
    × IsCut limit (columns ++ legend view) line
