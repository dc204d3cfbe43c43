-- Where rows stand: what matters most first.
use Rattle.std.specs.Prelude.{ℕ, ◌+◌, ◌-◌, ◌^◌, List}
use Rattle.std.specs.Ordering.{nat_cmp, ordering_then}
use Rattle.std.specs.declared.cmp.Ordering.{Ordering}
use Rattle.pretty_cli.specs.declared.context.Context.{Context}
use Rattle.pretty_cli.specs.declared.context.Kind.{Kind}
use Rattle.pretty_cli.specs.declared.context.Kind.TheVariants as kinds
use Rattle.pretty_cli.specs.declared.context.View.{View}
use Rattle.pretty_cli.specs.declared.context.View.TheVariants as views
use Rattle.pretty_cli.specs.declared.place.Place.{Place}
use Rattle.pretty_cli.specs.Fields.{number_at}
use Rattle.pretty_cli.specs.Shown.{each_of}

-- the rank of a segment of `tail`: the more it is longer on the paths of slow traces, the lower
abbrev pub tail_rank : Context → List (List ℕ) → ℕ
tail_rank c fields =
    2 ^ 64 + each_of (number_at fields 7) c.others - each_of (number_at fields 5) c.slow

-- the rank of a segment: by its time on critical paths, its slack, or its difference
abbrev pub segment_rank : View → Context → List (List ℕ) → ℕ
segment_rank views.Report c fields = 2 ^ 64 - 1 - number_at fields 9
segment_rank views.Slack c fields = number_at fields 5 + 1
segment_rank views.Tail c fields = tail_rank c fields
segment_rank _ c fields = 0

-- the rank of a row in its group
abbrev pub rank_of : View → Kind → Context → List (List ℕ) → ℕ
rank_of view kinds.Segment c fields = segment_rank view c fields
rank_of view kinds.Forecast c fields = 2 ^ 64 - 1 - (number_at fields 3 - number_at fields 4)
rank_of view kinds.Latency c fields = 1
rank_of view kinds.Step c fields = 1
rank_of view _ c fields = 0

-- the rank of a row's group: 0 for what stands above all
abbrev pub group_of : Kind → ℕ → ℕ
group_of kinds.Header group = 0
group_of kinds.Latency group = 0
group_of kinds.Other group = 0
group_of _ group = group

-- where a row stands
abbrev pub place_of : Context → List (List ℕ) → Place
place_of c fields = record {
  section = c.section;
  group = group_of c.kind c.group;
  turn = c.turn;
  rank = rank_of c.view c.kind c fields;
}

-- the order of places: by section, then by group, by trace and by rank
abbrev pub place_cmp : Place → Place → Ordering
place_cmp a b = ordering_then (nat_cmp a.section b.section)
    (ordering_then (nat_cmp a.group b.group)
    (ordering_then (nat_cmp a.turn b.turn) (nat_cmp a.rank b.rank)))
