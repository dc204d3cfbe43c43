use Rattle.std.proofs.Common.{◌≡◌, ◌<◌, ◌≤◌, List, [], ◌∷◌, ◌++◌, length, ap, ◌∙◌, append-nil, rules, arith}
use Rattle.trace_types.specs.declared.event.Event.{Event}
use Rattle.event_table.specs.Gathered.{events_of_tables}
use Rattle.segment_checks.proofs.batches.gather_one.Goals as goal

-- one table has its events
few_alone : (tables : List (List Event)) (table : List Event) → tables ≡ table ∷ [] → length table ≤ 5000 → length (events_of_tables tables) < 4294967296
few_alone tables table is few =
    let long : length (events_of_tables tables) ≡ length table = ap (λ (l : List (List Event)). length (events_of_tables l)) is ∙ ap (λ (l : List Event). length l) (append-nil table) in
    omega arith

pub gather-requires : goal.gather-requires
gather-requires g c = (search rules, few_alone c.push.new.self.items c.args.table (c.in_ok-push.ensures.items ∙ ap (λ (l : List (List Event)). l ++ c.args.table ∷ []) c.new-parts.ensures.items) c.requires)
