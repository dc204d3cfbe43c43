use Rattle.std.specs.List.{flat_map}
use Rattle.session_rules.specs.Parts.{refused_row}
use Rattle.session.specs.AddLaws.{day_text}
use Rattle.session.proofs.added_text.print_added.Goals as goal

pub returns : goal.returns
returns g c = c.calls_follow.ensures.follow _ _ _ _ _ _ _ _ (flat_map refused_row c.args.refused.now) (flat_map day_text c.args.watched.now) c.in_ok-print_rows.ensures c.print_rows-2.ensures
