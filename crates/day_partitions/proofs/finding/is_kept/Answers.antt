use Rattle.day_partitions.proofs.RoomLemmas.{kept_by_place}
use Rattle.day_partitions.proofs.finding.is_kept.Goals as goal

pub returns : goal.returns
returns c = kept_by_place c.args.day c.find_place.result c.args.days.now c.is_day_at.result c.find_place.ensures.place c.requires c.is_day_at.ensures
