-- The figures of two names in either order, as those of the one and of the other.
use Rattle.std.specs.Prelude.{ℤ}
use Rattle.evidence_rules.specs.declared.between.Between.{Between}
use Rattle.evidence_rules.specs.declared.meeting.Meeting.{Meeting}
use Rattle.name_meetings.specs.declared.pair_figures.GapMeeting.{GapMeeting}
use Rattle.name_meetings.specs.declared.pair_figures.OrderFigures.{OrderFigures}
use Rattle.name_meetings.specs.declared.pair_figures.PairFigures.{PairFigures}

module _ {G : Type 0} (value : G → ℤ) where
  -- the figures of two names where this is their order, and that the other one
  abbrev pub told_of : PairFigures G → OrderFigures G → OrderFigures G → Between
  told_of p order other = record {
    traces = p.traces;
    early = order.refuting.count;
    turned = other.refuting.count;
    both = p.both.count;
    first_early = order.refuting.first;
    first_both = p.both.first;
    least = value order.least;
    greatest = value order.greatest;
    nearest = value p.nearest;
  }

  -- those of the first name and the second
  abbrev pub onward_of : PairFigures G → Between
  onward_of p = told_of p p.onward p.turned

  -- those of the second name and the first
  abbrev pub turned_of : PairFigures G → Between
  turned_of p = told_of p p.turned p.onward

  -- the meeting that it stands for
  abbrev pub meeting_of : GapMeeting G → Meeting
  meeting_of met = record {
    trace = met.trace;
    grace = met.grace;
    gap = value met.gap;
    back = value met.back;
  }
