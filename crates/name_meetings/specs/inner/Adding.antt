-- The figures of meetings and one more.
use Rattle.std.specs.Prelude.{ℕ, ◌+◌, ◌≤◌, ◌==◌, ℤ, int_lt, Bool, ◌&&◌, ◌||◌, if◌then◌else◌}
use Rattle.evidence_rules.specs.Meetings.{distance, is_both, is_early, is_turned}
use Rattle.evidence_rules.specs.declared.between.Between.{Between}
use Rattle.evidence_rules.specs.declared.meeting.Meeting.{Meeting}

-- one more where it is wanted
abbrev pub one_more : Bool → ℕ → ℕ
one_more wanted count = if wanted then count + 1 else count

-- the lesser of two numbers, and the greater; where there is no first the second
abbrev pub lesser_of : Bool → ℤ → ℤ → ℤ
lesser_of none one other = if none || int_lt other one then other else one

abbrev pub greater_of : Bool → ℤ → ℤ → ℤ
greater_of none one other = if none || int_lt one other then other else one

-- the greater of two gaps
abbrev pub greater_gap : ℤ → ℤ → ℤ
greater_gap one other = if int_lt one other then other else one

-- the index where it is the first that counts
abbrev pub first_of : ℕ → Bool → ℕ → ℕ → ℕ
first_of count wanted first index = if (count == 0) && wanted then index else first

-- the figures with one meeting more
abbrev pub with_meeting : Between → Meeting → Between
with_meeting f m = record {
  traces = f.traces + 1;
  early = one_more (is_early m) f.early;
  turned = one_more (is_turned m) f.turned;
  both = one_more (is_both m) f.both;
  first_early = first_of f.early (is_early m) f.first_early m.trace;
  first_both = first_of f.both (is_both m) f.first_both m.trace;
  least = lesser_of (f.traces == 0) f.least m.gap;
  greatest = greater_of (f.traces == 0) f.greatest m.gap;
  nearest = lesser_of (f.traces == 0) f.nearest (distance m);
}

-- the meeting with its two segments in the other order
abbrev pub turned_round : Meeting → Meeting
turned_round m = record { trace = m.trace; grace = m.grace; gap = m.back; back = m.gap }

-- no count is above this number
pub record IsCounted (f : Between) (most : ℕ) : Type 0 where
  pub traces : f.traces ≤ most
  pub early : f.early ≤ most
  pub turned : f.turned ≤ most
  pub both : f.both ≤ most
