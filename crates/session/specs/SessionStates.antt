-- What a contract sees of a session, and which state of the definition it shows.
use Rattle.std.specs.Prelude.{◌≡◌, ℕ, ◌^◌, ◌<◌, ◌≤◌}
use Rattle.book_laws.specs.Shown.{AreShown}
use Rattle.day_partitions.specs.Books.{BookState, all_traces}
use Rattle.judged_books.specs.GivenDigests.{BeginsWith, GivenState, IsGivenOf}
use Rattle.segment_names.specs.Known.{Known}
use Rattle.session_rules.specs.ModelTexts.{traces_under}
use Rattle.session_rules.specs.ReadyJobs.{most_micros}
use Rattle.session_rules.specs.Sessions.{State}

-- how many workers it has, its catalogue, its book of days, its given digest, after how many of a
-- worker's traces a watch line is printed, and the grace of later adds in microseconds
pub record SessionState : Type 0 where
  pub workers : ℕ
  pub known : Known
  pub book : BookState
  pub given : GivenState
  pub watch : ℕ
  pub grace : ℕ

-- what every session keeps, besides what its catalogue and its book keep together
pub record IsSession (s : SessionState) : Type 0 where
  pub some : 0 < s.workers
  pub few : s.workers ≤ 64
  pub within : s.grace ≤ most_micros

-- the session has the state: the same names, watch number and grace, in its book the kept traces,
-- and the given digest, by its table and by the bits of what it refutes under a catalogue that begins
-- with its names and tasks; the traces of both can be counted in 64 bits
pub record Shows (session : SessionState) (s : State) : Type 0 where
  pub known : session.known ≡ s.known
  pub watch : session.watch ≡ s.watch
  pub grace : session.grace ≡ s.grace
  pub traces : AreShown session.known (all_traces session.book.days) s.kept
  pub given : IsGivenOf s.given session.given
  pub begins : BeginsWith s.given session.known
  pub counted : traces_under s.given s.kept < 2 ^ 64
