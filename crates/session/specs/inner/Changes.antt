-- A session with one thing changed.
use Rattle.std.specs.Prelude.{ℕ, List, length}
use Rattle.day_partitions.specs.Books.{BookState, with_names}
use Rattle.segment_names.specs.Known.{with_traces}
use Rattle.trace_types.specs.declared.trace.Trace.{Trace}
use Rattle.session.specs.SessionStates.{SessionState}

-- with another book
abbrev pub session_with_book : SessionState → BookState → SessionState
session_with_book s book = record {
  workers = s.workers;
  known = s.known;
  book = book;
  given = s.given;
  watch = s.watch;
  grace = s.grace;
}

-- with this watch number
abbrev pub session_with_watch : SessionState → ℕ → SessionState
session_with_watch s every = record {
  workers = s.workers;
  known = s.known;
  book = s.book;
  given = s.given;
  watch = every;
  grace = s.grace;
}

-- with this grace
abbrev pub session_with_grace : SessionState → ℕ → SessionState
session_with_grace s micros = record {
  workers = s.workers;
  known = s.known;
  book = s.book;
  given = s.given;
  watch = s.watch;
  grace = micros;
}

-- with the names and tasks of these traces, and its book as wide as its names
abbrev pub session_with_names : SessionState → List Trace → SessionState
session_with_names s valid = record {
  workers = s.workers;
  known = with_traces s.known valid;
  book = with_names s.book (length (with_traces s.known valid).names);
  given = s.given;
  watch = s.watch;
  grace = s.grace;
}
