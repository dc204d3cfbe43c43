-- What jobs other than an add do to the state that a session shows, and what they print.
use Rattle.std.proofs.Common.{◌≡◌, ℕ, ◌+◌, List, [], ◌∷◌, length, map, Option, refl, sym, ap, ◌∙◌, subst, arith}
use Rattle.std.specs.Prelude.{Result, Ok, Err, codes, not, nat_lt}
use Rattle.digest_facts.specs.Digests.{Digest}
use Rattle.day_partitions.specs.Books as books
use Rattle.day_partitions.specs.Books.{IsBook, all_traces, traces_kept_on, with_fewer}
use Rattle.event_lines.specs.declared.command.Command.{Command}
use Rattle.event_lines.specs.declared.command.Command.TheVariants as commands
use Rattle.book_laws.specs.BookLaws.{DropShows, NewestShow}
use Rattle.book_laws.specs.NameLaws.{NamesAreListed}
use Rattle.book_laws.specs.Shown.{AreShown, IsShown}
use Rattle.session_rules.specs.KeptTraces.{Kept, day_of, greater_days, is_of_day, newest, traces_on, without_day}
use Rattle.session_rules.specs.Parts.{DigestOf, Dropped, GraphOf, Header, IsPart, KeptNewest, ModelOf, Part, PathOf, SlacksOf, count_row}
use Rattle.session_rules.specs.Sessions.{Does, State, forecast_parts, report_parts, summary_parts, tail_parts}
use Rattle.session_rules.specs.declared.job.Job.{Job}
use Rattle.session_rules.specs.declared.job.Job.TheVariants.{Add, Control, Evidence, Summary, Tail, Verify, WhatIf, Why}
use Rattle.text_rows.specs.PartsFollow.{CallPrintsOnePart, NoPartIsBegun, NoPartIsPrinted}
use Rattle.text_rows.specs.Printing.{PrintsText}
use Rattle.text_rows.specs.TextsOfParts.{PrintsTexts}
use Rattle.text_rows.specs.declared.print_fault.PrintFault.{PrintFault}
use Rattle.text_rows.specs.declared.print_fault.PrintFault.TheVariants.{Memory}
use Rattle.trace_types.proofs.ShortLemmas.{filter-short}
use Rattle.trace_types.proofs.ZipLemmas.{zip_length}
use Rattle.trace_types.specs.Segments.{SegmentName}
use Rattle.session.proofs.GivenLemmas.{fewer}
use Rattle.session.specs.Carrying.{kept_count}
use Rattle.session.specs.SessionStates.{SessionState, Shows}
use Rattle.session.specs.inner.Changes.{session_with_book, session_with_grace, session_with_watch}
use Rattle.session.specs.inner.Steps.{IsJudgedJob, IsView, PrintsSteps}

module _ {S : Type 0} (written : S → Option (List ℕ)) (faults : S → ℕ) where
  pub drop_step : (drop : DropShows) (one : CallPrintsOnePart written faults IsPart (Unit {0})) (before after : SessionState) (day count : ℕ) (result : Result (Unit {0}) PrintFault) (old new : S) (held holds : List ℕ)
      → after ≡ session_with_book before (with_fewer before.book (books.days_without day before.book.days)) → count ≡ length (traces_kept_on before.book.days day) → IsBook before.book → PrintsText written faults result old new held holds (count_row (codes "drop") day count)
      → PrintsSteps written faults result old new (Control (commands.Drop day)) before after held holds
  drop_step drop one before after day count result old new held holds is counted book printed s shown =
      let d = drop before.known before.book s.kept day book shown.traces in
      let next : State = record s { kept = without_day day s.kept } in
      record {
        parts = Dropped day (length (traces_on day s.kept)) ∷ [];
        next = next;
        does = (refl, refl);
        shows = subst (λ a. Shows a next) (sym is) (record {
          known = shown.known;
          watch = shown.watch;
          grace = shown.grace;
          traces = d.0;
          given = shown.given;
          begins = shown.begins;
          counted = fewer s.given.traces (length s.kept) _ shown.counted (filter-short (λ k. not (is_of_day day k)) s.kept);
        });
        printed = one (Dropped day (length (traces_on day s.kept))) (count_row (codes "drop") day count) result old new held holds (ap (count_row (codes "drop") day) (counted ∙ d.1)) printed;
      }

  pub keep_step : (shows : NewestShow) (one : CallPrintsOnePart written faults IsPart (Unit {0})) (before after : SessionState) (days count : ℕ) (result : Result (Unit {0}) PrintFault) (old new : S) (held holds : List ℕ)
      → after ≡ session_with_book before (with_fewer before.book (books.newest_days days before.book.days)) → count + kept_count after ≡ kept_count before → IsBook before.book → PrintsText written faults result old new held holds (count_row (codes "keep") days count)
      → PrintsSteps written faults result old new (Control (commands.Keep days)) before after held holds
  keep_step newest_shows one before after days count result old new held holds is counted book printed s shown =
      let n = newest_shows before.known before.book s.kept days book shown.traces in
      let next : State = record s { kept = newest days s.kept } in
      let shows : Shows after next = subst (λ a. Shows a next) (sym is) (record {
        known = shown.known;
        watch = shown.watch;
        grace = shown.grace;
        traces = n;
        given = shown.given;
        begins = shown.begins;
        counted = fewer s.given.traces (length s.kept) _ shown.counted (filter-short (λ k. nat_lt (greater_days s.kept (day_of k)) days) s.kept);
      }) in
      record {
        parts = KeptNewest days count ∷ [];
        next = next;
        does = (refl, (count, add_up _ _ _ _ _ counted (zip_length (IsShown before.known) (all_traces before.book.days) s.kept shown.traces) (zip_length (IsShown after.known) (all_traces after.book.days) (newest days s.kept) shows.traces), refl));
        shows = shows;
        printed = one (KeptNewest days count) (count_row (codes "keep") days count) result old new held holds refl printed;
      }
    where
      add_up : (count left all shown_left shown_all : ℕ) → count + left ≡ all → all ≡ shown_all → left ≡ shown_left → shown_left + count ≡ shown_all
      add_up count left all shown_left shown_all e f g = omega (arith, e, f, g)

  pub watch_step : (none : NoPartIsPrinted IsPart) (before after : SessionState) (every : ℕ) (old : S) (held : List ℕ) → after ≡ session_with_watch before every → PrintsSteps {T = Unit {0}} written faults (Ok tt) old old (Control (commands.Watch every)) before after held held
  watch_step none before after every old held is s shown = record {
    parts = [];
    next = record s { watch = every };
    does = (refl, refl);
    shows = subst (λ a. Shows a (record s { watch = every })) (sym is) (record {
      known = shown.known;
      watch = refl;
      grace = shown.grace;
      traces = shown.traces;
      given = shown.given;
      begins = shown.begins;
      counted = shown.counted;
    });
    printed = record { all = none (written old) held; prefix = tt; counted = refl };
  }

  pub grace_step : (none : NoPartIsPrinted IsPart) (before after : SessionState) (micros : ℕ) (old : S) (held : List ℕ) → after ≡ session_with_grace before micros → PrintsSteps {T = Unit {0}} written faults (Ok tt) old old (Control (commands.Grace micros)) before after held held
  grace_step none before after micros old held is s shown = record {
    parts = [];
    next = record s { grace = micros };
    does = (refl, refl);
    shows = subst (λ a. Shows a (record s { grace = micros })) (sym is) (record {
      known = shown.known;
      watch = shown.watch;
      grace = refl;
      traces = shown.traces;
      given = shown.given;
      begins = shown.begins;
      counted = shown.counted;
    });
    printed = record { all = none (written old) held; prefix = tt; counted = refl };
  }

  -- a job that changes nothing and prints parts of the kept traces and the given digest
  pub judged_step : (job : Job) (parts : Digest SegmentName (List ℕ) → List Kept → List Part) → ((workers : ℕ) (s : State) → Does workers job s (parts s.given s.kept) s) → (session : SessionState) (result : Result (Unit {0}) PrintFault) (old new : S) (held holds : List ℕ)
      → ((s : State) → Shows session s → PrintsTexts written faults result old new IsPart (parts s.given s.kept) held holds) → PrintsSteps written faults result old new job session session held holds
  judged_step job parts does session result old new held holds printed s shown = record {
    parts = parts s.given s.kept;
    next = s;
    does = does session.workers s;
    shows = shown;
    printed = printed s shown;
  }

  -- one that was out of memory before it printed anything
  unbegun_step : (unbegun : NoPartIsBegun IsPart) (job : Job) (parts : Digest SegmentName (List ℕ) → List Kept → List Part) → ((workers : ℕ) (s : State) → Does workers job s (parts s.given s.kept) s) → (session : SessionState) (old : S) (held : List ℕ)
      → PrintsSteps {T = Unit {0}} written faults (Err Memory) old old job session session held held
  unbegun_step unbegun job parts does session old held = judged_step job parts does session (Err Memory) old old held held
      (λ s shown. record { all = tt; prefix = unbegun (parts s.given s.kept) (written old) held; counted = refl })

  pub unbegun_view : (unbegun : NoPartIsBegun IsPart) (listed : NamesAreListed) (command : Command) → IsView command → (session : SessionState) (old : S) (held : List ℕ) → PrintsSteps {T = Unit {0}} written faults (Err Memory) old old (Control command) session session held held
  unbegun_view unbegun listed commands.Add v session old held = absurd v
  unbegun_view unbegun listed (commands.Drop day) v session old held = absurd v
  unbegun_view unbegun listed (commands.Keep days) v session old held = absurd v
  unbegun_view unbegun listed (commands.Watch every) v session old held = absurd v
  unbegun_view unbegun listed (commands.Grace micros) v session old held = absurd v
  unbegun_view unbegun listed commands.Model v session old held = unbegun_step unbegun (Control commands.Model) (λ given kept. ModelOf given kept ∷ []) (λ w s. (refl, refl)) session old held
  unbegun_view unbegun listed commands.Paths v session old held =
      unbegun_step unbegun (Control commands.Paths) (λ given kept. Header (codes "paths") (length kept) ∷ map (PathOf given kept) kept) (λ w s. (refl, refl)) session old held
  unbegun_view unbegun listed commands.Slack v session old held =
      unbegun_step unbegun (Control commands.Slack) (λ given kept. Header (codes "slack") (length kept) ∷ map (SlacksOf given kept) kept) (λ w s. (refl, refl)) session old held
  unbegun_view unbegun listed commands.Report v session old held =
      unbegun_step unbegun (Control commands.Report) (λ given kept. report_parts given kept (listed kept).0) (λ w s. (refl, ((listed s.kept).0, (listed s.kept).1, refl))) session old held
  unbegun_view unbegun listed commands.Graph v session old held =
      unbegun_step unbegun (Control commands.Graph) (λ given kept. Header (codes "graph") (length kept) ∷ map (GraphOf given kept) kept) (λ w s. (refl, refl)) session old held
  unbegun_view unbegun listed commands.Summarize v session old held = unbegun_step unbegun (Control commands.Summarize) (λ given kept. DigestOf given kept ∷ []) (λ w s. (refl, refl)) session old held

  pub unbegun_job : (unbegun : NoPartIsBegun IsPart) (listed : NamesAreListed) (job : Job) → IsJudgedJob job → (session : SessionState) (old : S) (held : List ℕ) → PrintsSteps {T = Unit {0}} written faults (Err Memory) old old job session session held held
  unbegun_job unbegun listed (Add events) v session old held = absurd v
  unbegun_job unbegun listed (Control command) v session old held = absurd v
  unbegun_job unbegun listed Summary v session old held = unbegun_step unbegun Summary summary_parts (λ w s. (refl, refl)) session old held
  unbegun_job unbegun listed (WhatIf change) v session old held = unbegun_step unbegun (WhatIf change) (forecast_parts change) (λ w s. (refl, refl)) session old held
  unbegun_job unbegun listed Tail v session old held =
      unbegun_step unbegun Tail (λ given kept. tail_parts given kept (listed kept).0) (λ w s. (refl, ((listed s.kept).0, (listed s.kept).1, refl))) session old held
  unbegun_job unbegun listed Why v session old held = absurd v
  unbegun_job unbegun listed (Verify claims) v session old held = absurd v
  unbegun_job unbegun listed (Evidence choice) v session old held = absurd v

  -- a job that changes nothing and prints parts of the kept traces alone
  pub view_step : (job : Job) (parts : List Kept → List Part) → ((workers : ℕ) (s : State) → Does workers job s (parts s.kept) s) → (inside before : SessionState) → inside ≡ before → (result : Result (Unit {0}) PrintFault) (old new : S) (held holds : List ℕ)
      → ((kept : List Kept) → AreShown inside.known (all_traces inside.book.days) kept → PrintsTexts written faults result old new IsPart (parts kept) held holds) → PrintsSteps written faults result old new job before before held holds
  view_step job parts does inside before view result old new held holds printed =
      subst (λ (b : SessionState). PrintsSteps written faults result old new job b b held holds) view (λ s shown. record {
        parts = parts s.kept;
        next = s;
        does = does inside.workers s;
        shows = shown;
        printed = printed s.kept shown.traces;
      })
