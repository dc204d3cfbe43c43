-- The jobs of a run of lines and of the lines after it.
use Rattle.std.proofs.Common.{◌≡◌, ℕ, List, [], ◌∷◌, ◌++◌, sym, ap, ◌∙◌, append_assoc, append-nil}
use Rattle.event_lines.specs.LineParts.{lines_of_events}
use Rattle.event_lines.specs.declared.command.Command.{Command}
use Rattle.event_lines.specs.declared.line.Line.{Line}
use Rattle.event_lines.specs.declared.line.Line.TheVariants.{Control}
use Rattle.session_rules.specs.Jobs.{batch_after, job_of, jobs_from}
use Rattle.session_rules.specs.declared.job.Job.{Job}
use Rattle.trace_types.specs.declared.event.Event.{Event}

-- events join the batch
events_join : (batch events : List Event) (rest : List Line) → jobs_from batch (lines_of_events events ++ rest) ≡ jobs_from (batch ++ events) rest
events_join batch [] rest = ap (λ (b : List Event). jobs_from b rest) (sym (append-nil batch))
events_join batch (event ∷ events) rest =
    events_join (batch ++ event ∷ []) events rest ∙ ap (λ (b : List Event). jobs_from b rest) (append_assoc batch (event ∷ []) events)

module _ (jobs : List Job) (batch events later : List Event) (rest : List Line) (joined : later ≡ batch ++ events) where
  joined_jobs : (tail : List Line) → jobs ++ jobs_from batch ((lines_of_events events ++ tail) ++ rest) ≡ jobs ++ jobs_from later (tail ++ rest)
  joined_jobs tail =
      ap (λ (ls : List Line). jobs ++ jobs_from batch ls) (append_assoc (lines_of_events events) tail rest)
      ∙ ap (λ (js : List Job). jobs ++ js) (events_join batch events (tail ++ rest) ∙ ap (λ (b : List Event). jobs_from b (tail ++ rest)) (sym joined))

  -- a run that ends in no command makes no job
  pub no_job : jobs ++ jobs_from batch ((lines_of_events events ++ []) ++ rest) ≡ jobs ++ jobs_from later rest
  no_job = joined_jobs []

  -- one that ends in a command makes its job
  pub one_job : (line : ℕ) (command : Command) (more : List Job) (left : List Event) → more ≡ jobs ++ job_of later command ∷ [] → left ≡ batch_after later command
      → jobs ++ jobs_from batch ((lines_of_events events ++ Control line command ∷ []) ++ rest) ≡ more ++ jobs_from left rest
  one_job line command more left job after =
      joined_jobs (Control line command ∷ [])
      ∙ sym (append_assoc jobs (job_of later command ∷ []) (jobs_from (batch_after later command) rest))
      ∙ ap (λ (js : List Job). js ++ jobs_from (batch_after later command) rest) (sym job)
      ∙ ap (λ (b : List Event). more ++ jobs_from b rest) (sym after)
