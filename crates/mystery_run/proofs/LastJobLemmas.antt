-- The last job of an input.
use Rattle.std.proofs.Common.{◌≡◌, ℕ, ◌+◌, ◌<◌, ◌^◌, List, [], ◌∷◌, ◌++◌, length, Option, Some, None, refl, ◌∙◌, ap, subst, inl}
use Rattle.std.specs.Prelude.{All, IfSome}
use Rattle.std.proofs.lemmas.List.{append-nil}
use Rattle.std.proofs.lemmas.List.Elements.{All-cons, All-nil}
use Rattle.std.proofs.lemmas.List.Sums.{sum_by-cons}
use Rattle.digest_facts.specs.Tables.{Table}
use Rattle.event_lines.specs.GoodLines.{IsLimited, IsTimely}
use Rattle.event_lines.specs.declared.command.Command.TheVariants as commands
use Rattle.event_lines.specs.declared.line.Line.{Line}
use Rattle.event_lines.specs.declared.line.Line.TheVariants as line_kinds
use Rattle.session_laws.specs.ReadyLaws.{IsFurther, JobsAreReady}
use Rattle.session_rules.specs.ReadyJobs.{AreReady}
use Rattle.session_rules.specs.ReadyJobs.{IsReady, requests_in}
use Rattle.session_rules.specs.Jobs.{jobs_of}
use Rattle.session_rules.specs.declared.job.Job.{Job}
use Rattle.session_rules.specs.declared.job.Job.TheVariants.{Control}
use Rattle.trace_types.specs.Segments.{SegmentName}
use Rattle.mystery_run.specs.declared.view.View.{View}
use Rattle.mystery_run.specs.declared.view.View.TheVariants.{Model, Paths, Slack, Report, Graph, Summarize}
use Rattle.mystery_run.specs.Works.{Jobs, jobs_with, view_command}
use Rattle.mystery_run.specs.inner.LastJobs.{IsLastJob}

-- a view may be the last job
pub view_is_last : (v : View) → IsLastJob (Control (view_command v))
view_is_last Model = record { ready = tt; few = refl }
view_is_last Paths = record { ready = tt; few = refl }
view_is_last Slack = record { ready = tt; few = refl }
view_is_last Report = record { ready = tt; few = refl }
view_is_last Graph = record { ready = tt; few = refl }
view_is_last Summarize = record { ready = tt; few = refl }

-- the jobs of a work are known
same_jobs : (tables : List (Table SegmentName (List ℕ))) (xs ys : List Job) → Jobs tables xs ≡ Jobs tables ys → xs ≡ ys
same_jobs tables xs ys e = cc

module _ (law : JobsAreReady) (lines : List Line) (timely : All IsTimely lines) (limited : All IsLimited lines) (few : length lines < 2 ^ 32) where
  none_ready : AreReady (jobs_of lines)
  none_ready = subst AreReady (append-nil (jobs_of (lines ++ [])) ∙ ap jobs_of (append-nil lines))
      (law lines [] [] timely limited few (All-nil IsFurther) (All-nil IsReady) refl)

  some_ready : (job : Job) → IsLastJob job → AreReady (jobs_of (lines ++ line_kinds.Control 0 commands.Add ∷ []) ++ job ∷ [])
  some_ready job h = law lines (line_kinds.Control 0 commands.Add ∷ []) (job ∷ []) timely limited few
      (All-cons IsFurther (line_kinds.Control 0 commands.Add) [] (inl refl) (All-nil IsFurther))
      (All-cons IsReady job [] h.ready (All-nil IsReady))
      (sum_by-cons requests_in job [] ∙ ap (λ (n : ℕ). n + 0) h.few)

  -- the jobs of the lines of an input and the last job are ready
  pub jobs_ready : (last : Option Job) (jobs : List Job) → IfSome last IsLastJob → jobs_with [] last lines ≡ Jobs [] jobs → AreReady jobs
  jobs_ready None jobs h e = subst AreReady (same_jobs [] (jobs_of lines) jobs e) none_ready
  jobs_ready (Some job) jobs h e = subst AreReady (same_jobs [] _ jobs e) (some_ready job h)
