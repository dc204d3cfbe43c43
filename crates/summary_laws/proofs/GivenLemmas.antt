-- No job changes the given digest.
use Rattle.std.proofs.Common.{◌≡◌, ℕ, List, [], ◌∷◌, ap, ◌∙◌}
use Rattle.digest_facts.specs.Digests.{Digest}
use Rattle.event_lines.specs.declared.command.Command.{Command}
use Rattle.event_lines.specs.declared.command.Command.TheVariants as commands
use Rattle.session_rules.specs.Parts.{Part}
use Rattle.session_rules.specs.Sessions.{Commands, Does, Leads, State, first_state}
use Rattle.session_rules.specs.declared.job.Job.{Job}
use Rattle.session_rules.specs.declared.job.Job.TheVariants as jobs
use Rattle.trace_types.specs.Segments.{SegmentName}
use Rattle.summary_laws.specs.GivenJobs.{TheGivenDigestStays}

abbrev given_in : State → Digest SegmentName (List ℕ)
given_in s = s.given

commanded : (command : Command) (s next : State) (parts : List Part) → Commands command s parts next → next.given ≡ s.given
commanded commands.Add s next parts does = absurd does
commanded (commands.Drop day) s next parts does = ap given_in does.0
commanded (commands.Keep days) s next parts does = ap given_in does.0
commanded (commands.Watch every) s next parts does = ap given_in does.0
commanded (commands.Grace micros) s next parts does = ap given_in does.0
commanded commands.Model s next parts does = ap given_in does.0
commanded commands.Paths s next parts does = ap given_in does.0
commanded commands.Slack s next parts does = ap given_in does.0
commanded commands.Report s next parts does = ap given_in does.0
commanded commands.Graph s next parts does = ap given_in does.0
commanded commands.Summarize s next parts does = ap given_in does.0

done : (workers : ℕ) (job : Job) (s next : State) (parts : List Part) → Does workers job s parts next → next.given ≡ s.given
done workers (jobs.Add events) s next parts does = ap given_in does.after
done workers (jobs.Control command) s next parts does = commanded command s next parts does
done workers jobs.Summary s next parts does = ap given_in does.0
done workers (jobs.WhatIf change) s next parts does = ap given_in does.0
done workers jobs.Tail s next parts does = ap given_in does.0
done workers jobs.Why s next parts does = ap given_in does.0
done workers (jobs.Verify claims) s next parts does = ap given_in does.0
done workers (jobs.Evidence choice) s next parts does = ap given_in does.0

stays : (workers : ℕ) (all : List Job) (s last : State) (parts : List Part) → Leads workers all s parts last → last.given ≡ s.given
stays workers [] s last parts led = ap given_in led.1
stays workers (job ∷ all) s last parts led = stays workers all led.1 last led.2 led.4 ∙ done workers job s led.1 led.0 led.3

pub given_stays : TheGivenDigestStays
given_stays workers given all parts last led = stays workers all (first_state given) last parts led
