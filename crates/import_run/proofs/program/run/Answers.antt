use Rattle.std.proofs.Common.{◌∙◌, inl, inr}
use Rattle.mystery_io.specs.Prefixes.{Sends}
use Rattle.mystery_io.specs.ReadFaults.{files_seen}
use Rattle.import_run.specs.Endings.{Explains, Seen, run_seen}
use Rattle.import_run.specs.Messages.{message_of}
use Rattle.import_run.proofs.StatusLemmas.{of_bad, of_done, quiet}
use Rattle.import_run.proofs.program.run.Goals as goal

pub returns-clause-done : goal.returns-clause-done
returns-clause-done g c k =
    let F = g.F.Files in
    let seen : Seen = run_seen c.args.words.now (files_seen F.given F.opens c.args.files.now c.perform-outcome.new.files) g.S.Sink.written c.args.out.now c.perform-outcome.new.out in
    let sends = rw (c.as_bytes.ensures.value ∙ c.as_str.ensures.value ∙ c.message.ensures) at c.send_text.ensures.sends in
    let h = of_done (λ o. Explains o seen × Sends g.E.Sink.written g.E.Sink.faults c.args.err.now c.send_text.new.sink (message_of o)) c.perform-outcome.result c.status.result c.status.ensures (c.perform-outcome.ensures.explains, sends) k in
    (h.0, h.1.0, h.1.1)

pub returns-clause-bad : goal.returns-clause-bad
returns-clause-bad g c k =
    let F = g.F.Files in
    let seen : Seen = run_seen c.args.words.now (files_seen F.given F.opens c.args.files.now c.perform-outcome.new.files) g.S.Sink.written c.args.out.now c.perform-outcome.new.out in
    let sends = rw (c.as_bytes.ensures.value ∙ c.as_str.ensures.value ∙ c.message.ensures) at c.send_text.ensures.sends in
    let h = of_bad (λ o. Explains o seen × Sends g.E.Sink.written g.E.Sink.faults c.args.err.now c.send_text.new.sink (message_of o)) c.perform-outcome.result c.status.result c.status.ensures (c.perform-outcome.ensures.explains, sends) k in
    elim h [ inl x ↦ inl (x.0, x.1, x.2, x.3.0, x.3.1) | inr x ↦ inr (x.0, x.1, x.2, x.3.0, x.3.1) ]

pub returns-clause-silent : goal.returns-clause-silent
returns-clause-silent g c k call is form =
    let F = g.F.Files in
    let seen : Seen = run_seen c.args.words.now (files_seen F.given F.opens c.args.files.now c.perform-outcome.new.files) g.S.Sink.written c.args.out.now c.perform-outcome.new.out in
    c.send_text.ensures.nothing (rw (c.as_bytes.ensures.value ∙ c.as_str.ensures.value ∙ c.message.ensures) (quiet c.perform-outcome.result c.status.result seen call c.status.ensures k c.perform-outcome.ensures.explains is form))
