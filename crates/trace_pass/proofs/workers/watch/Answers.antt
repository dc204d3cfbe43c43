use Rattle.std.proofs.Common.{◌+◌, ◌<◌, refl, List, [], ◌∷◌, ◌++◌, ap, subst, sym, ◌∙◌}
use Rattle.word_rows.specs.declared.views.Reading.{Reading}
use Rattle.word_rows.specs.declared.views.View.{View}
use Rattle.word_rows.specs.Changes.{readings_from}
use Rattle.trace_rules.specs.declared.watch_line.WatchLine.{WatchLine}
use Rattle.trace_pass.specs.inner.Parts.{recording_of}
use Rattle.trace_pass.specs.inner.Working.{IsWatching}
use Rattle.trace_pass.proofs.WatchLemmas.{watching_more, watching_same}
use Rattle.trace_pass.proofs.workers.watch.Goals as goal

pub returns-then-not-is_multiple-clause-watched : goal.returns-then-not-is_multiple-clause-watched
returns-then-not-is_multiple-clause-watched c base firsts share parts w =
    watching_same c.args.every c.args.recorder.now.table.width c.args.worker c.args.offered share base _ _ (sym c.is_multiple.ensures.multiple ∙ c.if-not-is_multiple.true) w

pub returns-clause-watched : goal.returns-clause-watched
returns-clause-watched c base firsts share parts w =
    let every = c.args.every in let width = c.args.recorder.now.table.width in let worker = c.args.worker in let offered = c.args.offered in
    let into = c.read_number-refuted.new.into in
    let line : WatchLine = record { worker = c.args.worker; done = c.args.offered + 1; refuted = c.read_number-refuted.result } in
    let old : List Reading = c.args.part.now.pass.view.readings in
    let positive : 0 < every = c.is_multiple.ensures.some c.if-not-is_multiple.false in
    let due = sym c.is_multiple.ensures.multiple ∙ c.if-not-is_multiple.false in
    let more : IsWatching every width worker (offered + 1) share base (old ++ readings_from 0 into) (c.args.lines.now.items ++ line ∷ []) =
    watching_more c.lacks_append.ensures c.block_lacks.ensures every width worker offered firsts share (recording_of c.args.part.now).traces base old c.args.lines.now.items into line
    due parts refl refl c.read_number-refuted.ensures.count (c.read_number-refuted.auto.into ∙ c.requires.width positive) c.read_number-refuted.ensures.bound c.read_number-refuted.ensures.least c.read_number-refuted.ensures.shown w in
    subst (λ (r : List Reading). IsWatching every width worker (offered + 1) share base r c.push.new.self.items) (sym (ap (λ (v : View). v.readings) c.read_number-refuted.ensures.readings))
    (subst (λ (l : List WatchLine). IsWatching every width worker (offered + 1) share base (old ++ readings_from 0 into) l) (sym c.in_ok-push.ensures.items) more)
