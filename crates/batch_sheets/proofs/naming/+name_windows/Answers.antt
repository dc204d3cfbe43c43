use Rattle.std.proofs.Common.{List, map, subst}
use Rattle.std.proofs.lemmas.Result.{IfErr-weaker, err_from_is_err_and, on_ok_weaker}
use Rattle.segment_names.specs.Limits.{HasCause, PassesLimit}
use Rattle.trace_types.specs.declared.trace.Trace.{Trace}
use Rattle.batch_sheets.specs.inner.Growth.{AppendsNamed}
use Rattle.batch_sheets.proofs.GrowthLemmas.{appends_more, back_passes, front_passes}
use Rattle.batch_sheets.specs.Named.{cut_trace}
use Rattle.batch_sheets.proofs.CutLemmas.{traces_joined}
use Rattle.batch_sheets.proofs.naming.+name_windows.Goals as goal

pub returns-in_err-name_windows-clause-cause : goal.returns-in_err-name_windows-clause-cause
returns-in_err-name_windows-clause-cause g t c =
    let old = c.args.catalogue.now in
    let front = map cut_trace c.split_off.new.self.items in
    let back = map cut_trace c.in_ok-last.last.items in
    let fault = c.in_err-name_windows.field-0.0 in
    let joined = traces_joined c.args.traces.items c.split_off.new.self.items c.in_ok-last.last.items _ c.in_ok-last.ensures.items c.in_ok-last.ensures.tail in
    let p = err_from_is_err_and c.from_residual-in_err-name_windows.result c.from_residual-in_err-name_windows.ensures.1 in
    rw (p.1, p.2) (subst (λ (ts : List Trace). HasCause (PassesLimit old ts) fault) joined (front_passes old front back fault c.in_err-name_windows.ensures.cause))

pub returns-clause-named : goal.returns-clause-named
returns-clause-named g t c =
    let old = c.args.catalogue.now in
    let front = map cut_trace c.split_off.new.self.items in
    let back = map cut_trace c.in_ok-last.last.items in
    let joined = traces_joined c.args.traces.items c.split_off.new.self.items c.in_ok-last.last.items _ c.in_ok-last.ensures.items c.in_ok-last.ensures.tail in
    let a = c.in_ok-name_windows.ensures.named in
    on_ok_weaker c.name_window-2.result (λ m. subst (λ (ts : List Trace). AppendsNamed old c.name_window-2.new.catalogue c.args.grace ts c.args.named.now.items c.name_window-2.new.named.items) joined
    (appends_more c.grown_shows.ensures old c.name_windows.new.catalogue c.args.grace front a.0 a.2 c.name_window-2.new.catalogue back c.args.named.now.items c.name_windows.new.named.items c.name_window-2.new.named.items a.1 m)) c.name_window-2.ensures.named

pub returns-clause-cause : goal.returns-clause-cause
returns-clause-cause g t c =
    let old = c.args.catalogue.now in
    let front = map cut_trace c.split_off.new.self.items in
    let back = map cut_trace c.in_ok-last.last.items in
    let joined = traces_joined c.args.traces.items c.split_off.new.self.items c.in_ok-last.last.items _ c.in_ok-last.ensures.items c.in_ok-last.ensures.tail in
    let a = c.in_ok-name_windows.ensures.named in
    IfErr-weaker c.name_window-2.result _ _ (λ fault h. subst (λ (ts : List Trace). HasCause (PassesLimit old ts) fault) joined (back_passes c.grown_shows.ensures old c.name_windows.new.catalogue c.args.grace front a.0 a.2 back fault h)) c.name_window-2.ensures.cause
