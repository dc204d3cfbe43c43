use Rattle.std.proofs.Common.{map}
use Rattle.std.proofs.lemmas.Result.{err_from_is_err_and}
use Rattle.batch_sheets.specs.Named.{cut_trace}
use Rattle.session.proofs.AddingLemmas.{add_of, booked_cause, judged_as, named_cause}
use Rattle.session.proofs.CountLemmas.{no_more_kept, room_for}
use Rattle.session.proofs.sessions.Session.add_gathered.Goals as goal

pub returns-in_err-session-clause-cause : goal.returns-in_err-session-clause-cause
returns-in_err-session-clause-cause g c =
    let valid = map cut_trace c.in_ok-judged.judged.valid.items in
    let refused = c.in_ok-judged.judged.refused.items in
    let fault = c.in_err-session.field-0.0 in
    let p = err_from_is_err_and c.from_residual-in_err-session.result c.from_residual-in_err-session.ensures.1 in
    rw (p.1, p.2) (λ events same s shown. named_cause fault c.args.self s events valid refused shown (judged_as c.args.gathered.now.traces events valid refused same c.in_ok-judged.ensures.judged) c.in_err-session.ensures.cause)

pub add_days-requires-clause-many : goal.add_days-requires-clause-many
add_days-requires-clause-many g c κs within =
    let valid = map cut_trace c.in_ok-judged.judged.valid.items in
    let refused = c.in_ok-judged.judged.refused.items in
    let batch = c.in_ok-session.field-0 in
    let few = c.requires.few in
    room_for c.args.self batch.session valid batch.named.items _ c.in_ok-session.ensures.added c.in_ok-session.ensures.shown (c.no_more_are_valid.ensures few.0 valid refused (judged_as c.args.gathered.now.traces few.0 valid refused few.1 c.in_ok-judged.ensures.judged)) few.2

pub returns-in_err-watched-clause-cause : goal.returns-in_err-watched-clause-cause
returns-in_err-watched-clause-cause g c =
    let valid = map cut_trace c.in_ok-judged.judged.valid.items in
    let refused = c.in_ok-judged.judged.refused.items in
    let batch = c.in_ok-session.field-0 in
    let fault = c.in_err-watched.field-0.0 in
    let p = err_from_is_err_and c.from_residual-in_err-watched.result c.from_residual-in_err-watched.ensures.1 in
    rw (p.1, p.2) (λ events same s shown. booked_cause c.args.self valid batch.session c.in_ok-session.ensures.added c.add_passes_days.ensures c.add_passes_traces.ensures fault s events refused shown (judged_as c.args.gathered.now.traces events valid refused same c.in_ok-judged.ensures.judged) (c.in_err-watched.ensures.cause valid c.in_ok-session.ensures.shown))

pub returns-clause-kept : goal.returns-clause-kept
returns-clause-kept g c =
    let valid = map cut_trace c.in_ok-judged.judged.valid.items in
    let refused = c.in_ok-judged.judged.refused.items in
    let batch = c.in_ok-session.field-0 in
    λ events same. no_more_kept c.args.self batch.session valid batch.named.items _ c.in_ok-session.ensures.added c.in_ok-session.ensures.shown (c.no_more_are_valid.ensures events valid refused (judged_as c.args.gathered.now.traces events valid refused same c.in_ok-judged.ensures.judged)) _ c.in_ok-watched.ensures.kept

pub returns-clause-added : goal.returns-clause-added
returns-clause-added g c =
    let valid = map cut_trace c.in_ok-judged.judged.valid.items in
    let refused = c.in_ok-judged.judged.refused.items in
    let batch = c.in_ok-session.field-0 in
    λ events same s shown. add_of c.args.self valid batch.session c.in_ok-session.ensures.added c.add_leads_on.ensures c.add_is_told.ensures s events refused c.add_days.new.self c.in_ok-watched.watched.items shown (judged_as c.args.gathered.now.traces events valid refused same c.in_ok-judged.ensures.judged) (c.in_ok-watched.ensures.booked valid c.in_ok-session.ensures.shown)

pub returns-in_err-judged-clause-cause : goal.returns-in_err-judged-clause-cause
returns-in_err-judged-clause-cause g c =
    let p = err_from_is_err_and c.from_residual.result c.from_residual.ensures.1 in
    rw (p.1, p.2) (λ events same s shown. tt)
