use Rattle.std.proofs.Common.{◌≡◌, ◌∙◌, ℕ, [], length, ap, arith, append-nil, refl, subst, sym}
use Rattle.std.proofs.lemmas.List.{with_items_is}
use Rattle.std.proofs.lemmas.Result.{err_from_is_err_and}
use Rattle.mystery_io.specs.ReadFaults.{files_seen}
use Rattle.mystery_io.proofs.GivenLemmas.{new_are, grown_by}
use Rattle.mystery_io.proofs.OpenLemmas.{calls_more}
use Rattle.line_clean.specs.Runs.{Seen, run_seen}
use Rattle.line_clean.specs.inner.Steps.{IsFaultOf}
use Rattle.line_clean.proofs.RunLemmas.{calls_none, cleaned_more, cleaned_none, explains_done, explains_memory, explains_stop, stops_grow}
use Rattle.line_clean.proofs.reading.clean_files.Goals as goal

pub returns-in_err-buffer-clause-explains : goal.returns-in_err-buffer-clause-explains
returns-in_err-buffer-clause-explains g c =
    let F = g.F.Files in
    let files = c.args.files.now in
    let p = err_from_is_err_and c.from_residual.result c.from_residual.ensures.1 in
    let seen : Seen = run_seen c.args.names.now (files_seen F.given F.opens files files) g.S.Sink.written c.args.out.now c.args.out.now in
    rw (p.1, p.2) (explains_memory seen c.requires (new_are (F.given files) (F.given files) [] (sym (append-nil (F.given files)))) refl (calls_none (F.opens files)))

pub returns-in_err-buffer-clause-grows : goal.returns-in_err-buffer-clause-grows
returns-in_err-buffer-clause-grows g c =
    let F = g.F.Files in
    grown_by (F.given c.args.files.now) (F.given c.args.files.now) [] (sym (append-nil (F.given c.args.files.now)))

pub files-init : goal.files-init
files-init g c =
    let F = g.F.Files in
    record {
      index = refl;
      room = omega (arith, c.in_ok-buffer.ensures.len, c.in_ok-buffer.buffer.ok.0);
      short = omega (arith, c.in_ok-buffer.ensures.len, c.in_ok-buffer.buffer.ok.0);
      opens = calls_none (F.opens c.args.files.now);
      counted = refl;
      tallied = refl;
      cleaned = cleaned_none c.args.names.now (g.S.Sink.written c.args.out.now) (F.given c.args.files.now);
    }

pub returns-in_err-clean_file-clause-explains : goal.returns-in_err-clean_file-clause-explains
returns-in_err-clean_file-clause-explains g c =
    let F = g.F.Files in
    let S = g.S.Sink in
    let at = c.files.invariant in
    let i = c.files.name-index in
    let name = c.name-item.result in
    let names = c.args.names.now in
    let p = err_from_is_err_and c.from_residual-in_err-clean_file.result c.from_residual-in_err-clean_file.ensures.1 in
    let seen : Seen = run_seen names (files_seen F.given F.opens c.args.files.now c.clean_file.new.files) S.written c.args.out.now c.clean_file.new.out in
    let fault = c.in_err-clean_file.field-0.0 in
    let cause = subst (λ (k : ℕ). IsFaultOf k fault) at.index c.in_err-clean_file.ensures.cause in
    rw (p.1, p.2) (explains_stop names i name (omega (arith, c.files-test.true)) c.name-item.is (S.written c.args.out.now) (S.written c.files.out) (S.written c.clean_file.new.out) (F.given c.args.files.now) (F.given c.files.files) (F.given c.clean_file.new.files) at.cleaned
    seen refl c.requires refl refl refl (calls_more i _ _ _ at.opens c.clean_file.ensures.opens) c.in_err-clean_file.ensures.stops fault cause)

pub returns-in_err-clean_file-clause-grows : goal.returns-in_err-clean_file-clause-grows
returns-in_err-clean_file-clause-grows g c =
    let F = g.F.Files in
    let S = g.S.Sink in
    let at = c.files.invariant in
    stops_grow c.args.names.now c.files.name-index c.name-item.result (omega (arith, c.files-test.true)) c.name-item.is (S.written c.args.out.now) (S.written c.files.out) (S.written c.clean_file.new.out) (F.given c.args.files.now) (F.given c.files.files) (F.given c.clean_file.new.files) at.cleaned
    c.in_err-clean_file.ensures.stops

pub files-preserved : goal.files-preserved
files-preserved g c =
    let F = g.F.Files in
    let S = g.S.Sink in
    let at = c.files.invariant in
    let i = c.files.name-index in
    let size = c.in_ok-clean_file.ensures.room in
    let whole = with_items_is c.files.buffer c.clean_file.new.buffer (omega (arith, size, ap length c.deref_mut.ensures.value, c.files.buffer.ok.0)) in
    record {
      index = omega (arith, at.index);
      room = omega (arith, ap length whole, size, ap length c.deref_mut.ensures.value, at.room);
      short = omega (arith, ap length whole, size, ap length c.deref_mut.ensures.value, at.short);
      opens = calls_more i _ _ _ at.opens c.in_ok-clean_file.ensures.opens;
      counted = c.in_ok-clean_file.ensures.counted ∙ at.counted;
      tallied = c.in_ok-clean_file.ensures.tallied ∙ at.tallied;
      cleaned = cleaned_more c.args.names.now i c.name-item.result (omega (arith, c.files-test.true)) c.name-item.is (S.written c.args.out.now) (S.written c.files.out) (S.written c.clean_file.new.out) (F.given c.args.files.now) (F.given c.files.files) (F.given c.clean_file.new.files) at.cleaned
          c.in_ok-clean_file.ensures.cleaned;
    }

pub returns-clause-explains : goal.returns-clause-explains
returns-clause-explains g c =
    let F = g.F.Files in
    let S = g.S.Sink in
    let at = c.files.invariant in
    let names = c.args.names.now in
    let seen : Seen = run_seen names (files_seen F.given F.opens c.args.files.now c.files.files) S.written c.args.out.now c.files.out in
    let all : c.files.name-index ≡ length names = omega arith in
    explains_done tt seen (S.written c.args.out.now) (S.written c.files.out) (F.given c.args.files.now) (F.given c.files.files) c.files.name-index all c.requires refl refl refl at.opens at.cleaned

pub returns-clause-grows : goal.returns-clause-grows
returns-clause-grows g c =
    let F = g.F.Files in
    let at = c.files.invariant in
    grown_by (F.given c.args.files.now) (F.given c.files.files) at.cleaned.readings at.cleaned.given
