use Rattle.std.proofs.Common.{arith, ◌≡◌, ◌+◌, ℕ, suc, Result, Ok, Err, IfErr, List, ◌∷◌, drop, refl, ap, ap₂, sym, subst, ◌∙◌}
use Rattle.std.specs.List.{All}
use Rattle.refute_tests.specs.Clearing.{HaveNamesBelow}
use Rattle.trace_types.specs.declared.named_trace.NamedTrace.{NamedTrace}
use Rattle.word_rows.specs.declared.views.Reading.{Reading}
use Rattle.word_rows.specs.declared.views.View.{View}
use Rattle.trace_pass.specs.States.{HasStopped}
use Rattle.trace_rules.specs.declared.watch_line.WatchLine.{WatchLine}
use Rattle.trace_pass.specs.inner.Parts.{PartState, recording_of, rest_of}
use Rattle.trace_pass.specs.inner.Working.{IsWatching}
use Rattle.trace_pass.proofs.PartLemmas.{recorded_more, stopped, worked}
use Rattle.trace_pass.proofs.WatchLemmas.{watching_none}
use Rattle.trace_pass.proofs.workers.offer_each.Goals as goal

all_tail : (F : NamedTrace → Type 0) (xs ys : List NamedTrace) (x : NamedTrace) → xs ≡ x ∷ ys → All F xs → All F ys
all_tail F xs ys x e h k d l = let moved : All F (x ∷ ys) = subst (All F) e h in moved (suc k) d (omega arith)

if_err : {A E : Type 0} (P : Type 0) (r : Result A E) → P → IfErr r (λ _. P)
if_err P (Ok a) p = tt
if_err P (Err b) p = p

pub loop-offered-init : goal.loop-offered-init
loop-offered-init g c = record {
  given = refl;
  names = refl;
  counted = omega arith;
  table = c.requires.can.table;
  shares = refl;
  named = c.requires.can.names;
  more = λ history begins. begins;
  watching = subst (λ (ls : List WatchLine). IsWatching c.args.every c.args.recorder.now.table.width c.args.worker 0 (rest_of c.args.part.now) c.args.part.now.pass.view.readings c.args.part.now.pass.view.readings ls) (sym c.in_ok-lines.ensures.items)
      (watching_none c.args.every c.args.recorder.now.table.width c.args.worker _ c.args.part.now.pass.view.readings);
}

pub loop-offered-preserved : goal.loop-offered-preserved
loop-offered-preserved g c =
    let at = c.loop-offered in let inv = c.loop-offered.invariant in
    let ok = c.in_ok-offer_next.ensures.ok in
    let mid : PartState = c.offer_next.new.part in let new : PartState = c.watch.new.part in let old : PartState = c.args.part.now in
    let same : rest_of new ≡ rest_of mid = ap₂ (λ (k : ℕ) (ts : List NamedTrace). drop k ts) c.watch.ensures.same.recorded c.watch.ensures.same.given in
    let counted : mid.recorded ≡ old.recorded + (at.offered + 1) = let was = inv.counted in let more = ok.recorded in omega arith in
    let readings : mid.pass.view.readings ≡ at.part.pass.view.readings = ap (λ (v : View). v.readings) ok.offered.view in
    record {
      given = c.watch.ensures.same.given ∙ ok.given ∙ inv.given;
      names = c.watch.ensures.same.names ∙ ok.offered.names ∙ inv.names;
      counted = c.watch.ensures.same.recorded ∙ counted;
      table = c.watch.ensures.table;
      shares = c.watch.ensures.shares ∙ ap (λ (v : View). v.shares) ok.offered.view ∙ inv.shares;
      named = subst (All (HaveNamesBelow c.args.recorder.now.names)) (sym same) (all_tail (HaveNamesBelow c.args.recorder.now.names) _ _ ok.trace ok.next inv.named);
      more = λ history begins. inv.more history (ok.offered.more history (c.watch.ensures.more history begins));
      watching = c.in_ok-watch.ensures.watched old.pass.view.readings (recording_of old).traces (rest_of old)
          (recorded_more old mid (at.offered + 1) (ok.given ∙ inv.given) counted)
          (subst (λ (r : List Reading). IsWatching c.args.every c.args.recorder.now.table.width c.args.worker at.offered (rest_of old) old.pass.view.readings r at.lines.items) (sym readings) inv.watching);
    }

pub returns-in_err-offer_next-clause-err : goal.returns-in_err-offer_next-clause-err
returns-in_err-offer_next-clause-err g c =
    let at = c.loop-offered in let inv = c.loop-offered.invariant in
    let same : c.offer_next.new.part ≡ at.part = c.in_err-offer_next.ensures.err in
    if_err _ c.from_residual-in_err-offer_next.result
    (subst (λ (p : PartState). HasStopped c.args.recorder.now (recording_of c.args.part.now) (rest_of c.args.part.now) (recording_of p)) (sym same)
    (stopped c.args.recorder.now c.args.part.now at.part at.offered inv.table inv.given inv.counted inv.shares))

pub returns-in_err-watch-clause-err : goal.returns-in_err-watch-clause-err
returns-in_err-watch-clause-err g c =
    let at = c.loop-offered in let inv = c.loop-offered.invariant in
    let ok = c.in_ok-offer_next.ensures.ok in
    let counted : c.offer_next.new.part.recorded ≡ c.args.part.now.recorded + (at.offered + 1) = let was = inv.counted in let more = ok.recorded in omega arith in
    if_err _ c.from_residual-in_err-watch.result
    (stopped c.args.recorder.now c.args.part.now c.watch.new.part (at.offered + 1) c.watch.ensures.table (c.watch.ensures.same.given ∙ ok.given ∙ inv.given) (c.watch.ensures.same.recorded ∙ counted)
    (c.watch.ensures.shares ∙ ap (λ (v : View). v.shares) ok.offered.view ∙ inv.shares))

pub returns-clause-ok : goal.returns-clause-ok
returns-clause-ok g c =
    let at = c.loop-offered in let inv = c.loop-offered.invariant in
    worked c.args.recorder.now c.args.every c.args.worker at.offered c.args.part.now at.part at.lines.items (omega arith) inv.table inv.given inv.counted inv.shares inv.more inv.watching
