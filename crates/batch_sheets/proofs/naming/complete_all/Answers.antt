use Rattle.std.proofs.Common.{rules, ◌≡◌, List, [], ◌∷◌, ◌++◌, length, sym, ap, ◌∙◌, subst, append-nil, append_assoc, arith}
use Rattle.std.proofs.lemmas.Result.{err_from_is_err_and}
use Rattle.std.specs.List.{AllZip}
use Rattle.std.specs.Vec.Iter.{into_iter_items}
use Rattle.batch_sheets.specs.declared.known_names.NamedOrNew.{NamedOrNew}
use Rattle.batch_sheets.specs.inner.Growth.{IsNamedOrNew}
use Rattle.batch_sheets.proofs.GrowthLemmas.{adds_none}
use Rattle.batch_sheets.proofs.NewLemmas.{new_cause, new_more, new_none}
use Rattle.batch_sheets.proofs.naming.complete_all.Goals as goal

pub loop-one-init : goal.loop-one-init
loop-one-init c = record {
  so_far = search rules;
  left = search rules;
  named = new_none c.args.catalogue.now c.args.grace c.args.named.now.items ([], sym (append-nil c.args.named.now.items), adds_none c.args.catalogue.now c.args.grace c.names-names.ensures.kept);
}

pub returns-in_err-trace-clause-cause : goal.returns-in_err-trace-clause-cause
returns-in_err-trace-clause-cause c =
    let at = c.loop-one in
    let rest = into_iter_items c.next.new.self in
    let given : into_iter_items c.into_iter-one-iterator.result ≡ c.args.list.items = search rules in
    let steps : into_iter_items at.one-iterator ≡ c.in-Some.one ∷ rest = c.in-Some.ensures.steps.0 in
    let all : c.args.list.items ≡ at.yielded ++ c.in-Some.one ∷ rest = sym (sym (ap (λ (l : List NamedOrNew). at.yielded ++ l) steps) ∙ (at.invariant.so_far ∙ given)) in
    let p = err_from_is_err_and c.from_residual.result c.from_residual.ensures.1 in
    rw (p.1, p.2) (λ traces z. new_cause c.grown_shows.ensures c.args.catalogue.now at.catalogue c.names-names.ensures.kept c.args.grace at.yielded c.args.named.now.items at.named.items at.invariant.named c.in-Some.one rest c.in_err-trace.field-0.0 c.in_err-trace.ensures.cause traces
    (subst (AllZip (IsNamedOrNew c.args.catalogue.now c.args.grace) traces) all z))

pub loop-one-preserved : goal.loop-one-preserved
loop-one-preserved c =
    let at = c.loop-one in
    let one = c.in-Some.one in
    let steps : into_iter_items at.one-iterator ≡ one ∷ into_iter_items c.next.new.self = c.in-Some.ensures.steps.0 in record {
      so_far = append_assoc at.yielded (one ∷ []) _ ∙ rw (← steps) at.invariant.so_far;
      left =
          let was = at.invariant.left in
          let gone = c.in-Some.ensures.steps.1 in
          let short = ap length steps in
          omega arith;
      named = new_more c.grown_shows.ensures c.args.catalogue.now at.catalogue c.names-names.ensures.kept c.args.grace at.yielded c.args.named.now.items at.named.items at.invariant.named one c.complete.new.catalogue c.in_ok-trace.trace c.push_named.new.named.items
          c.in_ok-trace.ensures.named c.in_ok-push_named.ensures;
    }
