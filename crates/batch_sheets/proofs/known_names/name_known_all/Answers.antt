use Rattle.std.proofs.Common.{rules, ◌≡◌, List, [], ◌∷◌, ◌++◌, length, map, sym, ap, ◌∙◌, subst, append_assoc, arith}
use Rattle.std.specs.Prelude.{All}
use Rattle.std.specs.List.{AllZip}
use Rattle.std.specs.Vec.Iter.{into_iter_items}
use Rattle.event_table.specs.Texts.{TextLists}
use Rattle.segment_cut.specs.NumberedCuts.{NumberedCut}
use Rattle.segment_names.specs.Namers.{NamesBy}
use Rattle.trace_types.specs.declared.trace.Trace.{Trace}
use Rattle.trace_types.proofs.ElementLemmas.{all_middle}
use Rattle.trace_types.proofs.ZipLemmas.{zip_push}
use Rattle.batch_sheets.specs.Named.{cut_trace}
use Rattle.batch_sheets.specs.inner.Growth.{IsNamedOrNew, IsToBeNamed}
use Rattle.batch_sheets.proofs.CutLemmas.{traces_next}
use Rattle.batch_sheets.proofs.known_names.name_known_all.Goals as goal

pub name_known-requires-clause-given : goal.name_known-requires-clause-given
name_known-requires-clause-given c =
    let at = c.loop-trace in
    let trace = c.in-Some.trace in
    let rest = into_iter_items c.next.new.self in
    let given : into_iter_items c.into_iter-trace-iterator.result ≡ c.args.traces.items = search rules in
    let steps : into_iter_items at.trace-iterator ≡ trace ∷ rest = c.in-Some.ensures.steps.0 in
    let all : c.args.traces.items ≡ at.yielded ++ trace ∷ rest = sym (sym (ap (λ (l : List NumberedCut). at.yielded ++ l) steps) ∙ (at.invariant.so_far ∙ given)) in
    let one : IsToBeNamed c.args.texts.now trace = all_middle (IsToBeNamed c.args.texts.now) at.yielded rest trace (subst (All (IsToBeNamed c.args.texts.now)) all c.requires.given) in
    subst (λ (t : TextLists). IsToBeNamed t trace) (sym at.invariant.texts) one

pub loop-trace-preserved : goal.loop-trace-preserved
loop-trace-preserved c =
    let at = c.loop-trace in
    let trace = c.in-Some.trace in
    let now = c.in_ok-name_known.ensures in
    let is = IsNamedOrNew c.args.catalogue.now c.args.grace in
    let known : c.name_known.new.namer.known ≡ c.args.catalogue.now = ap (λ (n : NamesBy). n.known) now.unchanged ∙ at.invariant.known in
    let steps : into_iter_items at.trace-iterator ≡ trace ∷ into_iter_items c.next.new.self = c.in-Some.ensures.steps.0 in
    let one : is (cut_trace trace) c.in_ok-name_known.field-0 = rw known at now.named in record {
      so_far = append_assoc at.yielded (trace ∷ []) _ ∙ rw (← steps) at.invariant.so_far;
      left =
          let was = at.invariant.left in
          let gone = c.in-Some.ensures.steps.1 in
          let short = ap length steps in
          omega arith;
      known = known;
      texts = ap (λ (n : NamesBy). n.texts) now.unchanged ∙ at.invariant.texts;
      named = rw c.in_ok-push.ensures.items (subst (λ (l : List Trace). AllZip is l (at.list.items ++ c.in_ok-name_known.field-0 ∷ [])) (sym (traces_next at.yielded trace)) (zip_push is (map cut_trace at.yielded) at.list.items (cut_trace trace) c.in_ok-name_known.field-0 at.invariant.named one));
    }
