use Rattle.std.proofs.Common.{List, refl, sym, subst, arith}
use Rattle.std.specs.List.{enumerate_from}
use Rattle.trace_types.specs.declared.named_segment.NamedSegment.{NamedSegment}
use Rattle.trace_types.specs.declared.segment.Segment.{Segment}
use Rattle.segment_names.specs.declared.unnamed.Unnamed.{Unnamed}
use Rattle.segment_names.specs.Naming.{IsFirstUnknown}
use Rattle.segment_names.specs.inner.Numbering.{AreNumbered, IsCause}
use Rattle.segment_names.proofs.NamedLemmas.{names_differ, together, joined, elements_count, renamed}
use Rattle.segment_names.proofs.catalogue.Catalogue.name.Goals as goal

pub invariant_of-result : goal.invariant_of-result
invariant_of-result c =
    let segments = c.args.trace.segments in
    let numbered : AreNumbered c.args.self.now segments c.of.result = subst (λ (l : List NamedSegment). AreNumbered c.args.self.now segments l) (sym c.of.ensures) (subst (λ (l : List Segment). AreNumbered c.args.self.now l c.in-Ok.segments.items) c.items.ensures c.in-Ok.ensures.named) in
    record {
      grace_within = omega arith;
      names_differ = names_differ c.args.self.now segments c.of.result numbered c.args.trace.names_differ;
      together = together c.args.self.now segments c.of.result numbered c.args.trace.together;
      joined = joined c.args.self.now segments c.of.result numbered c.args.trace.joined;
      elements = elements_count c.args.self.now segments c.of.result numbered;
    }

pub returns-in-Ok-clause-named : goal.returns-in-Ok-clause-named
returns-in-Ok-clause-named c =
    let segments = c.args.trace.segments in
    let numbered : AreNumbered c.args.self.now segments c.of.result = subst (λ (l : List NamedSegment). AreNumbered c.args.self.now segments l) (sym c.of.ensures) (subst (λ (l : List Segment). AreNumbered c.args.self.now l c.in-Ok.segments.items) c.items.ensures c.in-Ok.ensures.named) in
    record {
      grace = refl;
      elements = enumerate_from 0 numbered.elements;
      one_to_one = c.numbering_is_one_to_one-2.ensures.one_to_one numbered.elements numbered.numbers.differ;
      segments = renamed c.args.self.now segments c.of.result numbered c.numbering_is_one_to_one.ensures.matched c.numbering_is_one_to_one-2.ensures.matched;
    }

pub returns-in-Err-Unknown-clause-refused : goal.returns-in-Err-Unknown-clause-refused
returns-in-Err-Unknown-clause-refused c =
    let told : IsFirstUnknown c.args.self.now c.items.result.now c.in-Err-Unknown.segment = subst (λ (e : Unnamed). IsCause c.args.self.now c.items.result.now e) c.in-Err-Unknown.field-0-is c.in-Err-Unknown.ensures.cause in
    (refl, subst (λ (l : List Segment). IsFirstUnknown c.args.self.now l c.in-Err-Unknown.segment) c.items.ensures told)
