use Rattle.std.proofs.Common.{◌≡◌, ◌∙◌, List, refl, sym, ap, subst, arith}
use Rattle.std.specs.List.{enumerate_from}
use Rattle.event_table.specs.Texts.{TextLists}
use Rattle.segment_cut.specs.NumberedCuts.{segments_under}
use Rattle.trace_types.specs.declared.named_segment.NamedSegment.{NamedSegment}
use Rattle.trace_types.specs.declared.segment.Segment.{Segment}
use Rattle.segment_names.specs.Namers.{NamesBy}
use Rattle.segment_names.specs.Naming.{HasUnknown}
use Rattle.segment_names.specs.inner.Numbering.{AreNumbered}
use Rattle.segment_names.proofs.NamedLemmas.{names_differ, together, joined, elements_count, renamed}
use Rattle.segment_names.proofs.namer.Namer.name.Goals as goal

pub returns-in_default-clause-unknown : goal.returns-in_default-clause-unknown
returns-in_default-clause-unknown c =
    let texts : c.self.inside.texts.now ≡ c.args.trace.now.texts = ap (λ (n : NamesBy). n.texts) c.self.view_is ∙ sym c.requires.texts in
    let same : segments_under c.self.inside.texts.now c.segments.result.now ≡ c.args.trace.now.trace.segments = ap (λ (t : TextLists). segments_under t c.segments.result.now) texts ∙ c.segments.ensures.segments in
    subst (HasUnknown c.self.inside.catalogue.now) same (rw c.in_default.is at c.in_ok-named.ensures.unknown)

pub invariant_of-result : goal.invariant_of-result
invariant_of-result c =
    let known = c.self.inside.catalogue.now in
    let trace = c.args.trace.now.trace in
    let texts : c.self.inside.texts.now ≡ c.args.trace.now.texts = ap (λ (n : NamesBy). n.texts) c.self.view_is ∙ sym c.requires.texts in
    let same : segments_under c.self.inside.texts.now c.segments.result.now ≡ trace.segments = ap (λ (t : TextLists). segments_under t c.segments.result.now) texts ∙ c.segments.ensures.segments in
    let numbered : AreNumbered known trace.segments c.of.result = subst (λ (l : List NamedSegment). AreNumbered known trace.segments l) (sym c.of.ensures) (subst (λ (l : List Segment). AreNumbered known l c.in-Some.segments.items) same (rw c.in-Some.is at c.in_ok-named.ensures.named)) in
    record {
      grace_within = omega arith;
      names_differ = names_differ known trace.segments c.of.result numbered trace.names_differ;
      together = together known trace.segments c.of.result numbered trace.together;
      joined = joined known trace.segments c.of.result numbered trace.joined;
      elements = elements_count known trace.segments c.of.result numbered;
    }

pub returns-clause-named : goal.returns-clause-named
returns-clause-named c =
    let known = c.self.inside.catalogue.now in
    let trace = c.args.trace.now.trace in
    let texts : c.self.inside.texts.now ≡ c.args.trace.now.texts = ap (λ (n : NamesBy). n.texts) c.self.view_is ∙ sym c.requires.texts in
    let same : segments_under c.self.inside.texts.now c.segments.result.now ≡ trace.segments = ap (λ (t : TextLists). segments_under t c.segments.result.now) texts ∙ c.segments.ensures.segments in
    let numbered : AreNumbered known trace.segments c.of.result = subst (λ (l : List NamedSegment). AreNumbered known trace.segments l) (sym c.of.ensures) (subst (λ (l : List Segment). AreNumbered known l c.in-Some.segments.items) same (rw c.in-Some.is at c.in_ok-named.ensures.named)) in
    record {
      grace = refl;
      elements = enumerate_from 0 numbered.elements;
      one_to_one = c.numbering_is_one_to_one-2.ensures.one_to_one numbered.elements numbered.numbers.differ;
      segments = renamed known trace.segments c.of.result numbered c.numbering_is_one_to_one.ensures.matched c.numbering_is_one_to_one-2.ensures.matched;
    }
