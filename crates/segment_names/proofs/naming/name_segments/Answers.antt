use Rattle.std.proofs.Common.{◌≡◌, ◌+◌, ◌∷◌, [], ◌++◌, ℕ, List, Some, None, length, slice_get, Option, refl, sym, ap, ◌∙◌, subst, below_more, arith}
use Rattle.std.proofs.lemmas.Option.{slice_get_read}
use Rattle.std.specs.Option.{option_to_list}
use Rattle.std.specs.Str.{bytes_eq}
use Rattle.trace_types.specs.Firsts.{firsts_of}
use Rattle.trace_types.specs.declared.named_segment.NamedSegment.{NamedSegment}
use Rattle.trace_types.specs.Segments.{name_of}
use Rattle.segment_names.specs.Known.{Known, name_number}
use Rattle.segment_names.specs.Limits.{IsKept}
use Rattle.segment_names.specs.Naming.{IsUnknownAt}
use Rattle.segment_names.specs.inner.Filing.{known_in}
use Rattle.segment_names.specs.inner.Numbering.{IsElementAt, IsNumbered, NumbersFirst}
use Rattle.segment_names.proofs.NumberingLemmas.{is_numbered, known_here, numbers_more, short_keys}
use Rattle.segment_names.proofs.naming.name_segments.Goals as goal

pub returns-in_default-clause-cause : goal.returns-in_default-clause-cause
returns-in_default-clause-cause c =
    let none : name_number (known_in c.catalogue.inside.tables) (name_of c.index-segments-index.result) ≡ None = c.in_default.ensures.absent in (
      (
        c.index-segments-index.result,
        slice_get_read c.args.segments.now (length c.args.segments.now) c.loop-index.index c.index-segments-index.result refl c.loop-index-test.true c.index-segments-index.is,
        subst (λ (known : Known). name_number known (name_of c.index-segments-index.result) ≡ None) c.catalogue.view_is none,
      ),
      c.loop-index.invariant.known,
    )

pub loop-index-preserved : goal.loop-index-preserved
loop-index-preserved c =
    let v = c.loop-index.invariant in
    let g = c.in-Some.ensures in
    let e = c.in_ok-number.ensures in
    let given = c.in_ok-element.ensures in
    let x = c.index-segments-index.result in
    let s : NamedSegment = c.make_by_numbers.result in
    let told = c.make_by_numbers.ensures in
    let here : slice_get c.args.segments.now c.loop-index.index ≡ Some x = slice_get_read c.args.segments.now (length c.args.segments.now) c.loop-index.index x refl c.loop-index-test.true c.index-segments-index.is in
    let numbered : IsNumbered (known_in c.catalogue.inside.tables) c.number_element.new.elements.keys s x = is_numbered (known_in c.catalogue.inside.tables) c.number_element.new.elements.keys s x c.in-Some.name c.in-Some.task c.in_ok-number.number told.name told.task told.element told.start told.end g.name g.task
    (subst (IsElementAt c.number_element.new.elements.keys c.in_ok-number.number) given e.number) in
    let more : NumbersFirst c.args.catalogue.now c.number_element.new.elements.keys c.args.segments.now (c.loop-index.index + 1) (c.loop-index.named.items ++ s ∷ []) = numbers_more c.args.catalogue.now c.loop-index.elements.keys c.number_element.new.elements.keys e.grown.0 c.args.segments.now c.loop-index.index c.loop-index.named.items s x
    v.numbers e.grown.1 e.differ (e.keys ∙ ap (λ (o : Option (List ℕ)). firsts_of bytes_eq (c.loop-index.elements.keys ++ option_to_list o)) given) (subst (λ (known : Known). IsNumbered known c.number_element.new.elements.keys s x) c.catalogue.view_is numbered) c.loop-index-test.true c.index-segments-index.is in
    record {
      numbers = subst (λ (l : List NamedSegment). NumbersFirst c.args.catalogue.now c.number_element.new.elements.keys c.args.segments.now (c.loop-index.index + 1) l) (sym c.in_ok-push.ensures.items) more;
      few = short_keys c.loop-index.elements.keys c.number_element.new.elements.keys c.in_ok-element.element c.loop-index.index e.keys v.few;
      known = below_more (λ (j : ℕ). IsUnknownAt c.args.catalogue.now c.args.segments.now j → ⊥) c.loop-index.index v.known
          (known_here c.args.catalogue.now c.args.segments.now c.loop-index.index x c.in-Some.name here (subst (λ (known : Known). name_number known (name_of x) ≡ Some c.in-Some.name) c.catalogue.view_is g.number));
    }

pub returns-clause-named : goal.returns-clause-named
returns-clause-named c =
    let v = c.loop-index.invariant in
    let end : c.loop-index.index ≡ length c.args.segments.now = omega arith in
    let k = c.catalogue.invariant in
    record {
      elements = c.loop-index.elements.keys;
      numbers = subst (λ (n : ℕ). NumbersFirst c.args.catalogue.now c.loop-index.elements.keys c.args.segments.now n c.loop-index.named.items) end v.numbers;
      kept = subst IsKept c.catalogue.view_is k;
    }
