use Rattle.std.proofs.Common.{◌≡◌, ◌∷◌, [], ◌++◌, false, List, sym, subst, arith}
use Rattle.std.specs.List.{Contains}
use Rattle.std.proofs.lemmas.Bool.{iff_false}
use Rattle.trace_types.specs.Segments.{SegmentName, name_of}
use Rattle.model_checks.specs.inner.Growing.{AddsDistinct}
use Rattle.model_checks.proofs.GrowingLemmas.{AddsDistinct-new}
use Rattle.model_checks.proofs.distinct_names.add_name.Goals as goal

pub returns-in_ok-push : goal.returns-in_ok-push
returns-in_ok-push c =
    let names : List SegmentName = c.args.names.now.items in
    let name : SegmentName = c.in_ok-copy_name.field-0 in
    let told : name ≡ name_of c.args.segment.now = c.in_ok-copy_name.ensures in
    let unknown : c.is_known.result ≡ false = grind arith in
    let same : c.deref.result.now ≡ names = c.deref.ensures.value in
    let fresh : Contains names name → ⊥ = λ h. iff_false c.is_known.ensures unknown (subst (λ (l : List SegmentName). Contains l (name_of c.args.segment.now)) (sym {A = List SegmentName} same) (subst (Contains names) told h)) in
    let grown : c.push.new.self.items ≡ names ++ name ∷ [] = c.in_ok-push.ensures.items in
    subst (λ (t : SegmentName). AddsDistinct (t ∷ []) names c.push.new.self.items) told
    (subst (λ (l : List SegmentName). AddsDistinct (name ∷ []) names l) (sym {A = List SegmentName} grown) (AddsDistinct-new names name fresh))
