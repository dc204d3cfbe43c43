-- What rows name, as fields of the naming that they are printed with.
use Rattle.std.proofs.Common.{◌≡◌, ℕ, Option, Some, None, List, [], ◌∷◌, map, slice_get, refl, ap, ◌∙◌, sym}
use Rattle.std.specs.Borrow.{Bor}
use Rattle.std.specs.Option.{option_map}
use Rattle.std.proofs.lemmas.Option.{slice_get-map}
use Rattle.certificate_rows.specs.Orders.{numbered_name, numbered_task}
use Rattle.day_partitions.specs.Books.{KeptDay}
use Rattle.evidence_rules.specs.RowTexts.{fields_at, name_fields}
use Rattle.evidence_text.specs.Naming.{fields_of, trace_fields}
use Rattle.evidence_text.specs.declared.naming.Naming.{Naming}
use Rattle.segment_names.specs.Known.{Known}
use Rattle.trace_types.specs.Segments.{SegmentName}
use Rattle.evidence_printing.specs.inner.Numbered.{numbered_fields}
use Rattle.evidence_printing.specs.inner.Places.{places_of}

module _ {X Y : Type 0} (f : X → Y) (g : Y → List (List ℕ)) where
  mapped_option : (o : Option X) → fields_at (λ x. g (f x)) o ≡ fields_at g (option_map f o)
  mapped_option None = refl
  mapped_option (Some x) = refl

  fields_mapped : (xs : List X) (ys : List Y) → map f xs ≡ ys → (place : ℕ) → fields_at (λ x. g (f x)) (slice_get xs place) ≡ fields_at g (slice_get ys place)
  fields_mapped xs ys e place =
      mapped_option (slice_get xs place)
      ∙ (ap (fields_at g) (sym (slice_get-map f xs place))
      ∙ ap (λ (l : List Y). fields_at g (slice_get l place)) e)

pub fields_are : (known : Known) (days : List KeptDay) (names tasks : List ℕ) (n : Naming) → map (λ (x : Bor SegmentName). x.now) n.names.now ≡ map (numbered_name known) names
    → map (λ (x : Bor (List ℕ)). x.now) n.tasks.now ≡ map (numbered_task known) tasks → map trace_fields n.traces.now ≡ places_of days → fields_of n ≡ numbered_fields known days names tasks
fields_are known days names tasks n of_names of_tasks of_traces = λ k. record {
  name = λ place. fields_mapped (λ (x : Bor SegmentName). x.now) name_fields n.names.now (map (numbered_name known) names) of_names place k;
  task = λ place. fields_mapped (λ (x : Bor (List ℕ)). x.now) (λ (t : List ℕ). t ∷ []) n.tasks.now (map (numbered_task known) tasks) of_tasks place k;
  trace = λ place. fields_mapped trace_fields (λ (fields : List (List ℕ)). fields) n.traces.now (places_of days) of_traces place k;
}
