-- A printed row is read as the claim of its relation.
use Rattle.std.proofs.Common.{◌≡◌, ◌⊎◌, ℕ, ◌^◌, ◌<◌, ◌==◌, ◌&&◌, ◌||◌, not, List, [], ◌∷◌, ◌++◌, Bool, true, false, Some, None, length, decimal, refl, ap, ◌∙◌, subst, inl, inr, codes}
use Rattle.std.specs.Prelude.{nat_lt, option_map, is_some, if◌then◌else◌}
use Rattle.std.specs.List.{join_with_byte, list_any}
use Rattle.std.specs.Option.{option_zip}
use Rattle.std.specs.Str.{is_utf8}
use Rattle.std.proofs.lemmas.Bool.{or_parts}
use Rattle.std.proofs.lemmas.List.Elements.{All-contains}
use Rattle.certificates.specs.Claims.{are_header_fields, claim_of_fields, claim_said, is_header}
use Rattle.certificates.specs.Claims.{name_of_texts}
use Rattle.certificates.specs.declared.claim.Claim.{Claim}
use Rattle.certificates.specs.declared.matter.Matter.{Matter}
use Rattle.certificates.specs.declared.matter.Matter.TheVariants.{Before, Exclusive, Pipe}
use Rattle.event_lines.specs.Cut.{is_blank_line}
use Rattle.event_lines.specs.EventFaults.{is_bad_text, is_control_character}
use Rattle.session_rules.specs.CertificateTexts.{matter_fields}
use Rattle.session_rules.specs.KeptTraces.{Kept, by_kept, day_of}
use Rattle.session_rules.specs.Refutations.{RefutesMatter}
use Rattle.text_rows.specs.Rows.{figure}
use Rattle.trace_types.specs.Pipelines.{HandlesAt, TakesOutOfOrder, TakesUnfinished}
use Rattle.trace_types.specs.Refuting.{HasBoth}
use Rattle.trace_types.specs.Segments as segments
use Rattle.trace_types.specs.Segments.{SegmentName}
use Rattle.trace_types.specs.declared.segment.Segment.{Segment}
use Rattle.trace_types.proofs.ElementLemmas.{all_there}
use Rattle.step_core.proofs.PlainLemmas.{of_number}
use Rattle.certificate_laws.specs.Printable.{HasPrintableName, IsPrintable, IsPrintableText}
use Rattle.certificate_laws.proofs.DecimalLemmas.{decimal_clean}
use Rattle.certificate_laws.proofs.RowLemmas.{AreClean, IsClean, fields_back}

-- ---- printable texts

good_text : (utf8 bad : Bool) (text : List ℕ) → (if utf8 && not bad then Some text else None) ≡ Some text → bad ≡ false
good_text true true text h = absurd (cc h)
good_text true false text h = refl
good_text false bad text h = absurd (cc h)

text_clean : (text : List ℕ) → IsPrintableText text → IsClean text
text_clean text h =
    (or_parts (length text == 0 || nat_lt 64 (length text)) (list_any is_control_character text) (good_text (is_utf8 text) (is_bad_text text) text h)).1

-- the three texts of a name are printable
pub record IsPrintableName (name : SegmentName) : Type 0 where
  pub task : IsPrintableText name.0
  pub start : IsPrintableText name.1
  pub end : IsPrintableText name.2

-- both names or tasks of a relation are
abbrev pub ArePrintable : Matter → Type 0
ArePrintable (Before a b) = IsPrintableName a × IsPrintableName b
ArePrintable (Exclusive a b) = IsPrintableName a × IsPrintableName b
ArePrintable (Pipe t u) = IsPrintableText t × IsPrintableText u

-- ---- the relations that a printable trace refutes

name_printable : (k : Kept) → IsPrintable k → (s : Segment) (a : SegmentName) → HasPrintableName s → segments.name_of s ≡ a → IsPrintableName a
name_printable k p s a h e = subst IsPrintableName e (record { task = h.task; start = h.start; end = h.end })

both_printable : (k : Kept) → IsPrintable k → (a b : SegmentName) (R : Segment → Segment → Type 0) → HasBoth by_kept a b R k → IsPrintableName a × IsPrintableName b
both_printable k p a b R h = (
  name_printable k p h.0 a (All-contains HasPrintableName k.trace.segments h.0 p.names h.2) h.4,
  name_printable k p h.1 b (All-contains HasPrintableName k.trace.segments h.1 p.names h.3) h.5,
)

task_printable : (k : Kept) → IsPrintable k → (t e : List ℕ) (i : ℕ) (s : Segment) → HandlesAt by_kept k t e i s → IsPrintableText t
task_printable k p t e i s h = subst IsPrintableText h.task (all_there HasPrintableName k.trace.segments i s p.names h.segment).task

tasks_printable : (k : Kept) → IsPrintable k → (t u : List ℕ) → TakesUnfinished by_kept t u k ⊎ TakesOutOfOrder by_kept t u k → IsPrintableText t × IsPrintableText u
tasks_printable k p t u (inl h) = (
  task_printable k p t h.element h.giver h.given h.ends.handles,
  task_printable k p u h.element h.taker h.taken h.starts.handles,
)
tasks_printable k p t u (inr h) = (
  task_printable k p t h.one h.in_order.earlier h.in_order.s h.in_order.first.handles,
  task_printable k p u h.other h.turned.earlier h.turned.s h.turned.first.handles,
)

pub matter_printable : (matter : Matter) (k : Kept) → IsPrintable k → RefutesMatter matter k → ArePrintable matter
matter_printable (Before a b) k p h = both_printable k p a b _ h.1
matter_printable (Exclusive a b) k p h = both_printable k p a b _ h.1
matter_printable (Pipe t u) k p h = tasks_printable k p t u h.1

-- ---- a row and its claim

-- the fields of a row: its word and its relation, and the day, the index and the request of a trace
abbrev pub place_fields : Kept → ℕ → List (List ℕ)
place_fields k index = decimal (day_of k) ∷ decimal index ∷ k.trace.request ∷ []

abbrev pub row_fields : Matter → Kept → ℕ → List (List ℕ)
row_fields matter k index = codes "refuted" ∷ (matter_fields matter ++ place_fields k index)

-- the claim that it makes
abbrev pub claim_for : ℕ → Matter → Kept → ℕ → Claim
claim_for line matter k index =
    record { line = line; matter = matter; day = day_of k; index = index; request = k.trace.request }

place_clean : (k : Kept) (index : ℕ) → IsPrintable k → index < 2 ^ 32 → AreClean (place_fields k index)
place_clean k index p few = (decimal_clean (day_of k) p.day, (decimal_clean index few, (text_clean k.trace.request p.request, tt)))

names_clean : (a b : SegmentName) (fields : List (List ℕ)) → IsPrintableName a → IsPrintableName b → AreClean fields → AreClean (a.0 ∷ a.1 ∷ a.2 ∷ b.0 ∷ b.1 ∷ b.2 ∷ fields)
names_clean a b fields p q h = (
  text_clean a.0 p.task,
  (text_clean a.1 p.start, (text_clean a.2 p.end, (text_clean b.0 q.task, (text_clean b.1 q.start, (text_clean b.2 q.end, h))))),
)

pub row_clean : (matter : Matter) (k : Kept) (index : ℕ) → ArePrintable matter → IsPrintable k → index < 2 ^ 32 → AreClean (row_fields matter k index)
row_clean (Before a b) k index h p few = (refl, (refl, names_clean a b (place_fields k index) h.0 h.1 (place_clean k index p few)))
row_clean (Exclusive a b) k index h p few = (refl, (refl, names_clean a b (place_fields k index) h.0 h.1 (place_clean k index p few)))
row_clean (Pipe t u) k index h p few = (refl, (refl, (text_clean t h.0, (text_clean u h.1, place_clean k index p few))))

-- a row is not blank
pub row_not_blank : (matter : Matter) (k : Kept) (index : ℕ) → is_blank_line (join_with_byte 9 (row_fields matter k index)) ≡ false
row_not_blank (Before a b) k index = refl
row_not_blank (Exclusive a b) k index = refl
row_not_blank (Pipe t u) k index = refl

name_back : (a : SegmentName) → IsPrintableName a → name_of_texts a.0 a.1 a.2 ≡ Some a
name_back a p =
    let task : IsPrintableText a.0 = p.task in
    let start : IsPrintableText a.1 = p.start in
    let end : IsPrintableText a.2 = p.end in
    λ i. option_map (λ (t : List ℕ × (List ℕ × List ℕ)). (t.0, t.1.0, t.1.1)) (option_zip (task i) (option_zip (start i) (end i)))

fields_said : (line : ℕ) (matter : Matter) (k : Kept) (index : ℕ) → ArePrintable matter → IsPrintable k → index < 2 ^ 32
    → claim_of_fields line (row_fields matter k index) ≡ Some (claim_for line matter k index)
fields_said line (Before a b) k index h p few = rw (name_back a h.0, name_back b h.1, of_number (day_of k) p.day, of_number index few, p.request) refl
fields_said line (Exclusive a b) k index h p few = rw (name_back a h.0, name_back b h.1, of_number (day_of k) p.day, of_number index few, p.request) refl
fields_said line (Pipe t u) k index h p few = rw (h.0, h.1, of_number (day_of k) p.day, of_number index few, p.request) refl

-- a row makes the claim that its relation is refuted by its trace
pub row_said : (line : ℕ) (matter : Matter) (k : Kept) (index : ℕ) → ArePrintable matter → IsPrintable k → index < 2 ^ 32
    → claim_said line (join_with_byte 9 (row_fields matter k index)) ≡ Some (claim_for line matter k index)
row_said line matter k index h p few =
    ap (claim_of_fields line) (fields_back (codes "refuted") (matter_fields matter ++ place_fields k index) (row_clean matter k index h p few))
    ∙ fields_said line matter k index h p few

-- ---- the header

abbrev pub header_fields : ℕ → ℕ → List (List ℕ)
header_fields traces refuted = codes "why" ∷ figure (codes "traces") traces ∷ figure (codes "refuted") refuted ∷ []

pub header_clean : (traces refuted : ℕ) → traces < 2 ^ 32 → refuted < 2 ^ 32 → AreClean (header_fields traces refuted)
header_clean traces refuted few less = (refl, (decimal_clean traces few, (decimal_clean refuted less, tt)))

pub header_read : (traces refuted : ℕ) → traces < 2 ^ 32 → refuted < 2 ^ 32 → is_header (join_with_byte 9 (header_fields traces refuted)) ≡ true
header_read traces refuted few less =
    let first = of_number traces few in
    let second = of_number refuted less in
    ap are_header_fields (fields_back (codes "why") (figure (codes "traces") traces ∷ figure (codes "refuted") refuted ∷ []) (header_clean traces refuted few less))
    ∙ (λ i. is_some (first i) && is_some (second i))

pub header_not_blank : (traces refuted : ℕ) → is_blank_line (join_with_byte 9 (header_fields traces refuted)) ≡ false
header_not_blank traces refuted = refl
