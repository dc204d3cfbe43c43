-- The laws.
use Rattle.std.proofs.Common.{◌≡◌, ℕ, ◌+◌, List, [], ◌∷◌, ◌++◌, length, map, refl, sym, ap, ◌∙◌, arith}
use Rattle.std.specs.Prelude.{All}
use Rattle.std.specs.List.{flat_map}
use Rattle.std.proofs.lemmas.List.{length-map}
use Rattle.std.proofs.lemmas.List.Elements.{All-cons, All-head, All-nil, All-tail}
use Rattle.trace_types.specs.Segments.{SegmentName}
use Rattle.digest_facts.specs.Digests.{Digest}
use Rattle.digest_facts.specs.Tables.{Table}
use Rattle.digest_facts.specs.Texts.{digest_text}
use Rattle.digest_reading.specs.Readings.{digests_said}
use Rattle.digest_laws.specs.ReadableDigests.{IsReadable}
use Rattle.digest_laws.specs.ReadingLaws.{DigestsAreRead, WhatIsReadIsDigests, table_by_text}
use Rattle.digest_laws.proofs.AcceptedLemmas.{table_accepted}
use Rattle.digest_laws.proofs.BuiltLemmas.{table_built}
use Rattle.digest_laws.proofs.WholeLemmas.{IsAccepted, tables_back, tables_read, texts, texts_long}

-- the texts of digests are those of their tables
texts_are : (ss : List (Digest SegmentName (List ℕ))) → flat_map digest_text ss ≡ texts (map table_by_text ss)
texts_are [] = refl
texts_are (s ∷ ss) = ap (λ (l : List ℕ). digest_text s ++ l) (texts_are ss)

accepted : (ss : List (Digest SegmentName (List ℕ))) → All IsReadable ss → All IsAccepted (map table_by_text ss)
accepted [] h = All-nil IsAccepted
accepted (s ∷ ss) h = All-cons IsAccepted (table_by_text s) (map table_by_text ss) (table_accepted s (All-head IsReadable s ss h)) (accepted ss (All-tail IsReadable s ss h))

pub digests_read : DigestsAreRead
digests_read ss some h =
    let us : List (Table SegmentName (List ℕ)) = map table_by_text ss in
    let count : length us ≡ length ss = length-map ss table_by_text in
    ap (λ (l : List ℕ). digests_said l) (texts_are ss) ∙ tables_read (length (texts us) + 1) 1 us (omega (arith, count, some)) (omega (arith, texts_long us)) (accepted ss h)

-- the digests of tables that were read
record AreBuilt (us : List (Table SegmentName (List ℕ))) : Type 0 where
  pub digests : List (Digest SegmentName (List ℕ))
  pub readable : All IsReadable digests
  pub tables : us ≡ map table_by_text digests

built : (us : List (Table SegmentName (List ℕ))) → All IsAccepted us → AreBuilt us
built [] h = record { digests = []; readable = All-nil IsReadable; tables = refl }
built (u ∷ us) h =
    let first = table_built u (All-head IsAccepted u us h) in
    let more = built us (All-tail IsAccepted u us h) in
    record {
      digests = first.digest ∷ more.digests;
      readable = All-cons IsReadable first.digest more.digests first.readable more.readable;
      tables = λ i. first.table i ∷ more.tables i;
    }

pub read_digests : WhatIsReadIsDigests
read_digests bytes us told =
    let back = tables_back (length bytes + 1) 1 bytes us told in
    let made = built us back.accepted in
    let count : length us ≡ length made.digests = ap (λ (l : List (Table SegmentName (List ℕ))). length l) made.tables ∙ length-map made.digests table_by_text in
    record {
      digests = made.digests;
      some = omega (arith, count, back.some);
      readable = made.readable;
      tables = made.tables;
      text = back.bytes_are ∙ ap texts made.tables ∙ sym (texts_are made.digests);
    }
