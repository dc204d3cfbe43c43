-- What is told of a machine, by its number and by its name.
use Rattle.std.proofs.Common.{◌≡◌, ◌&&◌, ℕ, ℤ, ◌+◌, ◌<◌, List, [], ◌∷◌, ◌++◌, Bool, All, Some, None, Option, length, get_or, take, nat_eq, ap, ◌∙◌, sym, refl}
use Rattle.std.specs.Prelude.{fold, if◌then◌else◌}
use Rattle.std.specs.Int.{int_max, int_min}
use Rattle.std.specs.Str.{bytes_eq}
use Rattle.std.specs.List.{flat_map}
use Rattle.std.proofs.lemmas.Grind.{flat_map-append}
use Rattle.std.proofs.lemmas.List.{append-nil, take_more}
use Rattle.std.proofs.lemmas.List.Concat.{flat_map-cons}
use Rattle.std.proofs.lemmas.List.Elements.{All-weaker}
use Rattle.std.proofs.lemmas.List.Sums.{fold_push}
use Rattle.clock_offsets.specs.declared.machine_clock.Clock.{Clock}
use Rattle.event_table.specs.Numbers.{text_under}
use Rattle.trace_quality.specs.Clocks.{is_contradicted, is_reached}
use Rattle.machine_quality.specs.Told.{AreBelow, NamedClock, clock_under, clocks_under}
use Rattle.machine_quality.specs.MachineTallies.{count_passing, count_told, is_unreached, machine_tally, offset_in, offsets_told, range_of}
use Rattle.machine_quality.specs.inner.Numbered.{count_numbered, count_numbered_passing, offsets_numbered}
use Rattle.machine_quality.specs.declared.machine_tally.OffsetRange.{OffsetRange}
use Rattle.machine_quality.specs.declared.numbered_clock.NumberedClock.{NumberedClock}
use Rattle.machine_quality.proofs.ListLemmas.{count_same, parts_same}
use Rattle.machine_quality.proofs.SightLemmas.{AreApart, same_text}

-- one offset more
pub range_push : (os : List ℤ) (o : ℤ) (r : OffsetRange) → Some r ≡ range_of os → Some (record { least = int_min r.least o; greatest = int_max r.greatest o }) ≡ range_of (os ++ o ∷ [])
range_push [] o r h = cc
range_push (x ∷ xs) o r h =
    let same : r ≡ record { least = fold int_min x xs; greatest = fold int_max x xs } = cc in
    ap (λ (s : OffsetRange). Some (record { least = int_min s.least o; greatest = int_max s.greatest o })) same
    ∙ (λ i. Some (record { least = sym (fold_push int_min x xs o) i; greatest = sym (fold_push int_max x xs o) i }))

pub range_first : (os : List ℤ) (o : ℤ) → None ≡ range_of os → Some (record { least = o; greatest = o }) ≡ range_of (os ++ o ∷ [])
range_first [] o h = refl
range_first (x ∷ xs) o h = cc

-- one clock more
pub offsets_more : (told : List NumberedClock) (machine i : ℕ) (d : NumberedClock) → i < length told
    → offsets_numbered (take (i + 1) told) machine ≡ offsets_numbered (take i told) machine ++ (if nat_eq (get_or told i d).machine machine then offset_in (get_or told i d).clock else [])
offsets_more told machine i d lt =
    let part : NumberedClock → List ℤ = λ c. if nat_eq c.machine machine then offset_in c.clock else [] in
    ap (flat_map part) (take_more told i d lt) ∙ flat_map-append part (take i told) (get_or told i d ∷ [])
    ∙ ap (λ (os : List ℤ). flat_map part (take i told) ++ os) (flat_map-cons part (get_or told i d) [] ∙ append-nil (part (get_or told i d)))

module _ (machines : List (List ℕ)) (apart : AreApart machines) (told : List NumberedClock) (machine : ℕ) (below : AreBelow (length machines) told) (low : machine < length machines) where
  of_machine : All (λ (c : NumberedClock). bytes_eq (text_under machines c.machine) (text_under machines machine) ≡ nat_eq c.machine machine) told
  of_machine = All-weaker (λ (c : NumberedClock). c.machine < length machines) (λ (c : NumberedClock). bytes_eq (text_under machines c.machine) (text_under machines machine) ≡ nat_eq c.machine machine)
      (λ (c : NumberedClock) lt. same_text machines apart c.machine machine lt low) told below

  told_same : count_told (clocks_under machines told) (text_under machines machine) ≡ count_numbered told machine
  told_same = count_same (λ (n : NamedClock). bytes_eq n.machine (text_under machines machine)) (λ (c : NumberedClock). nat_eq c.machine machine) (clock_under machines) told of_machine

  passing_same : (test : Clock → Bool) → count_passing test (clocks_under machines told) (text_under machines machine) ≡ count_numbered_passing test told machine
  passing_same test =
      count_same (λ (n : NamedClock). bytes_eq n.machine (text_under machines machine) && test n.clock) (λ (c : NumberedClock). nat_eq c.machine machine && test c.clock) (clock_under machines) told
      (All-weaker (λ (c : NumberedClock). bytes_eq (text_under machines c.machine) (text_under machines machine) ≡ nat_eq c.machine machine)
      (λ (c : NumberedClock). (bytes_eq (text_under machines c.machine) (text_under machines machine) && test c.clock) ≡ (nat_eq c.machine machine && test c.clock))
      (λ (c : NumberedClock) same. ap (λ b. b && test c.clock) same) told of_machine)

  offsets_same : offsets_told (clocks_under machines told) (text_under machines machine) ≡ offsets_numbered told machine
  offsets_same =
      parts_same (λ (n : NamedClock). if bytes_eq n.machine (text_under machines machine) then offset_in n.clock else []) (λ (c : NumberedClock). if nat_eq c.machine machine then offset_in c.clock else []) (clock_under machines) told
      (All-weaker (λ (c : NumberedClock). bytes_eq (text_under machines c.machine) (text_under machines machine) ≡ nat_eq c.machine machine)
      (λ (c : NumberedClock). (if bytes_eq (text_under machines c.machine) (text_under machines machine) then offset_in c.clock else []) ≡ (if nat_eq c.machine machine then offset_in c.clock else []))
      (λ (c : NumberedClock) same. ap (λ b. if b then offset_in c.clock else []) same) told of_machine)

  pub tally_same : (a r u x : ℕ) (range : Option OffsetRange) → a ≡ count_numbered told machine → r ≡ count_numbered_passing is_reached told machine → u ≡ count_numbered_passing is_unreached told machine
      → x ≡ count_numbered_passing is_contradicted told machine → range ≡ range_of (offsets_numbered told machine)
      → record { told = a; reached = r; unreached = u; contradicted = x; range = range } ≡ machine_tally (clocks_under machines told) (text_under machines machine)
  tally_same a r u x range ha hr hu hx hg = λ i. record {
    told = (ha ∙ sym told_same) i;
    reached = (hr ∙ sym (passing_same is_reached)) i;
    unreached = (hu ∙ sym (passing_same is_unreached)) i;
    contradicted = (hx ∙ sym (passing_same is_contradicted)) i;
    range = (hg ∙ ap range_of (sym offsets_same)) i;
  }
