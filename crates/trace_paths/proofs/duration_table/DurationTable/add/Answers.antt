use Rattle.std.proofs.Common.{◌≡◌, ◌<◌, ◌+◌, ◌++◌, ◌∷◌, [], ℕ, Global, List, length, get_or, set, map, take, arith, refl, sym, ap, ◌∙◌, subst}
use Rattle.std.specs.declared.vec.Vec.{Vec}
use Rattle.std.proofs.Math.Seq.{map-set_same}
use Rattle.std.proofs.lemmas.List.{append_assoc, get_or-map, get_or_read, length-map, length-set, map-set, take_all, take_more}
use Rattle.trace_types.specs.Parts.{by_number}
use Rattle.trace_types.specs.declared.named_segment.NamedSegment.{NamedSegment}
use Rattle.trace_rules.specs.Durations.{duration}
use Rattle.trace_paths.specs.Tables.{IsTableOf}
use Rattle.trace_paths.proofs.TableLemmas.{shown, table_push}
use Rattle.trace_paths.proofs.duration_table.DurationTable.add.Goals as goal

pub segments-preserved : goal.segments-preserved
segments-preserved c =
    let lists = c.segments.self-inside.lists.items in
    let segments = c.args.segments.now in
    let i = c.segments.segment-index in
    let s = c.segment-item.result in
    let many = c.args.self.now in
    let size : length (shown lists) ≡ length many = c.segments.invariant.count in
    let small : s.name < length many = subst (λ (x : NamedSegment). x.name < length many) (sym c.segment-item.is) (c.requires i s c.segments-test.true) in
    let old : c.index_mut-list.result.now.items ≡ get_or (shown lists) s.name [] =
    let v = c.index_mut-list.result.now in
    let many_lists = length-map lists (λ (w : Vec ℕ Global). w.items) in
    ap (λ (w : Vec ℕ Global). w.items) c.index_mut-list.ensures.value ∙ sym (get_or-map (λ (w : Vec ℕ Global). w.items) lists s.name v [] (omega arith)) in
    let new : c.push.new.self.items ≡ get_or (shown lists) s.name [] ++ duration by_number s ∷ [] =
    c.in_ok-push.ensures.items ∙ (ap (λ (l : List ℕ). l ++ c.duration_of.result ∷ []) old ∙ ap (λ (d : ℕ). get_or (shown lists) s.name [] ++ d ∷ []) (c.duration_of.ensures)) in
    let written : shown (set lists s.name c.push.new.self) ≡ set (shown lists) s.name (get_or (shown lists) s.name [] ++ duration by_number s ∷ []) =
    map-set (λ (v : Vec ℕ Global). v.items) lists s.name c.push.new.self ∙ ap (set (shown lists) s.name) new in
    record {
      count = ap length written ∙ (length-set (shown lists) s.name (get_or (shown lists) s.name [] ++ duration by_number s ∷ []) ∙ size);
      told = λ before table.
          let t = table_push (length many) (before ++ take i segments) s (shown lists) small (c.segments.invariant.told before table) in
          let more : before ++ take (i + 1) segments ≡ (before ++ take i segments) ++ s ∷ [] =
          ap (λ (l : List NamedSegment). before ++ l) (take_more segments i s c.segments-test.true ∙ ap (λ (x : NamedSegment). take i segments ++ x ∷ []) (sym c.segment-item.is)) ∙ sym (append_assoc before (take i segments) (s ∷ [])) in
          subst (λ (l : List NamedSegment). IsTableOf (length many) l (shown (set lists s.name c.push.new.self))) (sym more)
          (subst (IsTableOf (length many) ((before ++ take i segments) ++ s ∷ [])) (sym written) t);
    }

pub returns-clause-added : goal.returns-clause-added
returns-clause-added c = λ before table.
    let told = c.segments.invariant.told before table in
    let whole = take_all c.segments.segment-index c.args.segments.now c.segments-test.false in
    subst (λ (ss : List NamedSegment). IsTableOf (length c.args.self.now) (before ++ ss) (shown c.segments.self-inside.lists.items)) whole told

pub returns-clause-partial : goal.returns-clause-partial
returns-clause-partial c = λ before table.
    (c.segments.segment-index, omega arith, c.segments.invariant.told before table)

pub returns-in_err-push-clause-partial : goal.returns-in_err-push-clause-partial
returns-in_err-push-clause-partial c = λ before table.
    let lists = c.segments.self-inside.lists.items in
    let s = c.segment-item.result in
    let v = c.index_mut-list.result.now in
    let same : c.push.new.self.items ≡ (get_or lists s.name v).items = c.in_err-push.ensures.items ∙ ap (λ (w : Vec ℕ Global). w.items) c.index_mut-list.ensures.value in
    let kept : shown (set lists s.name c.push.new.self) ≡ shown lists = map-set_same (λ (w : Vec ℕ Global). w.items) lists s.name c.push.new.self v same in
    (c.segments.segment-index, omega (arith, c.segments-test.true), subst (IsTableOf (length c.args.self.now) (before ++ take c.segments.segment-index c.args.segments.now)) (sym kept) (c.segments.invariant.told before table))
