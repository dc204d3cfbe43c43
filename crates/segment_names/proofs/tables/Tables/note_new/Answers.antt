use Rattle.std.proofs.Common.{sym, ◌∙◌, ◌≡◌, ◌∷◌, [], ◌++◌, List, None, subst, false}
use Rattle.std.specs.List.{list_any}
use Rattle.trace_types.specs.Segments.{SegmentName, name_of}
use Rattle.segment_names.specs.declared.name_key.NameKey.{NameKey}
use Rattle.segment_names.specs.Known.{same_name, name_number, with_segments}
use Rattle.segment_names.specs.inner.Filing.{Filed, Grows, IsFiled, IsFiledAs, known_in, names_of_entries}
use Rattle.segment_names.proofs.FilingLemmas.{grown_filed, name_filed}
use Rattle.segment_names.proofs.FindLemmas.{any-none}
use Rattle.segment_names.proofs.NotingLemmas.{note_new, entry_last}
use Rattle.segment_names.proofs.tables.Tables.note_new.Goals as goal

pub invariant_of-self : goal.invariant_of-self
invariant_of-self c = let g = c.in_err-key.ensures in
    grown_filed c.self.inside.tasks.keys c.self.inside.events.keys g.tasks_grown.0 g.events_grown.0 c.intern_name.new.tasks.keys c.intern_name.new.events.keys c.self.inside.names.entries
    g.tasks_grown.1 g.events_grown.1 g.tasks_differ g.events_differ c.self.invariant

pub returns-in_err-key-clause-filed : goal.returns-in_err-key-clause-filed
returns-in_err-key-clause-filed c = let g = c.in_err-key.ensures in
    grown_filed c.self.inside.tasks.keys c.self.inside.events.keys g.tasks_grown.0 g.events_grown.0 c.intern_name.new.tasks.keys c.intern_name.new.events.keys c.self.inside.names.entries
    g.tasks_grown.1 g.events_grown.1 g.tasks_differ g.events_differ c.self.invariant

pub invariant_of-self-in_err-insert : goal.invariant_of-self-in_err-insert
invariant_of-self-in_err-insert c = let g = c.in_ok-key.ensures in
    subst (λ (names : List (NameKey × SegmentName)). IsFiled c.intern_name.new.tasks.keys c.intern_name.new.events.keys names) (sym c.in_err-insert.ensures.err)
    (grown_filed c.self.inside.tasks.keys c.self.inside.events.keys g.tasks_grown.0 g.events_grown.0 c.intern_name.new.tasks.keys c.intern_name.new.events.keys c.self.inside.names.entries
    g.tasks_grown.1 g.events_grown.1 g.tasks_differ g.events_differ c.self.invariant)

pub returns-in_err-insert-clause-filed : goal.returns-in_err-insert-clause-filed
returns-in_err-insert-clause-filed c = let g = c.in_ok-key.ensures in
    subst (λ (names : List (NameKey × SegmentName)). IsFiled c.intern_name.new.tasks.keys c.intern_name.new.events.keys names) (sym c.in_err-insert.ensures.err)
    (grown_filed c.self.inside.tasks.keys c.self.inside.events.keys g.tasks_grown.0 g.events_grown.0 c.intern_name.new.tasks.keys c.intern_name.new.events.keys c.self.inside.names.entries
    g.tasks_grown.1 g.events_grown.1 g.tasks_differ g.events_differ c.self.invariant)

pub invariant_of-self-2 : goal.invariant_of-self-2
invariant_of-self-2 c = let g = c.in_ok-key.ensures in
    let filed : IsFiled c.intern_name.new.tasks.keys c.intern_name.new.events.keys c.self.inside.names.entries = grown_filed c.self.inside.tasks.keys c.self.inside.events.keys g.tasks_grown.0 g.events_grown.0 c.intern_name.new.tasks.keys c.intern_name.new.events.keys c.self.inside.names.entries
    g.tasks_grown.1 g.events_grown.1 g.tasks_differ g.events_differ c.self.invariant in
    let old : Filed = record { tasks = c.self.inside.tasks.keys; events = c.self.inside.events.keys; names = c.self.inside.names.entries } in
    let seen : old ≡ c.args.self.now = c.self.view_is in
    let none = any-none (same_name (name_of c.args.segment.now)) (names_of_entries c.self.inside.names.entries) (subst (λ (f : Filed). name_number (known_in f) (name_of c.args.segment.now) ≡ None) (sym seen) c.requires.new) in
    let last : c.insert.new.self.entries ≡ c.self.inside.names.entries ++ (c.in_ok-key.key, c.in_ok-name.name) ∷ [] = c.in_ok-insert.ensures.entries
    ∙ entry_last c.intern_name.new.tasks.keys c.intern_name.new.events.keys c.self.inside.names.entries filed (name_of c.args.segment.now) c.in_ok-key.key c.in_ok-name.name g.filed none in
    subst (λ (names : List (NameKey × SegmentName)). IsFiled c.intern_name.new.tasks.keys c.intern_name.new.events.keys names) (sym last)
    (name_filed c.intern_name.new.tasks.keys c.intern_name.new.events.keys c.self.inside.names.entries c.in_ok-key.key c.in_ok-name.name filed
    (subst (λ (n : SegmentName). IsFiledAs c.intern_name.new.tasks.keys c.intern_name.new.events.keys c.in_ok-key.key n) (sym c.in_ok-name.ensures) g.filed)
    (subst (λ (n : SegmentName). list_any (same_name n) (names_of_entries c.self.inside.names.entries) ≡ false) (sym c.in_ok-name.ensures) none))

pub returns-clause-filed : goal.returns-clause-filed
returns-clause-filed c = let g = c.in_ok-key.ensures in
    let filed : IsFiled c.intern_name.new.tasks.keys c.intern_name.new.events.keys c.self.inside.names.entries = grown_filed c.self.inside.tasks.keys c.self.inside.events.keys g.tasks_grown.0 g.events_grown.0 c.intern_name.new.tasks.keys c.intern_name.new.events.keys c.self.inside.names.entries
    g.tasks_grown.1 g.events_grown.1 g.tasks_differ g.events_differ c.self.invariant in
    let old : Filed = record { tasks = c.self.inside.tasks.keys; events = c.self.inside.events.keys; names = c.self.inside.names.entries } in
    let seen : old ≡ c.args.self.now = c.self.view_is in
    let none = any-none (same_name (name_of c.args.segment.now)) (names_of_entries c.self.inside.names.entries) (subst (λ (f : Filed). name_number (known_in f) (name_of c.args.segment.now) ≡ None) (sym seen) c.requires.new) in
    let last : c.insert.new.self.entries ≡ c.self.inside.names.entries ++ (c.in_ok-key.key, c.in_ok-name.name) ∷ [] = c.in_ok-insert.ensures.entries
    ∙ entry_last c.intern_name.new.tasks.keys c.intern_name.new.events.keys c.self.inside.names.entries filed (name_of c.args.segment.now) c.in_ok-key.key c.in_ok-name.name g.filed none in
    subst (λ (names : List (NameKey × SegmentName)). IsFiled c.intern_name.new.tasks.keys c.intern_name.new.events.keys names) (sym last)
    (name_filed c.intern_name.new.tasks.keys c.intern_name.new.events.keys c.self.inside.names.entries c.in_ok-key.key c.in_ok-name.name filed
    (subst (λ (n : SegmentName). IsFiledAs c.intern_name.new.tasks.keys c.intern_name.new.events.keys c.in_ok-key.key n) (sym c.in_ok-name.ensures) g.filed)
    (subst (λ (n : SegmentName). list_any (same_name n) (names_of_entries c.self.inside.names.entries) ≡ false) (sym c.in_ok-name.ensures) none))

pub returns-clause-grown : goal.returns-clause-grown
returns-clause-grown c = let g = c.in_ok-key.ensures in
    let filed : IsFiled c.intern_name.new.tasks.keys c.intern_name.new.events.keys c.self.inside.names.entries = grown_filed c.self.inside.tasks.keys c.self.inside.events.keys g.tasks_grown.0 g.events_grown.0 c.intern_name.new.tasks.keys c.intern_name.new.events.keys c.self.inside.names.entries
    g.tasks_grown.1 g.events_grown.1 g.tasks_differ g.events_differ c.self.invariant in
    let old : Filed = record { tasks = c.self.inside.tasks.keys; events = c.self.inside.events.keys; names = c.self.inside.names.entries } in
    let seen : old ≡ c.args.self.now = c.self.view_is in
    let none = any-none (same_name (name_of c.args.segment.now)) (names_of_entries c.self.inside.names.entries) (subst (λ (f : Filed). name_number (known_in f) (name_of c.args.segment.now) ≡ None) (sym seen) c.requires.new) in
    let last : c.insert.new.self.entries ≡ c.self.inside.names.entries ++ (c.in_ok-key.key, c.in_ok-name.name) ∷ [] = c.in_ok-insert.ensures.entries
    ∙ entry_last c.intern_name.new.tasks.keys c.intern_name.new.events.keys c.self.inside.names.entries filed (name_of c.args.segment.now) c.in_ok-key.key c.in_ok-name.name g.filed none in
    let new : Filed = record { tasks = c.intern_name.new.tasks.keys; events = c.intern_name.new.events.keys; names = c.insert.new.self.entries } in
    let grown : Grows old new = record { tasks = g.tasks_grown; events = g.events_grown; names = ((c.in_ok-key.key, c.in_ok-name.name) ∷ [], last) } in
    subst (λ (f : Filed). Grows f new) seen grown

pub returns-clause-noted : goal.returns-clause-noted
returns-clause-noted c = let g = c.in_ok-key.ensures in
    let filed : IsFiled c.intern_name.new.tasks.keys c.intern_name.new.events.keys c.self.inside.names.entries = grown_filed c.self.inside.tasks.keys c.self.inside.events.keys g.tasks_grown.0 g.events_grown.0 c.intern_name.new.tasks.keys c.intern_name.new.events.keys c.self.inside.names.entries
    g.tasks_grown.1 g.events_grown.1 g.tasks_differ g.events_differ c.self.invariant in
    let old : Filed = record { tasks = c.self.inside.tasks.keys; events = c.self.inside.events.keys; names = c.self.inside.names.entries } in
    let seen : old ≡ c.args.self.now = c.self.view_is in
    let none = any-none (same_name (name_of c.args.segment.now)) (names_of_entries c.self.inside.names.entries) (subst (λ (f : Filed). name_number (known_in f) (name_of c.args.segment.now) ≡ None) (sym seen) c.requires.new) in
    let last : c.insert.new.self.entries ≡ c.self.inside.names.entries ++ (c.in_ok-key.key, c.in_ok-name.name) ∷ [] = c.in_ok-insert.ensures.entries
    ∙ entry_last c.intern_name.new.tasks.keys c.intern_name.new.events.keys c.self.inside.names.entries filed (name_of c.args.segment.now) c.in_ok-key.key c.in_ok-name.name g.filed none in
    let new : Filed = record { tasks = c.intern_name.new.tasks.keys; events = c.intern_name.new.events.keys; names = c.insert.new.self.entries } in
    let noted : known_in new ≡ with_segments (known_in old) (c.args.segment.now ∷ []) = note_new old c.self.invariant c.args.segment.now c.in_ok-key.key c.in_ok-name.name new c.in_ok-name.ensures none last g.tasks in
    subst (λ (f : Filed). known_in new ≡ with_segments (known_in f) (c.args.segment.now ∷ [])) seen noted
