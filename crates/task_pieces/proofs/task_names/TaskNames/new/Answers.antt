use Rattle.std.proofs.Common.{◌≡◌, ◌∙◌, ℕ, ◌+◌, ◌<◌, ◌≤◌, List, All, ap, arith, length, subst, sym}
use Rattle.std.proofs.lemmas.List.{length-map}
use Rattle.task_pieces.specs.TaskKeys.{event_of_key, events_of_keys}
use Rattle.task_pieces.specs.TaskNames.{tasks_of}
use Rattle.task_pieces.specs.declared.task_key.TaskKey.{TaskKey}
use Rattle.task_pieces.specs.inner.Naming.{AreAllNames, AreGreatest, AreNumbers}
use Rattle.task_pieces.proofs.NamingLemmas.{are_there, few_of, names_are_those, numbers_below}
use Rattle.task_pieces.proofs.task_names.TaskNames.new.Goals as goal

pub find_greatest-requires-clause-below : goal.find_greatest-requires-clause-below
find_greatest-requires-clause-below c =
    subst (All (λ number. number < c.len.result)) (sym c.deref-2.ensures.value)
    (numbers_below c.number_tasks.new.tasks.keys c.deref.result.now c.in_ok-numbers.numbers.items c.len.result (sym c.len.ensures.len) c.in_ok-numbers.ensures.numbers)

pub name_pieces-requires-clause-few : goal.name_pieces-requires-clause-few
name_pieces-requires-clause-few c k d lt =
    let keys = c.args.keys.items in
    let bound = length (events_of_keys keys) + 1 in
    let small = few_of (events_of_keys keys) c.in_ok-pieces.pieces.items c.in_ok-pieces.ensures in
    let most = c.in_ok-most.ensures.within bound (subst (All (λ piece. piece ≤ bound)) (sym c.deref-3.ensures.value) small) in
    let here = subst (All (λ piece. piece ≤ bound)) (sym c.deref-4.ensures.value) most k d lt in
    omega (arith, here, length-map keys event_of_key, c.requires.few, c.in_ok-numbers.ensures.few, ap length c.deref.ensures.value)

pub invariant_of-result : goal.invariant_of-result
invariant_of-result c =
    let tasks = c.number_tasks.new.tasks.keys in
    let keys = c.args.keys.items in
    let are : tasks ≡ tasks_of (events_of_keys keys) = c.in_ok-numbers.ensures.tasks ∙ ap (λ (ks : List TaskKey). tasks_of (events_of_keys ks)) c.deref.ensures.value in
    let numbered = subst (λ (ks : List TaskKey). AreNumbers tasks ks c.in_ok-numbers.numbers.items) c.deref.ensures.value c.in_ok-numbers.ensures.numbers in
    let greatest = subst (λ (n : ℕ). AreGreatest c.in_ok-numbers.numbers.items c.in_ok-pieces.pieces.items n c.in_ok-most.most.items) c.len.ensures.len
    (subst (λ (ps : List ℕ). AreGreatest c.in_ok-numbers.numbers.items ps c.len.result c.in_ok-most.most.items) c.deref-3.ensures.value
    (subst (λ (ns : List ℕ). AreGreatest ns c.deref-3.result.now c.len.result c.in_ok-most.most.items) c.deref-2.ensures.value c.in_ok-most.ensures)) in
    let named = subst (λ (most : List ℕ). AreAllNames tasks most (length most) c.in_ok-names.names.items) c.deref-4.ensures.value c.in_ok-names.ensures in
    are_there keys tasks c.in_ok-numbers.numbers.items c.in_ok-pieces.pieces.items c.in_ok-most.most.items c.in_ok-names.names.items are numbered c.in_ok-pieces.ensures greatest named

pub returns : goal.returns
returns c =
    let tasks = c.number_tasks.new.tasks.keys in
    let keys = c.args.keys.items in
    let are : tasks ≡ tasks_of (events_of_keys keys) = c.in_ok-numbers.ensures.tasks ∙ ap (λ (ks : List TaskKey). tasks_of (events_of_keys ks)) c.deref.ensures.value in
    let numbered = subst (λ (ks : List TaskKey). AreNumbers tasks ks c.in_ok-numbers.numbers.items) c.deref.ensures.value c.in_ok-numbers.ensures.numbers in
    let greatest = subst (λ (n : ℕ). AreGreatest c.in_ok-numbers.numbers.items c.in_ok-pieces.pieces.items n c.in_ok-most.most.items) c.len.ensures.len
    (subst (λ (ps : List ℕ). AreGreatest c.in_ok-numbers.numbers.items ps c.len.result c.in_ok-most.most.items) c.deref-3.ensures.value
    (subst (λ (ns : List ℕ). AreGreatest ns c.deref-3.result.now c.len.result c.in_ok-most.most.items) c.deref-2.ensures.value c.in_ok-most.ensures)) in
    let named = subst (λ (most : List ℕ). AreAllNames tasks most (length most) c.in_ok-names.names.items) c.deref-4.ensures.value c.in_ok-names.ensures in
    names_are_those keys tasks c.in_ok-numbers.numbers.items c.in_ok-pieces.pieces.items c.in_ok-most.most.items c.in_ok-names.names.items are numbered c.in_ok-pieces.ensures greatest named
