use Rattle.std.proofs.Common.{◌≡◌, ◌∙◌, ℕ, List, get_or, slice_get, Some, length, take, ◌+◌, ap, arith, subst, sym}
use Rattle.std.proofs.lemmas.Option.{get_or_from_slice_get, slice_get-get_or}
use Rattle.task_pieces.specs.declared.task_key.TaskKey.{TaskKey}
use Rattle.task_pieces.specs.inner.Naming.{AreNumbers, with_text}
use Rattle.task_pieces.proofs.NumberLemmas.{grown_few, numbers_more, tasks_more}
use Rattle.task_pieces.proofs.PlacingLemmas.{no_key}
use Rattle.task_pieces.proofs.task_numbers.number_tasks.Goals as goal

pub loop-key-preserved : goal.loop-key-preserved
loop-key-preserved c =
    let i = c.loop-key.key-index in
    let keys = c.args.keys.now in
    let at = c.loop-key.invariant in
    let k : TaskKey = get_or keys i no_key in
    let lt = c.loop-key-test.true in
    let is : k ≡ get_or keys i k = sym (get_or_from_slice_get keys i k k (slice_get-get_or keys i no_key lt)) in
    let text : c.in_ok-new.field-0 ≡ k.task.now = c.in_ok-new.ensures in
    let texts : c.intern.new.texts.keys ≡ with_text c.loop-key.tasks.keys k.task.now = c.in_ok-number.ensures.texts ∙ ap (with_text c.loop-key.tasks.keys) text in
    let number : slice_get (with_text c.loop-key.tasks.keys k.task.now) c.in_ok-number.number ≡ Some k.task.now =
    ap (λ (ts : List (List ℕ)). slice_get ts c.in_ok-number.number) (sym texts) ∙ c.in_ok-number.ensures.number ∙ ap (λ (t : List ℕ). Some t) text in
    record {
      tasks = texts ∙ ap (λ (ts : List (List ℕ)). with_text ts k.task.now) at.tasks ∙ tasks_more keys i k lt is;
      few = omega (arith, ap length texts, grown_few c.loop-key.tasks.keys k.task.now, at.few);
      numbers = subst (λ (ts : List (List ℕ)). AreNumbers ts (take (i + 1) keys) c.push.new.self.items) (sym texts)
          (subst (AreNumbers (with_text c.loop-key.tasks.keys k.task.now) (take (i + 1) keys)) (sym c.in_ok-push.ensures.items) (numbers_more keys i k lt is c.loop-key.tasks.keys c.loop-key.numbers.items c.in_ok-number.number at.numbers number));
    }
