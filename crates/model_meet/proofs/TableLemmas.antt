-- A table of mutual exclusions, entry by entry.
use Rattle.std.proofs.Common.{◌≡◌, ◌≢◌, ℕ, ◌+◌, ◌*◌, ◌<◌, ◌≤◌, ◌/◌, ◌%◌, Bool, List, [], ◌∷◌, ◌++◌, arith, sym, ap, ◌∙◌, subst, ⊎_elim}
use Rattle.std.proofs.lemmas.Bool.{cases_lt}
use Rattle.std.proofs.lemmas.List.{get_or_append_left, get_or_push, length_push}
use Rattle.std.proofs.lemmas.Nat.{div-mul-add, mod-mul-add}
use Rattle.model_meet.specs.ModelStates.{ModelState}
use Rattle.model_meet.specs.ExclusionTables.{HasEntries, TellsExclusion}

-- with the entry of the next pair the table has one more
pub entry_push : (model : ModelState) (name other : ℕ) (table : List Bool) (entry : Bool) → other < model.names → (name ≢ other → TellsExclusion model name other entry) → HasEntries model (name * model.names + other) table → HasEntries model (name * model.names + (other + 1)) (table ++ entry ∷ [])
entry_push model name other table entry below tells has = record {
  each = let e = has.each in let f = length_push table entry in omega arith;
  tell = λ a b d lt before differ. ⊎_elim
      (λ (old : a * model.names + b < name * model.names + other).
      subst (TellsExclusion model a b) (sym (get_or_append_left table (entry ∷ []) d (a * model.names + b) (let e = has.each in omega arith))) (has.tell a b d lt old differ))
      (λ (last : name * model.names + other ≤ a * model.names + b).
      let same : name * model.names + other ≡ a * model.names + b = omega arith in
      let first : name ≡ a = sym (div-mul-add name model.names other below) ∙ (ap (λ (k : ℕ). k / model.names) same ∙ div-mul-add a model.names b lt) in
      let second : other ≡ b = sym (mod-mul-add name model.names other below) ∙ (ap (λ (k : ℕ). k % model.names) same ∙ mod-mul-add a model.names b lt) in
      subst (TellsExclusion model a b) (sym (get_or_push table entry d (a * model.names + b) (has.each ∙ same)))
      (subst (λ (x : ℕ). TellsExclusion model x b entry) first (subst (λ (x : ℕ). TellsExclusion model name x entry) second (tells (λ (q : name ≡ other). differ (sym first ∙ (q ∙ second)))))))
      (cases_lt (a * model.names + b) (name * model.names + other));
}
