-- Arguments that ask for a drill ask for at most 20,000 traces, and give it nothing.
use Rattle.std.proofs.Common.{◌≡◌, ℕ, ◌≤◌, ◌^◌, List, [], ◌∷◌, Bool, true, false, Option, Some, None, option_map, refl, subst, codes}
use Rattle.std.specs.Prelude.{IfSome, if◌then◌else◌, nat_lt, nat_le, option_and_then, length}
use Rattle.std.specs.Int.{is_in_range}
use Rattle.std.specs.Str.{bytes_eq}
use Rattle.std.specs.List.{list_all}
use Rattle.std.proofs.lemmas.Bool.{and_parts, false≢true, leb-true}
use Rattle.mystery_run.specs.CommandLines.{Action, Call, action_of_words, action_over, action_under, after_given, call_of, call_of_words, call_under, call_with, change_of_words, drill, drill_of_words, evidence, evidence_of_words, evidence_over, evidence_reduced, evidence_with_least, given_in, is_filled, is_judged, is_option, named_action, named_view, one_file, replay, session, some_files, tail, verify, verify_of_words, view, view_alone, what_if, what_if_of_words, why, with_least}
use Rattle.evidence_rules.specs.declared.choice.Choice.{Choice}
use Rattle.mystery_run.specs.CommandLines.{number_between}
use Rattle.step_core.specs.Numbers.{plain_number}

-- a drill has few traces
abbrev IsFew : Action → Type 0
IsFew (session files) = Unit {0}
IsFew (view v files) = Unit {0}
IsFew (what_if change files) = Unit {0}
IsFew (tail files) = Unit {0}
IsFew (why files) = Unit {0}
IsFew (verify file files) = Unit {0}
IsFew (evidence choice files) = Unit {0}
IsFew (drill number traces) = traces ≤ 20000
IsFew (replay file) = Unit {0}

abbrev Few : Option Action → Type 0
Few o = IfSome o IsFew

few_if : (b : Bool) (x y : Option Action) → Few x → Few y → Few (if b then x else y)
few_if true x y h k = h
few_if false x y h k = k

few_map : {X : Type 0} (f : X → Action) → ((x : X) → IsFew (f x)) → (o : Option X) → Few (option_map f o)
few_map f each None = tt
few_map f each (Some x) = each x

few_then : {X : Type 0} (f : X → Option Action) → ((x : X) → Few (f x)) → (o : Option X) → Few (option_and_then f o)
few_then f each None = tt
few_then f each (Some x) = each x

in_range : (n t : ℕ) (b : Bool) → is_in_range 1 20000 t ≡ b → Few (option_map (drill n) (if b then Some t else None))
in_range n t true e = leb-true t 20000 (and_parts (nat_le 1 t) (nat_le t 20000) e).1
in_range n t false e = tt

drill_of : (n : ℕ) (o : Option ℕ) → Few (option_map (drill n) (option_and_then (λ t. if is_in_range 1 20000 t then Some t else None) o))
drill_of n None = tt
drill_of n (Some t) = in_range n t (is_in_range 1 20000 t) refl

drill_few : (words : List (List ℕ)) → Few (drill_of_words words)
drill_few [] = tt
drill_few (number ∷ []) = tt
drill_few (number ∷ traces ∷ []) = few_then (λ n. option_map (drill n) (number_between 1 20000 traces)) (λ n. drill_of n (plain_number traces)) (number_between 0 2147483647 number)
drill_few (number ∷ traces ∷ more ∷ words) = tt

what_if_few : (words : List (List ℕ)) → Few (what_if_of_words words)
what_if_few [] = tt
what_if_few (a ∷ []) = tt
what_if_few (a ∷ b ∷ []) = tt
what_if_few (a ∷ b ∷ c ∷ []) = tt
what_if_few (a ∷ b ∷ c ∷ d ∷ []) = tt
what_if_few (a ∷ b ∷ c ∷ d ∷ e ∷ files) = few_then (λ change. option_map (what_if change) (some_files files)) (λ change. few_map (what_if change) (λ x. tt) (some_files files)) (change_of_words a b c d e)

verify_few : (words : List (List ℕ)) → Few (verify_of_words words)
verify_few [] = tt
verify_few (file ∷ files) = few_if (is_filled file) (option_map (verify file) (some_files files)) None (few_map (verify file) (λ x. tt) (some_files files)) tt

evidence_over_few : (choice : Choice) (words : List (List ℕ)) → Few (evidence_over choice words)
evidence_over_few choice [] = tt
evidence_over_few choice (file ∷ files) = few_if (is_option file) None (option_map (evidence choice) (some_files (file ∷ files))) tt (few_map (evidence choice) (λ x. tt) (some_files (file ∷ files)))

least_few : (rest : ℕ → List (List ℕ) → Option Action) → ((n : ℕ) (words : List (List ℕ)) → Few (rest n words)) → (words : List (List ℕ)) → Few (with_least rest words)
least_few rest each [] = tt
least_few rest each (number ∷ words) = few_then (λ n. rest n words) (λ n. each n words) (number_between 1 2147483647 number)

with_least_few : (least : ℕ) (words : List (List ℕ)) → Few (evidence_with_least least words)
with_least_few least [] = tt
with_least_few least (word ∷ words) = few_if (bytes_eq word (codes "--reduced")) _ _ (evidence_over_few _ words) (evidence_over_few _ (word ∷ words))

reduced_few : (words : List (List ℕ)) → Few (evidence_reduced words)
reduced_few [] = tt
reduced_few (word ∷ words) = few_if (bytes_eq word (codes "--least")) _ _ (least_few _ (λ n more. evidence_over_few _ more) words) (evidence_over_few _ (word ∷ words))

evidence_few : (words : List (List ℕ)) → Few (evidence_of_words words)
evidence_few [] = tt
evidence_few (word ∷ words) =
    few_if (bytes_eq word (codes "--least")) _ _ (least_few evidence_with_least with_least_few words) (
    few_if (bytes_eq word (codes "--reduced")) _ _ (reduced_few words) (evidence_over_few _ (word ∷ words)))

over_few : (name : List ℕ) (words : List (List ℕ)) → Few (action_over name words)
over_few name words =
    few_if (bytes_eq name (codes "session")) _ _ (few_map session (λ x. tt) (some_files words)) (
    few_if (bytes_eq name (codes "tail")) _ _ (few_map tail (λ x. tt) (some_files words)) (
    few_if (bytes_eq name (codes "why")) _ _ (few_map why (λ x. tt) (some_files words)) (
    few_if (bytes_eq name (codes "replay")) _ _ (few_map replay (λ x. tt) (one_file words))
    (few_then (λ v. option_map (view v) (some_files words)) (λ v. few_map (view v) (λ x. tt) (some_files words)) (named_view name)))))

named_few : (name : List ℕ) (words : List (List ℕ)) → Few (named_action name words)
named_few name words =
    few_if (bytes_eq name (codes "whatif")) _ _ (what_if_few words) (
    few_if (bytes_eq name (codes "verify")) _ _ (verify_few words) (
    few_if (bytes_eq name (codes "evidence")) _ _ (evidence_few words) (
    few_if (bytes_eq name (codes "drill")) _ _ (drill_few words) (over_few name words))))

action_few : (words : List (List ℕ)) → Few (action_of_words words)
action_few [] = tt
action_few (name ∷ words) = named_few name words

-- ---- what is given
-- a drill is given nothing
abbrev IsAlone : List (List ℕ) → Action → Type 0
IsAlone given (session files) = Unit {0}
IsAlone given (view v files) = Unit {0}
IsAlone given (what_if change files) = Unit {0}
IsAlone given (tail files) = Unit {0}
IsAlone given (why files) = Unit {0}
IsAlone given (verify file files) = Unit {0}
IsAlone given (evidence choice files) = Unit {0}
IsAlone given (drill number traces) = given ≡ []
IsAlone given (replay file) = Unit {0}

alone_none : (a : Action) → IsAlone [] a
alone_none (session files) = tt
alone_none (view v files) = tt
alone_none (what_if change files) = tt
alone_none (tail files) = tt
alone_none (why files) = tt
alone_none (verify file files) = tt
alone_none (evidence choice files) = tt
alone_none (drill number traces) = refl
alone_none (replay file) = tt

alone_judged : (given : List (List ℕ)) (a : Action) → is_judged a ≡ true → IsAlone given a
alone_judged given (session files) e = tt
alone_judged given (view v files) e = tt
alone_judged given (what_if change files) e = tt
alone_judged given (tail files) e = tt
alone_judged given (why files) e = tt
alone_judged given (verify file files) e = tt
alone_judged given (evidence choice files) e = tt
alone_judged given (drill number traces) e = absurd (false≢true e)
alone_judged given (replay file) e = tt

-- a drill has few traces and is given nothing
abbrev IsGood : List (List ℕ) → Action → Type 0
IsGood given a = IsFew a × IsAlone given a

abbrev Good : List (List ℕ) → Option Action → Type 0
Good given o = IfSome o (IsGood given)

good_none : (o : Option Action) → Few o → Good [] o
good_none None h = tt
good_none (Some a) h = (h, alone_none a)

good_judged : (given : List (List ℕ)) (o : Option Action) → Few o → Good given (option_and_then (λ a. if is_judged a then Some a else None) o)
good_judged given None h = tt
good_judged given (Some a) h = by (is_judged a) refl
  where
    by : (b : Bool) → is_judged a ≡ b → Good given (if b then Some a else None)
    by true e = (h, alone_judged given a e)
    by false e = tt

good_if : (given : List (List ℕ)) (b : Bool) (x y : Option Action) → Good given x → Good given y → Good given (if b then x else y)
good_if given true x y h k = h
good_if given false x y h k = k

good_alone : (given : List (List ℕ)) (name : List ℕ) → Good given (view_alone name)
good_alone given name = good_if given (bytes_eq name (codes "model")) _ _ (tt, tt) (good_if given (bytes_eq name (codes "summarize")) _ _ (tt, tt) tt)

good_under : (given words : List (List ℕ)) → Good given (action_under words)
good_under given [] = tt
good_under given (name ∷ []) = good_alone given name
good_under given (name ∷ more ∷ words) = good_judged given (action_of_words (name ∷ more ∷ words)) (action_few (name ∷ more ∷ words))

-- the action of a call is so
abbrev FewCall : Option Call → Type 0
FewCall o = IfSome o (λ (c : Call). IsGood c.given c.action)

call_if : (b : Bool) (x y : Option Call) → FewCall x → FewCall y → FewCall (if b then x else y)
call_if true x y h k = h
call_if false x y h k = k

call_map : (workers : ℕ) (given : List (List ℕ)) (o : Option Action) → Good given o → FewCall (option_map (λ a. record { workers = workers; given = given; action = a }) o)
call_map workers given None h = tt
call_map workers given (Some a) h = h

under_few : (workers : ℕ) (given form : List (List ℕ)) → FewCall (call_under workers given form)
under_few workers [] form = call_map workers [] (action_of_words form) (good_none (action_of_words form) (action_few form))
under_few workers (file ∷ files) form =
    call_if (list_all is_filled (file ∷ files)) _ None (call_map workers (file ∷ files) (action_under form) (good_under (file ∷ files) form)) tt

workers_few : (workers : Option ℕ) (form : List (List ℕ)) → FewCall (option_and_then (λ n. call_with n form) workers)
workers_few None form = tt
workers_few (Some n) form = under_few n (given_in form) (after_given form)

words_few : (words : List (List ℕ)) → FewCall (call_of_words words)
words_few [] = under_few 4 (given_in []) (after_given [])
words_few (first ∷ []) = under_few 4 (given_in (first ∷ [])) (after_given (first ∷ []))
words_few (first ∷ second ∷ form) =
    call_if (bytes_eq first (codes "--workers")) _ _ (workers_few (number_between 1 64 second) form)
    (under_few 4 (given_in (first ∷ second ∷ form)) (after_given (first ∷ second ∷ form)))

call_few : (words : List (List ℕ)) → FewCall (call_of words)
call_few words = call_if (nat_lt (length words) (2 ^ 32)) (call_of_words words) None (words_few words) tt

pub few_traces : (words : List (List ℕ)) (workers number traces : ℕ) (given : List (List ℕ)) → call_of words ≡ Some (record { workers = workers; given = given; action = drill number traces }) → (traces ≤ 20000) × (given ≡ [])
few_traces words workers number traces given called = subst FewCall called (call_few words)
