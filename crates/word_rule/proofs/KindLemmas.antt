-- Each kind of atomic step is a step of the step machine, or changes nothing.
use Rattle.std.proofs.Common.{◌≡◌, ℕ, ◌^◌, ◌<◌, ◌≤◌, ⊎_elim, lit<, Bool, true, false, ◌==◌, List, length, map, set, bit_and, slice_index, subst, sym, refl, ap, ◌∙◌}
use Rattle.std.specs.Prelude.{Ok, MatchBool}
use Rattle.std.proofs.lemmas.Bool.{cases_lt, eq-eqb, ne_eqb}
use Rattle.std.proofs.lemmas.List.{length-map, get_or_past}
use Rattle.std.specs.Int.{bit_not, w64}
use mathlib.Core.Option.{some}
use lib.ListN.{get_elem?}
use Rattle.atomic_table.specs.Table.{stepped, keeps}
use Rattle.word_rows.specs.declared.entries.Entry.{Entry}
use Rattle.word_rows.specs.declared.views.View.{View}
use Rattle.word_rows.specs.declared.events.StepEvent.{StepEvent}
use Rattle.word_rows.specs.declared.events.StepEvent.TheVariants.{Clear as clear, Load as load}
use Rattle.word_rows.specs.declared.replies.Reply.{Reply}
use Rattle.word_rows.specs.declared.replies.Reply.TheVariants.{Cleared, Loaded, Split, Joined}
use Rattle.word_rows.specs.Changes.{next_view, with_reading}
use Rattle.word_rows.specs.Machine.{step, entry_at}
use Rattle.word_rows.specs.Meeting.{ComplementClears}
use Rattle.word_rows.specs.Keeping.{EventsKeepSound}
use Rattle.word_rule.specs.declared.rule.Plan.{Plan}
use Rattle.word_rule.specs.declared.rule.Knowledge.{Knowledge}
use Rattle.word_rule.specs.Rule.{TableState, SeatState, view_of, is_seated, machine_state, HasHistory}
use Rattle.word_rule.specs.Plays.{Clears}
use Rattle.word_rule.specs.Kinds.{RuleIsSound, ClearIsStep, SkipIsStep, LookIsNoStep, LoadIsStep, TellIsNoStep, SplitIsStep, JoinIsStep, CloseIsStep, IsAt, with_seats, table_after}
use Rattle.word_rule.proofs.RuleLemmas.{sound_here, next_all, unchanged, machine_next, clear_is, skip_is, load_is, split_is, join_is, close_is}

pub rule_is_sound : EventsKeepSound → RuleIsSound
rule_is_sound sound plan s h = (sound_here plan s h sound).sound

-- the machine's step of a seat, with the view that it leaves
seat_is : (plan : Plan) (s : TableState) (id : ℕ) (k l : Knowledge) (e : StepEvent) (ws : List ℕ) (w : View) (reply : Reply) → IsAt plan s id k → l.view ≡ w → w.all ≡ k.view.all
    → step (machine_state plan s) e ≡ (record { words = ws; all = plan.all; views = set (map view_of s.views) id w; live = map is_seated (map view_of s.views) }, Ok reply)
    → step (machine_state plan s) e ≡ (machine_state plan (record { words = ws; homes = s.homes; views = set s.views id l }), Ok reply)
seat_is plan s id k l e ws w reply a left same is = is
    ∙ (λ j. (record { words = ws; all = plan.all; views = set (map view_of s.views) id (sym left j); live = map is_seated (map view_of s.views) }, Ok reply))
    ∙ λ j. (machine_next plan s a.history id k a.has l ws (ap (λ (v : View). v.all) left ∙ same) j, Ok reply)

-- a word of the table has 64 bits, and what is read past its end
word_fits : EventsKeepSound → (plan : Plan) (s : TableState) → HasHistory plan s → (i : ℕ) → slice_index s.words i < 2 ^ 64
word_fits sound plan s h i = ⊎_elim
    (λ (low : i < length s.words). (sound_here plan s h sound).bound i low)
    (λ (high : length s.words ≤ i). subst (λ (n : ℕ). n < 2 ^ 64) (sym (get_or_past s.words i 0 high)) (lit< tt))
    (cases_lt i (length s.words))

pub clear_is_step : EventsKeepSound → ComplementClears → ClearIsStep
clear_is_step sound complement plan s slots id before now row e found a m is fits play =
    let small : slice_index s.words e.word < 2 ^ 64 = word_fits sound plan s a.history e.word in
    seat_is plan s id before.0 now.0 (clear id row) _ _ (Cleared found) a play.view (next_all before.0.view row)
    (clear_is plan s a.history id before.0 a.has sound a.share row e m.can m.below_width m.next complement fits small
    ∙ λ j. (record { words = set s.words e.word (bit_and (sym is j) (bit_not w64 e.mask)); all = plan.all; views = set (map view_of s.views) id (next_view before.0.view row); live = map is_seated (map view_of s.views) }, Ok (Cleared (sym is j))))

pub skip_is_step : EventsKeepSound → SkipIsStep
skip_is_step sound plan s slots id before now row e found a m is free play =
    let test : (bit_and found (entry_at row before.0.view.cleared).mask == 0) ≡ true = eq-eqb _ 0 (ap (λ (x : Entry). bit_and found x.mask) m.next ∙ free) in
    let done : Clears plan row before now = subst (λ (t : Bool). MatchBool t (Clears plan row before now) (now ≡ before)) test play in
    seat_is plan s id before.0 now.0 (clear id row) _ _ (Cleared found) a done.view (next_all before.0.view row)
    (skip_is plan s a.history id before.0 a.has sound a.share row e m.can m.below_width m.next (ap (λ (n : ℕ). bit_and n e.mask) (sym is) ∙ free)
    ∙ λ j. (record { words = set s.words e.word (sym is j); all = plan.all; views = set (map view_of s.views) id (next_view before.0.view row); live = map is_seated (map view_of s.views) }, Ok (Cleared (sym is j))))

-- a load that leaves the seat leaves the table
same_table : (s : TableState) (id : ℕ) (before now : SeatState) (word found : ℕ) → get_elem? s.views id ≡ some before.0 → found ≡ slice_index s.words word → now ≡ before → table_after s id before now word found ≡ s
same_table s id before now word found at is same = (λ j. stepped s word (is j) id before.1 (same j).0 keeps) ∙ unchanged s word id before.0 at

pub look_is_no_step : LookIsNoStep
look_is_no_step plan s slots id before now row e found a m is bit play =
    let test : (bit_and found (entry_at row before.0.view.cleared).mask == 0) ≡ false = ne_eqb _ 0 (λ z. bit (ap (λ (x : Entry). bit_and found x.mask) (sym m.next) ∙ z)) in
    same_table s id before now e.word found a.has is (subst (λ (t : Bool). MatchBool t (Clears plan row before now) (now ≡ before)) test play)

pub load_is_step : EventsKeepSound → LoadIsStep
load_is_step sound plan s slots id word before now found a idle inside is play =
    seat_is plan s id before.0 now.0 (load id word) _ _ (Loaded found) a play.view refl
    (load_is plan s a.history id before.0 a.has sound a.share word idle inside
    ∙ λ j. (record { words = set s.words word (sym is j); all = plan.all; views = set (map view_of s.views) id (with_reading before.0.view word (sym is j)); live = map is_seated (map view_of s.views) }, Ok (Loaded (sym is j))))

pub tell_is_no_step : TellIsNoStep
tell_is_no_step plan s slots id word before now found a is play = same_table s id before now word found a.has is play.same

pub split_is_step : EventsKeepSound → SplitIsStep
split_is_step sound plan s id shares k seats a idle less q = split_is plan s a.history id k a.has sound a.share shares less idle
    ∙ λ j. (machine_state plan (with_seats s (sym q j)), Ok (Split (length-map s.views view_of j)))

pub join_is_step : EventsKeepSound → JoinIsStep
join_is_step sound plan s id other k l seats a there carried apart idle idle' q = join_is plan s a.history id k a.has sound a.share other l there carried apart idle idle'
    ∙ λ j. (machine_state plan (with_seats s (sym q j)), Ok Joined)

pub close_is_step : EventsKeepSound → CloseIsStep
close_is_step sound plan s id k a idle whole = close_is plan s a.history id k a.has sound a.share idle whole
