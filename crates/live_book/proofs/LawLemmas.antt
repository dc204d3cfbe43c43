-- What the rule says of any two callers.
use Rattle.std.proofs.Common.{◌≡◌, ◌≢◌, ℕ, zero, suc, ◌+◌, ◌<◌, ◌≤◌, inl, inr, ⊎_elim, set, nat_lt, List, [], ◌∷◌, length, sym, ap, subst, arith, ◌∙◌}
use Rattle.std.proofs.lemmas.Bool.{cases_eq, cases_lt}
use mathlib.Core.Option.{some, some-injective, some-ne-none}
use mathlib.Core.List.{IsPrefix}
use lib.ListN.{get_elem?}
use Rattle.atomic_table.proofs.Lists.{set_else}
use Rattle.live_journal.specs.declared.entry.Entry.{Entry}
use Rattle.live_book.specs.declared.rule.Turn.{Turn}
use Rattle.live_book.specs.Histories.{AllStand, TurnsLead}
use Rattle.live_book.specs.Laws.{FrontsAgree, LaterFindsMore, OneIsInTurn, PositionsDiffer, PositionsStand, TicketsDiffer, TurnsAgree}
use Rattle.live_book.specs.Rule.{total}
use Rattle.live_book.specs.Views.{empty_caller_view, had, position_count}
use Rattle.live_book.proofs.HistoryLemmas.{had_both, one_if, one_most, stand_both}
use Rattle.live_book.proofs.PrefixLemmas.{begins_longer, begins_other, begins_same}
use Rattle.live_book.proofs.StageLemmas.{stage_served}
use Rattle.live_book.proofs.TotalLemmas.{alone, total_at, total_set}

pub fronts_agree : FrontsAgree
fronts_agree plan s i j k l h =
    let f : IsPrefix k.front h.live.longest = h.live.fronts i k h.first in
    let g : IsPrefix l.front h.live.longest = h.live.fronts j l h.second in ⊎_elim
    (λ (t : length k.front < length l.front). inl (begins_other k.front l.front h.live.longest f g (omega arith)))
    (λ (t : length l.front ≤ length k.front). inr (begins_other l.front k.front h.live.longest g f t))
    (cases_lt (length k.front) (length l.front))

pub tickets_differ : TicketsDiffer
tickets_differ plan s i j n k l h a b = ⊎_elim
    (λ (t : j ≡ i). t)
    (λ (t : j ≢ i). absurd (alone n s.views (h.live.differ n) i j k l h.first h.second t a b))
    (cases_eq j i)

pub one_is_in_turn : OneIsInTurn
one_is_in_turn plan s i j k l h a b = let r = h.live in
    tickets_differ plan s i j r.served k l h (stage_served r.drawn r.served r.settled r.longest k.front k.stage (r.stages i k h.first) a) (stage_served r.drawn r.served r.settled r.longest l.front l.stage (r.stages j l h.second) b)

pub positions_differ : PositionsDiffer
positions_differ plan s i j p k l h a b = ⊎_elim
    (λ (t : j ≡ i). t)
    (λ (t : j ≢ i).
    let one : total (position_count p) s.views ≤ 1 = h.live.once p in
    let less : total (position_count p) (set s.views i empty_caller_view) + position_count p k ≡ total (position_count p) s.views + 0 = total_set (position_count p) s.views i k empty_caller_view h.first in
    let most = total_at (position_count p) (set s.views i empty_caller_view) j l (set_else s.views i j empty_caller_view t ∙ h.second) in absurd (omega arith))
    (cases_eq j i)

pub positions_stand : PositionsStand
positions_stand plan s i p k rule at a = ⊎_elim
    (λ (t : p < length rule.longest). t)
    (λ (t : length rule.longest ≤ p). let none = rule.below p t in let most = total_at (position_count p) s.views i k at in absurd (omega arith))
    (cases_lt p (length rule.longest))

pub turns_agree : TurnsAgree
turns_agree plan s i j k l h apart = let r = h.live.history in record {
  history = r.history;
  last = h.live.settled;
  leads = r.leads;
  stand = stand_both r.history k.history l.history (r.stand i k h.first) (r.stand j l h.second);
  once = λ n.
      let one : total (had n) s.views ≡ one_if (nat_lt n h.live.served) = r.once n in
      let most : one_if (nat_lt n h.live.served) ≤ 1 = one_most (nat_lt n h.live.served) in
      let less : total (had n) (set s.views i empty_caller_view) + had n k ≡ total (had n) s.views + 0 = total_set (had n) s.views i k empty_caller_view h.first in
      let other : had n l ≤ total (had n) (set s.views i empty_caller_view) = total_at (had n) (set s.views i empty_caller_view) j l (set_else s.views i j empty_caller_view apart ∙ h.second) in
      let both = had_both n k.history l.history in omega arith;
}

-- ---- turns of one history
later : (n : ℕ) (a : List Entry) (ts : List Turn) (b : List Entry) (j : ℕ) (u : Turn) → TurnsLead n a ts b → get_elem? ts j ≡ some u → IsPrefix a u.found
later n a [] b j u h e = absurd (some-ne-none u (sym e))
later n a (x ∷ ts) b zero u h e = begins_same a u.found (sym h.1 ∙ ap (λ (t : Turn). t.found) (some-injective x u e))
later n a (x ∷ ts) b (suc j) u h e = begins_longer a x.left u.found (subst (λ (l : List Entry). IsPrefix l x.left) h.1 h.2.begins) (later (n + 1) x.left ts b j u h.3 e)

follows : (n : ℕ) (a : List Entry) (ts : List Turn) (b : List Entry) (i j : ℕ) (t u : Turn) → TurnsLead n a ts b → get_elem? ts i ≡ some t → get_elem? ts j ≡ some u → i < j → IsPrefix t.left u.found
follows n a [] b i j t u h d e l = absurd (some-ne-none t (sym d))
follows n a (x ∷ ts) b zero zero t u h d e l = absurd (omega arith)
follows n a (x ∷ ts) b zero (suc j) t u h d e l = subst (λ (y : Turn). IsPrefix y.left u.found) (some-injective x t d) (later (n + 1) x.left ts b j u h.3 e)
follows n a (x ∷ ts) b (suc i) zero t u h d e l = absurd (omega arith)
follows n a (x ∷ ts) b (suc i) (suc j) t u h d e l = follows (n + 1) x.left ts b i j t u h.3 d e (omega arith)

stands : (past ts : List Turn) (i : ℕ) (t : Turn) → AllStand past ts → get_elem? ts i ≡ some t → get_elem? past t.ticket ≡ some t
stands past [] i t h e = absurd (some-ne-none t (sym e))
stands past (x ∷ ts) zero t h e = subst (λ (y : Turn). get_elem? past y.ticket ≡ some y) (some-injective x t e) h.0
stands past (x ∷ ts) (suc i) t h e = stands past ts i t h.1 e

pub later_finds_more : LaterFindsMore
later_finds_more turns i j t u h d e l = follows 0 [] h.history h.last t.ticket u.ticket t u h.leads (stands h.history turns i t h.stand d) (stands h.history turns j u h.stand e) l
