use Rattle.std.proofs.Common.{◌≡◌, ℕ, ◌<◌, []}
use Rattle.word_rule.specs.Histories.{IsClearBetween, KnowsMore, IsOnePast, offered_until}
use Rattle.word_rule.proofs.tables.MeetTable.offer.Given as goal

abbrev pub ghosts-offer_entry : goal.ghosts-offer_entry
ghosts-offer_entry a = record { entries = a.row.now; plan = a.shared.now.key }

abbrev pub invariant-loop-at : goal.invariant-loop-at
invariant-loop-at l = record {
  table : l.pass-inside.seat.table_id ≡ l.fn.pass.table_id;
  shares : l.pass-inside.shares ≡ l.fn.pass.view.shares;
  view : l.pass-inside.seat.me.0.view ≡ offered_until l.fn.pass.view l.row l.at;
  held : l.pass-inside.seat.me.1 ≡ [];
  stands : (k : ℕ) → k < l.at → IsClearBetween l.self.width l.self.all l.fn.pass.pasts (offered_until l.fn.pass.view l.row k) l.row l.pass-inside.seat.me.0.pasts;
  more : KnowsMore l.fn.pass.pasts l.pass-inside.seat.me.0.pasts;
  one : 0 < l.at → IsOnePast l.pass-inside.seat.me.0.pasts;
}
