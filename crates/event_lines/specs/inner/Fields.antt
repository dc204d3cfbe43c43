-- The fields that the code reads of an event line, and the members that they are.
use Rattle.std.specs.Prelude.{◌≡◌, ◌*◌, false, codes, Some, option_map, unwrap_or}
use Rattle.serde_json.specs.Data.{Data}
use Rattle.event_table.specs.declared.event_fields.EventFields.{EventFields}
use Rattle.event_lines.specs.Members.{text_at, number_at}
use Rattle.event_lines.specs.TimeUnits.{time_unit_of, nanoseconds_in}
use Rattle.event_lines.specs.EventFaults.{lacks_member, has_wrong_kind, is_out_of_range, time_name}

-- the members are present, of their kinds and in range, and these are their values
pub record AreEventFields (f : EventFields) (d : Data) : Type 0 where
  pub complete : lacks_member d ≡ false
  pub kinds : has_wrong_kind d ≡ false
  pub in_range : is_out_of_range d ≡ false
  pub request : text_at (codes "request") d ≡ Some f.request.now
  pub machine : text_at (codes "machine") d ≡ Some f.machine.now
  pub task : text_at (codes "task") d ≡ Some f.task.now
  pub event : text_at (codes "event") d ≡ Some f.event.now
  pub time : nanoseconds_in (time_unit_of d) * unwrap_or (number_at (time_name d) d) 0 ≡ f.time
  pub send : text_at (codes "send") d ≡ option_map (λ s. s.now) f.send
  pub recv : text_at (codes "recv") d ≡ option_map (λ s. s.now) f.recv
