-- What a run over the real objects saw and told. They are fresh, so all that they tell came in it.
use Rattle.std.specs.Prelude.{ℕ, List, [], Some, Option}
use Rattle.mystery_io.specs.Prefixes.{Sends}
use Rattle.mystery_io.specs.RealObjects.{files_given, open_calls, sink_faults, sink_taken}
use Rattle.mystery_io.specs.declared.real_files.RealFiles.{RealFiles}
use Rattle.mystery_io.specs.declared.real_sink.RealSink.{RealSink}
use Rattle.mystery_run.specs.Runs.{Seen}

-- what it saw: its arguments, what its calls of `open` and `read` gave, and what its writes to the
-- sink of texts took
abbrev pub real_run_seen : {R F D W : Type 0} → List (List ℕ) → RealFiles R F D → RealSink W → Seen
real_run_seen words files out = record {
  words = words;
  files = record {
    readings = files_given files;
    opens_before = 0;
    opens_now = open_calls files;
  };
  written_before = Some [];
  written_now = Some (sink_taken out);
}

-- all the bytes were sent to the sink and no write failed, or a prefix of them and one write failed
abbrev pub IsSent : {W : Type 0} → RealSink W → List ℕ → Type 0
IsSent sink bytes =
    Sends (λ (s : Option (List ℕ) × ℕ). s.0) (λ s. s.1) (Some [], 0)
    (Some (sink_taken sink), sink_faults sink) bytes
