use Rattle.trace_types.proofs.named_trace.NamedTrace.copy.Goals as goal

pub invariant_of-result : goal.invariant_of-result
invariant_of-result c =
    let same = c.in_ok-copy_segments.ensures in
    let self = c.args.self.now in
    rw same (record {
      grace_within = self.grace_within;
      names_differ = self.names_differ;
      together = self.together;
      joined = self.joined;
      elements = self.elements;
    })
