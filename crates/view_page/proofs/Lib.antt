mod ViewLemmas
