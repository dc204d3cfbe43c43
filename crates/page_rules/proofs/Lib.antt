mod WorkedLemmas
