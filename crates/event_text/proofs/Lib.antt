pub mod QuotingLemmas
