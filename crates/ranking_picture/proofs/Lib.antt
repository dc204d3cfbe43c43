mod GainLemmas
mod RankLemmas
mod StripLemmas
