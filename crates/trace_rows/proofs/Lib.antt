mod BookLemmas
mod ChunkLemmas
mod EdgeLemmas
mod MadeLemmas
mod PrintLemmas
mod ShownLemmas
mod TextLemmas
