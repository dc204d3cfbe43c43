pub mod LaidLemmas
pub mod NestedLemmas
pub mod SegmentLemmas
pub mod SpanLemmas
