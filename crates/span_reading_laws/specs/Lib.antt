pub mod SpanReadings
