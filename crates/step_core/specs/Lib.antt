pub mod LinesLeft
pub mod Numbers
pub mod PlainDigits
pub mod StepFaults
pub mod StepFiles
pub mod StepLines
pub mod inner
