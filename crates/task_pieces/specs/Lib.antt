pub mod PieceNames
pub mod Pieces
pub mod TaskEvents
pub mod TaskKeys
pub mod TaskNames
pub mod inner
