pub mod PieceRows
pub mod ShownLaws
