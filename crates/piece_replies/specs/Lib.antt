pub mod PieceReplies
