pub mod Counting
pub mod Listed
pub mod OwnBoard
pub mod Rails
