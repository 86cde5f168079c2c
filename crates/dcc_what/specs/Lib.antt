pub mod Lines
pub mod Kinds
pub mod Sentences
pub mod Said
