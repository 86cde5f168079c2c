pub mod PlainWords
pub mod Standard
pub mod StandardWords
pub mod PlainText
pub mod StandardLaws
