pub mod TextLemmas
pub mod FunctionLemmas
pub mod PlainLaws
pub mod StandardLaws
pub mod WorkedExamples
