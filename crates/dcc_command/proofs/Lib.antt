pub mod CommandLineLemmas
mod WorkedExamples
