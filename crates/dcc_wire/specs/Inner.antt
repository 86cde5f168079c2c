-- Definitions that only contracts of private functions use.
pub mod Steps
pub mod OutcomeParts
pub mod OutcomesAt
pub mod KeptSteps
pub mod Lists
