-- What the report returns: Answers.
pub mod Answers
