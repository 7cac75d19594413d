-- What is found: Answers. The least that is left: Choice.
pub mod Answers
pub mod Choice
