-- Exponents of 3: Generated. From the squares back to the roots: Descent. What each function answers: Steps.
pub mod Generated
pub mod Descent
pub mod Steps
