-- What one turn of each loop adds, and what its end says: Folding, Growing, Ending.
pub mod Folding
pub mod Growing
pub mod Ending
