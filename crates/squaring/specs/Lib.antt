-- The two parts of a polynomial and the polynomial that is 0 at the squares of its roots: Squares. The same in arrays: Levels.
pub mod Squares
pub mod Levels
