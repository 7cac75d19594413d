-- The table of logarithms: Logarithms. The half of it that is held, and which keys read it which way: Half. The values of a set by sums of logarithms: Sums.
pub mod Logarithms
pub mod Half
pub mod Sums
