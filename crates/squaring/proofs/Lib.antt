-- What one turn of each loop adds, and what its end says: Convolving, Filling.
pub mod Convolving
pub mod Filling
