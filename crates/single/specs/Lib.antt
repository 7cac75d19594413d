-- Products of keys at one point: Products. The product over indices: Together. Products split over lanes of 16 bits: Split.
-- What a loop has left of a list: Left.
pub mod Products
pub mod Together
pub mod Split
pub mod Left
