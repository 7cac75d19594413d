-- The order of tests on a read and on a write: Order, Writes.
pub mod Order
pub mod Writes
