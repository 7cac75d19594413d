-- Laws that proofs of this crate share: of the order of tests (Order), of the answer (Outcomes).
pub mod Order
pub mod Outcomes
