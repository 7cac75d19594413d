-- The least of a list: Choosing. Roots put one after the other: Finding. Those of a polynomial of degree at most 1, and 0: Simple.
pub mod Choosing
pub mod Finding
pub mod Simple
