-- What reconcile leaves, as far as the lines need it, and what follows line 2: Outcomes. From the buffer to the contracts: Answering.
pub mod Outcomes
pub mod Answering
