-- Many updates, one after the other: Folds.
pub mod Folds
