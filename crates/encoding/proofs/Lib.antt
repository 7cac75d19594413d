-- Keys and bytes that a loop moves: Keys.
pub mod Keys
