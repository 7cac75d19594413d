-- The size gap by the two numbers that it is the difference of: Gap.
pub mod Gap
