-- A list told legal at a glance: Order. A key looked for: Searching.
pub mod Order
pub mod Searching
