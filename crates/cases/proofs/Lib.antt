-- How long a sketch is: Room.
pub mod Room
