-- The room that an entry makes for keys: Room.
pub mod Room
