-- What home reads of the message that the dome sends: Sending.
pub mod Sending
