-- Bytes and words at the front of a text: Tests, Words. A line of which the front was read: Ahead, KeyLines, ByteLines.
pub mod Tests
pub mod Words
pub mod Ahead
pub mod KeyLines
pub mod ByteLines
