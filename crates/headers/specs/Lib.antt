pub mod Choice
pub mod Letters
pub mod Words
pub mod Header
pub mod Reading
pub mod Writing
pub mod Bytes
