pub mod Integer
pub mod Reading
