pub mod Header
pub mod Reading
pub mod Writing
pub mod Held
pub mod Item
pub mod Form
pub mod Room
