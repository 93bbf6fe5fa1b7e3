pub mod Told
pub mod Named
pub mod Value
pub mod Header
pub mod Segment
pub mod Version
