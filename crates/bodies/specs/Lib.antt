pub mod Item
pub mod Plain
pub mod Body
pub mod Scan
pub mod Count
pub mod Given
pub mod Optional
pub mod Absent
