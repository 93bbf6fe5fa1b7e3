pub mod State
pub mod Segment
pub mod Taking
pub mod Put
pub mod Accepts
pub mod Calls
