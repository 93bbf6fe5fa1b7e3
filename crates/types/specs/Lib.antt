pub mod Choice
pub mod Padded
pub mod Tag
pub mod Refusal
pub mod Answer
pub mod Writing
pub mod Acceptable
