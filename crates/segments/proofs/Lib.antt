pub mod Tested
pub mod Exactly
pub mod Untouched
pub mod Joined
pub mod Single
pub mod Examples
