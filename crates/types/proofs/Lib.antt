pub mod Choices
pub mod Padded
pub mod Class
pub mod Single
pub mod Numbered
pub mod Accepted
