pub mod Written
pub mod Single
