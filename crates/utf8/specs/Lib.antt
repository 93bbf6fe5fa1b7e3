pub mod Table
pub mod Text
pub mod Check
pub mod Answer
pub mod Lead
pub mod Place
