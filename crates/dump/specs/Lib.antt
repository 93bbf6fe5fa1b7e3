pub mod Words
pub mod Room
pub mod Frame
pub mod Put
pub mod Puts
pub mod Stream
