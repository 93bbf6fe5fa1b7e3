-- The theorems: the check is good exactly on text and else names the one bad place (Exactly), its sequences are the grammar's characters (Characters), and no text
-- has two readings (Reading). The other files lead up to them, or to the code (FirstByte, Following, Runs).
pub mod Ranges
pub mod Rows
pub mod Characters
pub mod Places
pub mod Answers
pub mod Exactly
pub mod Reading
pub mod Single
mod FirstByte
mod Following
mod Runs
