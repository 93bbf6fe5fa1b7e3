pub mod Led
