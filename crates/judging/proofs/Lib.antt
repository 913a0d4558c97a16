pub mod Bridge
