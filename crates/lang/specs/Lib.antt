-- The script language: programs, what they do, the steps of their calls, their bytes, and the theorems about them.
pub mod Program
pub mod Eval
pub mod Rules
pub mod Steps
pub mod Circle
pub mod Bytes
pub mod Reads
pub mod Theorems
pub mod Ackermann
pub mod Laws
