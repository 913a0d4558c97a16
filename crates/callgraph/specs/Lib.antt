-- The call graph of a script in lent words.
pub mod Standing
pub mod StepRows
pub mod StepTables
pub mod Pending
