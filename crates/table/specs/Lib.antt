-- Edges in lent words, eight words a row, and looking one up.
pub mod Ends
pub mod Rows
pub mod Index
pub mod Tables
