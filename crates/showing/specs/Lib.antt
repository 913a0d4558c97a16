-- What a tree is shown as, and how it is printed.
pub mod Shown
pub mod Numbers
pub mod Printers
