-- Where variables come from, in words.
pub mod Origins
pub mod Views
