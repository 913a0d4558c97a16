pub mod Origins
pub mod Views
