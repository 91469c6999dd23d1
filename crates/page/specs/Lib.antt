-- What the page's record says, and what is written of it.
pub mod Sheet
pub mod ReadBack
