-- Laws of a page: its lines, its length, and what is read off it.
pub mod Lines
pub mod Pages
pub mod ReadBack
