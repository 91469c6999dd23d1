-- Why the words of a monitor that is made fresh are those of the fresh monitor over the table.
mod Names
mod Padding
mod Lists
mod Scanned
mod Freshness
pub mod Refusals
