-- The thin step on a monitor that is lent.
pub mod Number
