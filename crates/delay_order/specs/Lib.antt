-- The machines of rows of a source kind and a target kind.
pub mod Delay
pub mod StrongDelay
pub mod Order
