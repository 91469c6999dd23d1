-- What the walk over two recordings promises.
pub mod Walk
pub mod Held
