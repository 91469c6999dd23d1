-- Why a row that is read back is the table's.
pub mod Bodies
pub mod Inverse
pub mod Kept
pub mod Values
pub mod Holding
pub mod Again
