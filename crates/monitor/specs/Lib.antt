-- What the monitor is and promises: its machine, as functions on its records, and the contracts of its code.
pub mod Stepped
pub mod Machine
pub mod Contract
pub mod Parts
pub mod Beside
