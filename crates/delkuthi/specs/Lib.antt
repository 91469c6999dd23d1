-- What the parts of the report and the calls from C promise.
pub mod Host
pub mod Taking
pub mod Reporting
pub mod Summary
pub mod Lent
pub mod Decoded
pub mod Tables
pub mod Printed
pub mod Stamps
pub mod Joining
pub mod Program
pub mod TakingRecords
pub mod WithdrawingStep
pub mod Writing
