-- Why a call on a lent monitor is the monitor's.
mod Names
pub mod Blocks
pub mod Parts
pub mod Lists
pub mod RowSets
pub mod Midways
pub mod RefusalOrder
pub mod RowByRow
pub mod Concerned
pub mod RowLists
pub mod FreeSlots
pub mod Withdrawn
pub mod RecordedNumbers
pub mod EventSteps
pub mod ClockSteps
pub mod Laws
