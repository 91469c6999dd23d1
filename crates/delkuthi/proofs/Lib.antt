-- The laws of taking a recording and of telling its report.
mod Names
mod WordsRead
pub mod Hosts
pub mod Taking
pub mod Progress
pub mod TakenRecords
pub mod Summaries
mod Withdrawals
pub mod Reports
mod Numbers
pub mod Printing
pub mod RecordNumbers
mod WrittenRecords
pub mod Refusals
pub mod Adding
pub mod JoinNumbers
pub mod StampWords
pub mod Decoded
pub mod Editions
pub mod RoundTrip
