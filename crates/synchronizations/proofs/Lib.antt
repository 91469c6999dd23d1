-- Why the machine of StrongSynchronization is exact, and fits a row.
pub mod Laws
