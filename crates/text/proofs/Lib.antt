-- Laws of texts, of decimal numbers, and of a report's length.
pub mod Texts
pub mod Decimals
pub mod Reports
