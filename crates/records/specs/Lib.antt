-- Both files' records, and which may stand after which.
pub mod Outcomes
pub mod Records
pub mod Files
pub mod Order
pub mod Rows
pub mod Rising
pub mod Wanted
pub mod Answers
