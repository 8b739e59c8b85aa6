-- What is promised, and document 01's starred cases.
pub mod Examples
pub mod Limits
pub mod TextExamples
pub mod Promises
