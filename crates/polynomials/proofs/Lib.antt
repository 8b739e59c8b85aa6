-- What the judging of rules and pairs by linear interpretations means, and that it ends chains; in the order in which to read it.
pub mod Order
pub mod Meaning
pub mod LimitMeans
pub mod Small
pub mod Compared
pub mod Lists
pub mod Judged
pub mod Leaving
pub mod Substitution
pub mod Steps
pub mod Falls
pub mod Descent
pub mod Weighed
