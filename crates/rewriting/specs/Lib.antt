-- Term rewriting, in the order in which to read it.
pub mod Terms
pub mod Steps
pub mod Termination
pub mod Pairs
pub mod Innermost
pub mod Chains
pub mod Systems
pub mod Contexts
