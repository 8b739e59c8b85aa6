-- What the proofs about names share, and what showing them comes to.
pub mod Showing
pub mod Apart
