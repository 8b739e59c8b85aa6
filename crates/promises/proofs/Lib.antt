-- Where the promises are kept.
pub mod Computed
pub mod ComputedTexts
pub mod Texts
pub mod Starred
pub mod Loop
pub mod Concrete
pub mod Largest
pub mod Refusing
pub mod Numbers
pub mod Kept
