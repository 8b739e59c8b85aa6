-- Lists of pairs of files.
pub mod Lists
