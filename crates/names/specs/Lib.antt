-- How names of files are shown, and how bytes at a buffer's start are counted.
pub mod Shown
pub mod Counts
