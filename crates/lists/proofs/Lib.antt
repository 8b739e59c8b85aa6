-- Lemmas on the tabs of a line, and on taking lines from a window.
pub mod Tabbing
pub mod Taking
