-- How the code tells whether a text is in the grammar.
pub mod Grammar
