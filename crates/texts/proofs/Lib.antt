-- What the definitions of texts mean: reading is the inverse of spelling; numbering use by use gives the numbers of first appearance;
-- every answer in document 02's words; and a good text's pack is read back.
pub mod Names
pub mod Grammar
pub mod Parsing
pub mod Places
pub mod Flat
pub mod Numbering
pub mod Sizes
pub mod GoodTexts
pub mod Answering
pub mod ReadBack
