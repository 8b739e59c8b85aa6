-- The theory of rewriting, in the order in which to read it.

-- tests and lists, and nothing about terms
pub mod Basics
-- any relation: SN and finite derivations
pub mod Relations
-- terms, substitutions and their variables; roots and defined symbols; dependency pairs
pub mod Trees
pub mod Defined
pub mod Pairs
-- rewrite steps of a good system, and what derivations of each shape of tree look like
pub mod Steps
pub mod Derivations
-- full rewriting, by contexts
pub mod Contexts
-- innermost rewriting, and derivations with a count
pub mod Innermost
-- the dependency pair theorem: one way, the other way, both
pub mod TermsTerminate
pub mod ChainsTerminate
pub mod DependencyPairs
