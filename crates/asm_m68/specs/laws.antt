pub mod Assembly
pub mod AssemblyLaws
pub mod FormLaws
pub mod Operands
pub mod Spelling
pub mod SpellingLaws
pub mod Table
