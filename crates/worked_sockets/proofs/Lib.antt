pub mod NewLines
