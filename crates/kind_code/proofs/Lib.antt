pub mod CodeLaws
pub mod CodeTable
