pub mod UnusedLaws
