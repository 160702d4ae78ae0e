pub mod Tested
pub mod HexLaws
