pub mod Answers
pub mod Sight
pub mod Headers
pub mod OneSight
pub mod OutputLaws
pub mod Places
