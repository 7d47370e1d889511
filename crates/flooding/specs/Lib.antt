pub mod Agreement
pub mod Heard
pub mod Model
pub mod Posts
pub mod Rounds
pub mod Trees
pub mod Worked
