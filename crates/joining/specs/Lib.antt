pub mod Card
pub mod Delay
pub mod Delays
pub mod ModeSets
pub mod Modes
pub mod Region
pub mod Seed
pub mod Semilattice
