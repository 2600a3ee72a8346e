pub mod Cubes
pub mod CubeEnds
pub mod Resting
pub mod Starting
