pub mod Cubes
pub mod Closing
pub mod Resolvents
