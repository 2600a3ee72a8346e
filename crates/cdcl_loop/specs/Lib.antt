pub mod Agendas
pub mod Counts
pub mod Courses
pub mod Efforts
pub mod Engines
pub mod Values
