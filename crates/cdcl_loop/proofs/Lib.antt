pub mod Courses
pub mod Agendas
pub mod Trails
pub mod Restating
pub mod Values
pub mod Working
pub mod Assuming
