mod Asked
mod Boards
mod Cubed
