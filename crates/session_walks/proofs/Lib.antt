mod Walkable
